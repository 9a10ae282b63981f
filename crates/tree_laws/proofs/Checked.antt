-- The tests of a table tell that it is well-formed.
use Rattle.std.proofs.Common.{ℕ, ◌-◌, ◌≤◌, leb, List, get_or, Decides, refl}
use Rattle.std.proofs.lemmas.Bool.{leb-true, le-leb}
use Rattle.std.proofs.lemmas.Bool.Decides.{Decides-ltb, Decides-and}
use Rattle.tree_laws.specs.declared.Node.{Node}
use Rattle.tree_laws.specs.declared.Node.TheVariants.{Skip, Move as Single, Choice, Sequence, Loop, Parallel}
use Rattle.tree_laws.specs.Routes.{Lower, Proper, WellFormed}
use Rattle.tree_laws.specs.Checked.{is_lower, is_proper, Checked}

decides_leb : (a b : ℕ) → Decides (leb a b) (a ≤ b)
decides_leb a b = (leb-true a b, le-leb a b)

decides_lower : (v a : ℕ) → Decides (is_lower v a) (Lower v a)
decides_lower v a = Decides-and _ _ (decides_leb 1 a) (Decides-ltb a v)

pub decides_proper : (n v : ℕ) (x : Node) → Decides (is_proper n v x) (Proper n v x)
decides_proper n v Skip = (λ e. tt, λ p. refl)
decides_proper n v (Single m) = Decides-and _ _ (decides_leb 1 m) (decides_leb m n)
decides_proper n v (Choice a b) = Decides-and _ _ (decides_lower v a) (decides_lower v b)
decides_proper n v (Sequence a b) = Decides-and _ _ (decides_lower v a) (decides_lower v b)
decides_proper n v (Loop a b) = Decides-and _ _ (decides_lower v a) (decides_lower v b)
decides_proper n v (Parallel a b) = Decides-and _ _ (decides_lower v a) (decides_lower v b)

pub well_formed : (n : ℕ) (t : List Node) → Checked n t → WellFormed n t
well_formed n t h v low high = (decides_proper n v (get_or t (v - 1) Skip)).0 (h v low high)

pub checked : (n : ℕ) (t : List Node) → WellFormed n t → Checked n t
checked n t h v low high = (decides_proper n v (get_or t (v - 1) Skip)).1 (h v low high)
