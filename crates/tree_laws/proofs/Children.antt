-- What holds of every lower node holds of the children of a proper one.
use Rattle.std.proofs.Common.{ℕ}
use Rattle.tree_laws.specs.declared.Node.{Node}
use Rattle.tree_laws.specs.declared.Node.TheVariants.{Skip, Move as Single, Choice, Sequence, Loop, Parallel}
use Rattle.tree_laws.specs.Children.{first_child, second_child}
use Rattle.tree_laws.specs.Routes.{Lower, Proper}
use Rattle.tree_laws.specs.Standings.{Children}

pub children_from : (n v : ℕ) (P : ℕ → ℕ → Type 0) (x : Node) → Proper n v x → ((a : ℕ) → Lower v a → P a a) → Children x (P (first_child x)) (P (second_child x))
children_from n v P Skip p below = tt
children_from n v P (Single m) p below = tt
children_from n v P (Choice a b) p below = (below a p.0, below b p.1)
children_from n v P (Sequence a b) p below = (below a p.0, below b p.1)
children_from n v P (Loop a b) p below = (below a p.0, below b p.1)
children_from n v P (Parallel a b) p below = (below a p.0, below b p.1)
