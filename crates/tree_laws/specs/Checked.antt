-- A well-formed table by tests: an equation for each node, for where a type must have at most one proof.
use Rattle.std.specs.Prelude.{◌≡◌, ℕ, ◌-◌, ◌≤◌, Bool, true, ◌&&◌, List, length, nat_le, nat_lt, slice_index_or}
use Rattle.tree_laws.specs.declared.Node.{Node}
use Rattle.tree_laws.specs.declared.Node.TheVariants.{Skip, Move as Single, Choice, Sequence, Loop, Parallel}

abbrev pub is_move : ℕ → ℕ → Bool
is_move n m = nat_le 1 m && nat_le m n

abbrev pub is_lower : ℕ → ℕ → Bool
is_lower v a = nat_le 1 a && nat_lt a v

abbrev pub is_proper : ℕ → ℕ → Node → Bool
is_proper n v Skip = true
is_proper n v (Single m) = is_move n m
is_proper n v (Choice a b) = is_lower v a && is_lower v b
is_proper n v (Sequence a b) = is_lower v a && is_lower v b
is_proper n v (Loop a b) = is_lower v a && is_lower v b
is_proper n v (Parallel a b) = is_lower v a && is_lower v b

abbrev pub Checked : ℕ → List Node → Type 0
Checked n t = (v : ℕ) → 1 ≤ v → v ≤ length t → is_proper n v (slice_index_or t (v - 1) Skip) ≡ true
