-- The children of a node, 0 where it has none.
use Rattle.std.specs.Prelude.{ℕ}
use Rattle.tree_laws.specs.declared.Node.{Node}
use Rattle.tree_laws.specs.declared.Node.TheVariants.{Skip, Move as Single, Choice, Sequence, Loop, Parallel}

abbrev pub first_child : Node → ℕ
first_child Skip = 0
first_child (Single m) = 0
first_child (Choice a b) = a
first_child (Sequence a b) = a
first_child (Loop a b) = a
first_child (Parallel a b) = a

abbrev pub second_child : Node → ℕ
second_child Skip = 0
second_child (Single m) = 0
second_child (Choice a b) = b
second_child (Sequence a b) = b
second_child (Loop a b) = b
second_child (Parallel a b) = b
