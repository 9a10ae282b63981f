-- What a node prints: its kind, and its move or its children.
use Rattle.std.specs.Prelude.{ℕ, List, ◌++◌, codes, decimal}
use Rattle.tree_laws.specs.declared.Node.{Node}
use Rattle.tree_laws.specs.declared.Node.TheVariants.{Skip, Move as Single, Choice, Sequence, Loop, Parallel}

abbrev pub text : Node → List ℕ
text Skip = codes "skip"
text (Single m) = codes "move " ++ decimal m
text (Choice a b) = codes "choice of " ++ decimal a ++ codes " and " ++ decimal b
text (Sequence a b) = decimal a ++ codes ", then " ++ decimal b
text (Loop a b) = codes "loop of " ++ decimal a ++ codes " and " ++ decimal b
text (Parallel a b) = decimal a ++ codes " and " ++ decimal b ++ codes " in parallel"
