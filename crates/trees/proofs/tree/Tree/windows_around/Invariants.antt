use Rattle.trees.specs.Planting.{SameMemory, NextWindow}
use Rattle.trees.specs.Trees.{For}
use Rattle.windows.specs.Values.{word_items}
use Rattle.trees.proofs.tree.Tree.windows_around.Given as goal

abbrev pub invariant-loop-marks : goal.invariant-loop-marks
invariant-loop-marks g l =
    For l.self NextWindow (word_items l.word) l.standing l.marks-index (g.R.Rack.view l.rack)
    × SameMemory (g.R.Rack.view l.initial.rack) (g.R.Rack.view l.rack)
