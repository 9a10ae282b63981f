use Rattle.std.proofs.Common.{◌+◌, ◌*◌, ◌<◌, length}
use Rattle.terms.specs.Codes.{base}
use Rattle.windows.specs.Values.{word_items}
use Rattle.trees.specs.Planting.{SameMemory, Underway}
use Rattle.trees.specs.Trees.{At}
use Rattle.trees.proofs.tree.TreeNode.extend.Given as goal

abbrev pub invariant-loop-x : goal.invariant-loop-x
invariant-loop-x g l =
    (length (word_items l.word) < l.self.tree.now.alphabet.order)
    × At l.self Underway (l.parent * base l.self.tree.now.alphabet.moves + l.x) (g.R.Rack.view l.rack)
    × SameMemory (g.R.Rack.view l.initial.rack) (g.R.Rack.view l.rack)
