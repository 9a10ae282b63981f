use Rattle.std.proofs.Common.{◌+◌, ◌-◌, ◌*◌, ◌≤◌}
use Rattle.terms.specs.Codes.{base}
use Rattle.trees.specs.Planting.{SameMemory, Underway}
use Rattle.trees.specs.Trees.{At}
use Rattle.trees.proofs.tree.TreeNode.write_longer.Given as goal

abbrev pub invariant-loop-key : goal.invariant-loop-key
invariant-loop-key g l =
    (l.start + l.from ≤ l.end)
    × At l.self Underway (l.from * base l.self.tree.now.alphabet.moves + 1) (g.R.Rack.view l.rack)
    × SameMemory (g.R.Rack.view l.initial.rack) (g.R.Rack.view l.rack)

abbrev pub decreases-loop-key : goal.decreases-loop-key
decreases-loop-key g l = l.end - (l.start + l.from)
