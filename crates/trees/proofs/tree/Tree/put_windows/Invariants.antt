use Rattle.std.proofs.Common.{◌+◌, ◌-◌, ◌*◌, ◌≤◌}
use Rattle.trees.specs.Planting.{SameMemory, Windows}
use Rattle.trees.specs.Trees.{For}
use Rattle.trees.proofs.tree.Tree.put_windows.Given as goal

abbrev pub invariant-loop-key : goal.invariant-loop-key
invariant-loop-key g l =
    (l.start + l.from ≤ l.end)
    × For l.self Windows (4 * l.from) (g.R.Rack.view l.rack)
    × SameMemory (g.R.Rack.view l.initial.rack) (g.R.Rack.view l.rack)

abbrev pub decreases-loop-key : goal.decreases-loop-key
decreases-loop-key g l = l.end - (l.start + l.from)
