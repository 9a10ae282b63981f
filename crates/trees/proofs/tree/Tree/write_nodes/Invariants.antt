use Rattle.trees.specs.Planting.{SameMemory, Finished}
use Rattle.trees.specs.Trees.{For}
use Rattle.trees.proofs.tree.Tree.write_nodes.Given as goal

abbrev pub invariant-loop-before : goal.invariant-loop-before
invariant-loop-before g l = For l.self Finished l.before (g.R.Rack.view l.rack) × SameMemory (g.R.Rack.view l.initial.rack) (g.R.Rack.view l.rack)
