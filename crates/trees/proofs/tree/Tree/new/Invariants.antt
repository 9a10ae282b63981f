use Rattle.fixed_vec.specs.Lists.{list_of}
use Rattle.trees.proofs.Tables.{Sofar}
use Rattle.trees.proofs.tree.Tree.new.Given as goal

abbrev pub invariant-loop-i : goal.invariant-loop-i
invariant-loop-i l = Sofar l.alphabet.moves l.table l.i (list_of l.nodes)
