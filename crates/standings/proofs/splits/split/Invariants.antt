use Rattle.std.proofs.Common.{◌≡◌, take}
use Rattle.fixed_vec.specs.Lists.{list_of}
use Rattle.tree_laws.specs.Selections.{picked, left_out}
use Rattle.standings.proofs.splits.split.Given as goal

abbrev pub invariant-loop-i : goal.invariant-loop-i
invariant-loop-i l = (list_of l.inside ≡ picked l.mask (take l.i l.word)) × (list_of l.outside ≡ left_out l.mask (take l.i l.word))
