use Rattle.std.proofs.Common.{take}
use Rattle.terms.specs.Words.{Moves}
use Rattle.windows.proofs.alphabet.first_wrong.Given as goal

abbrev pub invariant-loop-i : goal.invariant-loop-i
invariant-loop-i l = Moves l.n (take l.i l.items)
