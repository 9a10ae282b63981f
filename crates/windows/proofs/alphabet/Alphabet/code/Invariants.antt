use Rattle.std.proofs.Common.{◌≡◌, take, All}
use Rattle.terms.specs.Codes.{Item, code}
use Rattle.windows.proofs.alphabet.Alphabet.code.Given as goal

abbrev pub invariant-loop-item : goal.invariant-loop-item
invariant-loop-item l = All (Item l.self.moves) (take l.item-index l.word) × (l.code ≡ code l.self.moves (take l.item-index l.word))
