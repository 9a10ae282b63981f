use Rattle.std.proofs.Common.{rules, ◌∙◌}
use Rattle.std.proofs.lemmas.List.{take_all}
use Rattle.windows.proofs.alphabet.Alphabet.play.Goals as goal

pub returns : goal.returns
returns c = (c.from_slice.ensures ∙ take_all _ _ c.if-moves-gt-MOST_MOVES.false, c.if-moves-gt-MOST_MOVES.false, search rules)
