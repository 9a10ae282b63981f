-- What the values of this crate stand for: a word's items, a play's moves, the windows of a cut.
use Rattle.std.specs.Prelude.{ℕ, List, map}
use Rattle.fixed_vec.specs.Lists.{list_of}
use Rattle.windows.specs.declared.cuts.Cut.{Cut}
use Rattle.windows.specs.declared.plays.Play.{Play}
use Rattle.windows.specs.declared.words.Word.{Word}

abbrev pub word_items : Word → List ℕ
word_items w = list_of w.items

abbrev pub play_moves : Play → List ℕ
play_moves p = list_of p.moves

abbrev pub cut_windows : Cut → List (List ℕ)
cut_windows c = map word_items (list_of c.windows)
