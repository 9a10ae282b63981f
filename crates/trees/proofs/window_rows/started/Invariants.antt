use Rattle.std.proofs.Common.{◌≡◌, ◌∷◌, take}
use Rattle.terms.specs.Words.{start_mark}
use Rattle.windows.specs.Values.{word_items}
use Rattle.trees.proofs.window_rows.started.Given as goal

abbrev pub invariant-loop-item : goal.invariant-loop-item
invariant-loop-item l = word_items l.word ≡ start_mark ∷ take l.item-index l.items
