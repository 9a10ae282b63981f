-- The parts of a word of moves that its standing is worked out from are words too.
use Rattle.std.proofs.Common.{ℕ, ◌-◌, ◌≤◌, List, [], length, take, drop, arith}
use Rattle.std.proofs.lemmas.List.Elements.{All-drop, All-nil, All-take}
use Rattle.std.proofs.lemmas.List.{length-take, length-drop}
use Rattle.terms.specs.Codes.{Word}
use Rattle.terms.specs.Words.{Move, Moves}
use Rattle.row_laws.proofs.Keys.{items_from_moves}

module _ (n k : ℕ) (u : List ℕ) (moves : Moves n u) (short : length u ≤ k) where
  part : (w : List ℕ) → Moves n w → length w ≤ length u → Word n k w
  part w of fits = record { items = items_from_moves n w of; short = omega arith }

  pub whole_word : Word n k u
  whole_word = part u moves (omega arith)

  pub empty_word : Word n k []
  empty_word = part [] (All-nil (Move n)) (omega arith)

  pub front_word : (j : ℕ) → Word n k (take j u)
  front_word j = part _ (All-take (Move n) j u moves) (omega (arith, length-take j u))

  pub back_word : (j : ℕ) → Word n k (drop j u)
  back_word j = part _ (All-drop (Move n) j u moves) (omega (arith, length-drop j u))

  pub piece_word : (i j : ℕ) → Word n k (take (j - i) (drop i u))
  piece_word i j = part _ (All-take (Move n) (j - i) _ (All-drop (Move n) i u moves)) (omega (arith, length-take (j - i) (drop i u), length-drop i u))
