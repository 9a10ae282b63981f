-- Words of moves have codes below the base's power, and the keys of their rows tell nodes and words apart.
use Rattle.std.proofs.Common.{◌≡◌, ℕ, ◌+◌, ◌*◌, ◌/◌, ◌%◌, ◌^◌, ◌<◌, ◌≤◌, List, [], ◌∷◌, ◌++◌, length, All, sym, ap, ◌∙◌, inl}
use lib.Arith.{digits_div, digits_mod}
use Rattle.std.proofs.lemmas.List.Elements.{All-weaker}
use Rattle.terms.specs.Codes.{Item, Word, base, code}
use Rattle.terms.specs.Words.{Move, Moves}
use Rattle.terms.proofs.Codes.{code_apart, code_below, code_push, digit_move}
use Rattle.row_laws.specs.Rows.{row_key}

pub items_from_moves : (n : ℕ) (u : List ℕ) → Moves n u → All (Item n) u
items_from_moves n u moves = All-weaker (Move n) (Item n) (λ x m. inl m) u moves

module _ (n k : ℕ) (few : n ≤ 12) where
  pub word_from_moves : (u : List ℕ) → Moves n u → length u ≤ k → Word n k u
  word_from_moves u moves short = record { items = items_from_moves n u moves; short = short }

  pub code_of_moves : (u : List ℕ) → Moves n u → length u ≤ k → code n u < base n ^ k
  code_of_moves u moves short = code_below n few k u (word_from_moves u moves short)

  pub same_word : (u w : List ℕ) → Moves n u → Moves n w → code n u ≡ code n w → u ≡ w
  same_word u w mu mw e = code_apart n few u w (items_from_moves n u mu) (items_from_moves n w mw) e

  -- one move more at the end
  pub code_of_push : (u : List ℕ) (m : ℕ) → Move n m → code n (u ++ (m ∷ [])) ≡ code n u * base n + m
  code_of_push u m move = code_push n few u m ∙ ap (λ d. code n u * base n + d) (digit_move n few m move)

  pub row_keys_apart : (v x : ℕ) (u w : List ℕ) → Moves n u → length u ≤ k → Moves n w → length w ≤ k → row_key n k v u ≡ row_key n k x w → (v ≡ x) × (u ≡ w)
  row_keys_apart v x u w mu su mw sw e =
      let p = base n ^ k in
      let low = code_of_moves u mu su in
      let high = code_of_moves w mw sw in (
        sym (digits_div v low) ∙ ap (λ key. key / p) e ∙ digits_div x high,
        same_word u w mu mw (sym (digits_mod v low) ∙ ap (λ key. key % p) e ∙ digits_mod x high),
      )
