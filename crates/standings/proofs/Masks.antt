-- The split of a word by a mask: both parts are words, and the step of the loop over the items.
use Rattle.std.proofs.Common.{◌≡◌, ℕ, ◌+◌, ◌/◌, ◌^◌, ◌<◌, ◌≤◌, cond, List, [], ◌∷◌, ◌++◌, length, get_or, take, sym, ap, ◌∙◌, arith}
use Rattle.std.specs.Prelude.{bit_and}
use Rattle.std.proofs.lemmas.Bool.{eq-eqb, ne_eqb}
use Rattle.std.proofs.lemmas.List.{take_all, length-take}
use Rattle.std.proofs.lemmas.Nat.Bits.{shr_and_one}
use Rattle.terms.specs.Words.{Move}
use Rattle.windows.specs.declared.alphabet.Alphabet.{Alphabet}
use Rattle.tree_laws.specs.Selections.{picked, left_out}
use Rattle.tree_laws.proofs.Computed.{parts_all, parts_long}
use Rattle.tree_laws.proofs.Masks.{selected, picked_more, left_more}
use Rattle.standings.specs.Rows.{ShortMoves}

pub parts : (a : Alphabet) (u : List ℕ) (m : ℕ) → ShortMoves a u → ShortMoves a (picked m u) × ShortMoves a (left_out m u)
parts a u m of =
    let all = parts_all (Move a.moves) (selected m u) of.moves in
    let long = parts_long (selected m u) in
    (record { moves = all.0; short = omega (arith, of.short) }, record { moves = all.1; short = omega (arith, of.short) })

-- a list with room for n items takes what a part of the word has
room : (n : ℕ) (u : List ℕ) (m : ℕ) → length u ≤ n → (take n (picked m u) ≡ picked m u) × (take n (left_out m u) ≡ left_out m u)
room n u m short =
    let long = parts_long (selected m u) in
    (take_all n (picked m u) (omega arith), take_all n (left_out m u) (omega arith))

-- l and r are the parts of the first i items, and the next item goes to one of them
module _ (m : ℕ) (u : List ℕ) (i : ℕ) (inside : i < length u) (n : ℕ) (short : length u ≤ n)
    {l r : List ℕ} (left : l ≡ picked m (take i u)) (right : r ≡ left_out m (take i u)) where
  fits : length (take (i + 1) u) ≤ n
  fits = omega (arith, length-take (i + 1) u)

  pub next_picked : bit_and (m / 2 ^ i) 1 ≡ 1 → (take n (l ++ (get_or u i 0 ∷ [])) ≡ picked m (take (i + 1) u)) × (r ≡ left_out m (take (i + 1) u))
  next_picked set =
      let on = eq-eqb _ 1 (sym (shr_and_one m i) ∙ set) in
      let more = picked_more m u i 0 inside ∙ ap (λ b. cond b (picked m (take i u) ++ (get_or u i 0 ∷ [])) (picked m (take i u))) on in
      let less = left_more m u i 0 inside ∙ ap (λ b. cond b (left_out m (take i u)) (left_out m (take i u) ++ (get_or u i 0 ∷ []))) on in
      (ap (λ p. take n (p ++ (get_or u i 0 ∷ []))) left ∙ ap (take n) (sym more) ∙ (room n (take (i + 1) u) m fits).0, right ∙ sym less)

  pub next_left : (bit_and (m / 2 ^ i) 1 ≡ 1 → ⊥) → (l ≡ picked m (take (i + 1) u)) × (take n (r ++ (get_or u i 0 ∷ [])) ≡ left_out m (take (i + 1) u))
  next_left unset =
      let off = ne_eqb _ 1 (λ e. unset (shr_and_one m i ∙ e)) in
      let less = picked_more m u i 0 inside ∙ ap (λ b. cond b (picked m (take i u) ++ (get_or u i 0 ∷ [])) (picked m (take i u))) off in
      let more = left_more m u i 0 inside ∙ ap (λ b. cond b (left_out m (take i u)) (left_out m (take i u) ++ (get_or u i 0 ∷ []))) off in
      (left ∙ sym less, ap (λ p. take n (p ++ (get_or u i 0 ∷ []))) right ∙ ap (take n) (sym more) ∙ (room n (take (i + 1) u) m fits).1)
