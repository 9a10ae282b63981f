-- Codes of words with one item more, and the way back from a code.
use Rattle.std.proofs.Common.{◌≡◌, ℕ, ◌+◌, ◌*◌, ◌-◌, ◌/◌, ◌%◌, ◌^◌, ◌<◌, ◌≤◌, ◌≢◌, List, [], ◌∷◌, ◌++◌, length, get_or, take, drop, All, Option, Some, None, MatchOption, sym, ap, ◌∙◌, subst, ⊎_elim, mod-lt, arith}
use Rattle.std.proofs.Math.Nat.{div-add-mod, mul_comm}
use lib.Arith.{digits_div, digits_mod}
use Rattle.std.proofs.lemmas.List.Elements.{All-more, All-push}
use Rattle.std.proofs.lemmas.List.{drop-append-le, length-take-le, length_push, take_more}
use Rattle.terms.specs.Codes.{Item, Word, base, digit, item, code}
use Rattle.terms.proofs.Ends.{from_the_end, all_before_last}
use Rattle.terms.proofs.Codes.{digit_item, digit_range, code_apart, code_below, code_longer, code_more, code_push, code_small}
use Rattle.windows.specs.Promises.{Coded, NoWordWith, WordWith}

drop_last : (w : List ℕ) (k i x : ℕ) → k ≢ 0 → k ≤ length w → i ≤ k - 1 → get_or w (k - 1) 0 ≡ x → drop i (take k w) ≡ drop i (take (k - 1) w) ++ (x ∷ [])
drop_last w k i x some long le is =
    let more : take (k - 1 + 1) w ≡ take (k - 1) w ++ (x ∷ []) = take_more w (k - 1) 0 (omega arith) ∙ ap (λ y. take (k - 1) w ++ (y ∷ [])) is in
    let e : take k w ≡ take (k - 1) w ++ (x ∷ []) = subst (λ j. take j w ≡ take (k - 1) w ++ (x ∷ [])) (omega arith) more in
    let room : i ≤ length (take (k - 1) w) = omega (arith, length-take-le (k - 1) w (omega arith)) in
    ap (drop i) e ∙ drop-append-le i (take (k - 1) w) (x ∷ []) room

module _ (n : ℕ) (few : n ≤ 12) where
  -- with one item more the code of a part of a word stays small
  pub room_more : (w : List ℕ) (i : ℕ) → i < length w → length w ≤ 5 → All (Item n) (take i w) → Item n (get_or w i 0) → code n (take i w) * base n + digit n (get_or w i 0) < 759375
  room_more w i inside short items here =
      let long : length (take (i + 1) w) ≤ 5 = omega (arith, length-take-le (i + 1) w (omega arith)) in
      subst (λ m. m < 759375) (code_more n few w i inside) (code_small n few (take (i + 1) w) (All-more (Item n) w i 0 inside items here) long)

  pub coded : (k : ℕ) (w : List ℕ) (c : ℕ) → All (Item n) w → length w ≤ k → c ≡ code n w → Coded n k w c
  coded k w c items short is =
      let word : Word n k w = record { items = items; short = short } in
      record {
        word = word;
        is = is;
        below = subst (λ m. m < base n ^ k) (sym is) (code_below n few k w word);
        apart = λ v other e. code_apart n few v w other.items items (e ∙ is);
        longer = λ v other l. subst (λ m. m < code n v) (sym is) (code_longer n few w v items other.items l);
      }

  module _ (k b c : ℕ) (same : b ≡ base n) (more : 0 < c) where
    -- a word with the code c, without its last item
    record Front (u : List ℕ) : Type 0 where
      front : List ℕ
      last : ℕ
      split : u ≡ front ++ (last ∷ [])
      word : Word n (k - 1) front
      is : code n front ≡ c / b
      move : Item n last
      low : digit n last ≡ c % b

    front_of : (u : List ℕ) → Word n k u → code n u ≡ c → Front u
    front_of u word e =
        ⊎_elim
        (λ none. absurd (omega (arith, e, ap (code n) none)))
        (λ (v, x, split).
        let parts = all_before_last (Item n) v x (subst (All (Item n)) split word.items) in
        let sum : code n v * base n + digit n x ≡ c = sym (code_push n few v x) ∙ ap (code n) (sym split) ∙ e in
        let small = (digit_range n few x parts.1).1 in
        record {
          front = v;
          last = x;
          split = split;
          word = record { items = parts.0; short = omega (arith, word.short, ap length split ∙ length_push v x) };
          is = rw same (sym (digits_div (code n v) small) ∙ ap (λ m. m / base n) sum);
          move = parts.1;
          low = rw same (sym (digits_mod (code n v) small) ∙ ap (λ m. m % base n) sum);
        })
        (from_the_end u)

    -- no word has the code where none has what is left without the lowest digit
    pub nobody_front : NoWordWith n (k - 1) (c / b) → NoWordWith n k c
    nobody_front none u word e = let f = front_of u word e in none f.front f.word f.is

    -- nor where the lowest digit is 0, which is no item's
    pub nobody_zero : c % b ≡ 0 → NoWordWith n k c
    nobody_zero zero u word e = let f = front_of u word e in omega (arith, zero, f.low, digit_range n few f.last f.move)

    -- nor where only the word without items is short enough
    pub nobody_short : k ≡ 0 → NoWordWith n k c
    nobody_short none u word e = let f = front_of u word e in omega (arith, word.short, ap length f.split ∙ length_push f.front f.last)

    pub one_more : (w : List ℕ) → WordWith n (k - 1) (c / b) w → c % b ≢ 0 → k ≢ 0 → WordWith n k c (w ++ (item n (c % b) ∷ []))
    one_more w front some room =
        let d = c % b in
        let at = digit_item n few d (omega arith) (subst (λ i. d < i) same (mod-lt c (omega (arith, same)))) in (
          record { items = All-push (Item n) w (item n d) front.0.items at.0; short = omega (arith, front.0.short, length_push w (item n d)) },
          code_push n few w (item n d) ∙ ap (λ y. code n w * base n + y) at.1 ∙ ap (λ i. code n w * i + d) (sym same) ∙ ap (λ y. y * b + d) front.1 ∙ ap (λ y. y + d) (mul_comm (c / b) b) ∙ div-add-mod c b,
        )

    -- one item more at the end of what was spelled, or of nothing
    pub spelled : (r : Option ℕ) (w : List ℕ) → k ≢ 0 → c % b ≢ 0 → k ≤ length w → get_or w (k - 1) 0 ≡ item n (c % b) → MatchOption r (NoWordWith n (k - 1) (c / b)) (λ i. (i ≤ k - 1) × WordWith n (k - 1) (c / b) (drop i (take (k - 1) w))) → MatchOption r (NoWordWith n k c) (λ i. (i ≤ k) × WordWith n k c (drop i (take k w)))
    spelled None w room some long last front = nobody_front front
    spelled (Some i) w room some long last front = (omega (arith, front.0), subst (WordWith n k c) (sym (drop_last w k i (item n (c % b)) room long front.0 last)) (one_more (drop i (take (k - 1) w)) front.1 some room))
