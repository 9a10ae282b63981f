-- Codes lie below the base's power, tell words apart, rise with the length, and give their words back.
use Rattle.std.proofs.Common.{◌≡◌, ℕ, ◌+◌, ◌*◌, ◌/◌, ◌%◌, ◌^◌, ◌<◌, ◌≤◌, List, [], ◌∷◌, ◌++◌, map, length, get_or, take, All, sym, refl, ap, ◌∙◌, subst, inl, inr, ⊎_elim, le_trans, mul-le-mul_right, add-mul, arith}
use native.Mathlib.Nat.{pow-le-pow_left, pow-le-pow_right}
use lib.Arith.{digits_div, digits_mod}
use Rattle.std.specs.Int.Digits.{number_from_digits, digits_of}
use Rattle.std.proofs.lemmas.Int.Digits.{number_push, number_lt, digits_of_step}
use Rattle.std.proofs.lemmas.List.Elements.{All-head, All-map, All-tail, All-weaker, recursion_from_All}
use Rattle.std.proofs.lemmas.List.{length-map, length_push, map_push, take_more}
use Rattle.std.proofs.lemmas.Bool.{cases_eq}
use Rattle.std.proofs.lemmas.Bool.Decides.{nat_tests}
use Rattle.terms.proofs.Ends.{from_the_end, by_ends, all_before_last}
use Rattle.terms.specs.Codes.{Item, Word, base, digit, item, code}
use Rattle.terms.specs.Words.{Move}

-- digits of which none is 0
abbrev pub Positive : ℕ → List ℕ → Type 0
Positive b ds = All (λ d. (1 ≤ d) × (d < b)) ds

module _ (n : ℕ) (few : n ≤ 12) where
  pub digit_move : (x : ℕ) → Move n x → digit n x ≡ x
  digit_move x m = grind (arith, nat_tests)

  pub digit_range : (x : ℕ) → Item n x → (1 ≤ digit n x) × (digit n x < base n)
  digit_range x i = (grind (arith, nat_tests), grind (arith, nat_tests))

  pub item_digit : (x : ℕ) → Item n x → item n (digit n x) ≡ x
  item_digit x i = grind (arith, nat_tests)

  -- a digit from 1 to n + 2 is that of its item
  pub digit_item : (d : ℕ) → 1 ≤ d → d < base n → Item n (item n d) × (digit n (item n d) ≡ d)
  digit_item d low high = (
    elim (cases_eq d (n + 1)) [
      | inl start ↦ inr (inl (grind (arith, nat_tests)))
      | inr other ↦ elim (cases_eq d (n + 2)) [ inl end ↦ inr (inr (grind (arith, nat_tests))) | inr neither ↦ inl (grind (arith, nat_tests), grind (arith, nat_tests)) ]
    ],
    grind (arith, nat_tests),
  )

  pub positive : (u : List ℕ) → All (Item n) u → Positive (base n) (map (digit n) u)
  positive u items = All-map (λ d. (1 ≤ d) × (d < base n)) (digit n) u (All-weaker (Item n) (λ x. (1 ≤ digit n x) × (digit n x < base n)) digit_range u items)

module _ (b : ℕ) (two : 2 ≤ b) where
  -- the last digit and the rest of a number that digits write
  number_last : (es : List ℕ) (d : ℕ) → d < b → (number_from_digits b (es ++ (d ∷ [])) / b ≡ number_from_digits b es) × (number_from_digits b (es ++ (d ∷ [])) % b ≡ d)
  number_last es d h = (ap (λ m. m / b) (number_push b es d) ∙ digits_div (number_from_digits b es) h, ap (λ m. m % b) (number_push b es d) ∙ digits_mod (number_from_digits b es) h)

  -- digits of which none is 0 come back from their number
  pub digits_back : (ds : List ℕ) → Positive b ds → digits_of b (number_from_digits b ds) ≡ ds
  digits_back =
      by_ends (λ ds. Positive b ds → digits_of b (number_from_digits b ds) ≡ ds)
      (λ es d before h.
      let parts = all_before_last (λ x. (1 ≤ x) × (x < b)) es d h in
      let last = number_last es d parts.1.1 in
      let more : 0 < number_from_digits b (es ++ (d ∷ [])) = rw (number_push b es d) (omega (arith, parts.1.0)) in
      rw (digits_of_step b (number_from_digits b (es ++ (d ∷ []))) two more, last.0, last.1, before parts.0))
      (λ h. refl)

  -- more digits write a larger number
  pub longer_larger : (ds es : List ℕ) → Positive b ds → Positive b es → length ds < length es → number_from_digits b ds < number_from_digits b es
  longer_larger =
      by_ends (λ ds. (es : List ℕ) → Positive b ds → Positive b es → length ds < length es → number_from_digits b ds < number_from_digits b es)
      (λ ds d before es h k l.
      let front = all_before_last (λ x. (1 ≤ x) × (x < b)) ds d h in
      ⊎_elim
      (λ none. absurd (omega (arith, ap length none)))
      (λ (fs, e, is).
      let parts = all_before_last (λ x. (1 ≤ x) × (x < b)) fs e (subst (Positive b) is k) in
      let less : number_from_digits b ds < number_from_digits b fs = before fs front.0 parts.0 (omega (arith, length_push ds d, ap length is ∙ length_push fs e)) in
      let scaled : (number_from_digits b ds + 1) * b ≤ number_from_digits b fs * b = mul-le-mul_right b (omega arith) in
      omega (arith, number_push b ds d, ap (number_from_digits b) is ∙ number_push b fs e, scaled, add-mul (number_from_digits b ds) 1 b, front.1.1))
      (from_the_end es))
      (λ es h k l.
      ⊎_elim
      (λ none. absurd (omega (arith, ap length none)))
      (λ (fs, e, is).
      let parts = all_before_last (λ x. (1 ≤ x) × (x < b)) fs e (subst (Positive b) is k) in
      omega (arith, ap (number_from_digits b) is ∙ number_push b fs e, parts.1.0))
      (from_the_end es))

-- the largest base to the power of the largest order is 15 ^ 5
pub power_small : (b k : ℕ) → b ≤ 15 → k ≤ 5 → b ^ k ≤ 759375
power_small b k low high =
    let five : 15 ^ k ≤ 15 ^ 5 = pow-le-pow_right {n = 15} (omega arith) high in
    le_trans (pow-le-pow_left low k) five

module _ (n : ℕ) (few : n ≤ 12) where
  items_back : (u : List ℕ) → All (Item n) u → map (item n) (map (digit n) u) ≡ u
  items_back [] h = refl
  items_back (x ∷ u) h = (λ i. item_digit n few x (All-head (Item n) x u h) i ∷ items_back u (All-tail (Item n) x u h) i)

  -- the digits of a code are those of its word
  pub digits_of_code : (u : List ℕ) → All (Item n) u → digits_of (base n) (code n u) ≡ map (digit n) u
  digits_of_code u items = digits_back (base n) (omega arith) (map (digit n) u) (positive n few u items)

  pub word_of_code : (u : List ℕ) → All (Item n) u → map (item n) (digits_of (base n) (code n u)) ≡ u
  word_of_code u items = ap (map (item n)) (digits_of_code u items) ∙ items_back u items

  -- two words with one code are one word
  pub code_apart : (u v : List ℕ) → All (Item n) u → All (Item n) v → code n u ≡ code n v → u ≡ v
  code_apart u v hu hv e = sym (word_of_code u hu) ∙ ap (λ c. map (item n) (digits_of (base n) c)) e ∙ word_of_code v hv

  -- a longer word has a larger code
  pub code_longer : (u v : List ℕ) → All (Item n) u → All (Item n) v → length u < length v → code n u < code n v
  code_longer u v hu hv l =
      longer_larger (base n) (omega arith) (map (digit n) u) (map (digit n) v) (positive n few u hu) (positive n few v hv)
      (omega (arith, length-map u (digit n), length-map v (digit n)))

  code_lt_length : (u : List ℕ) → All (Item n) u → code n u < base n ^ length u
  code_lt_length u items =
      rw length-map at (number_lt (base n) (map (digit n) u) (recursion_from_All (λ d. d < base n) (map (digit n) u) (All-weaker (λ d. (1 ≤ d) × (d < base n)) (λ d. d < base n) (λ d h. h.1) (map (digit n) u) (positive n few u items))))

  -- a code lies below the base's power
  pub code_below : (k : ℕ) (u : List ℕ) → Word n k u → code n u < base n ^ k
  code_below k u w = le_trans (code_lt_length u w.items) (pow-le-pow_right (omega arith) w.short)

  pub code_small : (u : List ℕ) → All (Item n) u → length u ≤ 5 → code n u < 759375
  code_small u items short = le_trans (code_below 5 u (record { items = items; short = short })) (power_small (base n) 5 (omega arith) (omega arith))

  -- one item more at the end
  pub code_push : (u : List ℕ) (x : ℕ) → code n (u ++ (x ∷ [])) ≡ code n u * base n + digit n x
  code_push u x = ap (number_from_digits (base n)) (map_push (digit n) u x) ∙ number_push (base n) (map (digit n) u) (digit n x)

  pub code_more : (w : List ℕ) (i : ℕ) → i < length w → code n (take (i + 1) w) ≡ code n (take i w) * base n + digit n (get_or w i 0)
  code_more w i h = ap (code n) (take_more w i 0 h) ∙ code_push (take i w) (get_or w i 0)
