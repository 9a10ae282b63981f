-- The states of a loop, kept in a list.
use Rattle.std.proofs.Common.{◌≡◌, ℕ, ◌+◌, ◌<◌, Bool, List, [], ◌∷◌, ◌++◌, length, get_or, take, sym, ap, ◌∙◌, subst, add-one, length-append, arith}
use Rattle.std.specs.Prelude.{bit_and, bit_or}
use Rattle.std.proofs.lemmas.List.{get_or-map, map-append, take_all}
use Rattle.tree_laws.specs.Boundaries.{next_a, next_b}
use Rattle.tree_laws.specs.Computed.{ors, state_bit, states, rest_bits, run_standing}
use Rattle.standings.specs.declared.loops.States.{States}
use Rattle.standings.specs.Loops.{columns}

module _ (l : List States) (i : ℕ) (inside : i < length l) where
  pub a_at : (get_or l i record { a = 0; b = 0 }).a ≡ get_or (columns l).0 i 0
  a_at = sym (get_or-map (λ s. s.a) l i record { a = 0; b = 0 } 0 inside)

  pub b_at : (get_or l i record { a = 0; b = 0 }).b ≡ get_or (columns l).1 i 0
  b_at = sym (get_or-map (λ s. s.b) l i record { a = 0; b = 0 } 0 inside)

-- l has the states at the first n positions
pub record Held (middle : Bool) (sa sb : List ℕ → ℕ) (u : List ℕ) (n : ℕ) (l : List States) : Type 0 where
  pub long : length l ≡ n
  pub same : columns l ≡ states middle sa sb u n

module _ (middle : Bool) (sa sb : List ℕ → ℕ) (u : List ℕ) (l : List States) where
  -- one position more, where the list has room for six
  pub held_more : (n : ℕ) (x : States) → n < 6 → Held middle sa sb u n l
      → x.a ≡ state_bit middle sa sb u (columns l) (length l) next_a
      → x.b ≡ state_bit middle sa sb u (columns l) (length l) next_b
      → Held middle sa sb u (n + 1) (take 6 (l ++ (x ∷ [])))
  held_more n x room held a b =
      let long : length (l ++ (x ∷ [])) ≡ n + 1 = omega (arith, held.long, length-append l (x ∷ [])) in
      let whole = take_all 6 (l ++ (x ∷ [])) (omega arith) in
      subst (Held middle sa sb u (n + 1)) (sym whole)
      record {
        long = long;
        same =
            (λ i. (map-append (λ s. s.a) l (x ∷ []) i, map-append (λ s. s.b) l (x ∷ []) i))
            ∙ (λ i. ((columns l).0 ++ (a i ∷ []), (columns l).1 ++ (b i ∷ [])))
            ∙ (λ i. ((held.same i).0 ++ (state_bit middle sa sb u (held.same i) (held.long i) next_a ∷ []), (held.same i).1 ++ (state_bit middle sa sb u (held.same i) (held.long i) next_b ∷ [])))
            ∙ ap (states middle sa sb u) (sym (add-one n));
      }

  pub run_is : (r : ℕ) → Held middle sa sb u (length u + 1) l → r ≡ ors (rest_bits sa sb u (columns l)) (length l)
      → bit_or (bit_and (get_or l (length u) record { a = 0; b = 0 }).b 8) (bit_and r 2) ≡ run_standing middle sa sb u
  run_is r held e =
      let last = b_at l (length u) (omega (arith, held.long)) in
      (λ i. bit_or (bit_and (last i) 8) (bit_and (e i) 2))
      ∙ (λ i. bit_or (bit_and (get_or (held.same i).1 (length u) 0) 8) (bit_and (ors (rest_bits sa sb u (held.same i)) (held.long i)) 2))
