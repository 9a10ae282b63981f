-- The states of a loop kept in two arrays, of which only the positions below the current one are known.
use Rattle.std.proofs.Common.{◌≡◌, ℕ, ◌+◌, ◌-◌, ◌/◌, ◌<◌, Bool, List, [], ◌∷◌, ◌++◌, length, get_or, take, drop, set, sym, refl, ap, ◌∙◌, add-one, arith, get_or-take}
use lib.Bits.{bit_and, bit_or}
use Rattle.std.proofs.lemmas.List.{take_more_set}
use Rattle.tree_laws.specs.Boundaries.{Turn, next_a, next_b, other}
use Rattle.tree_laws.specs.Computed.{ors, of_turn, start_bit, piece_bit, direct_bit, state_bit, states, rest_bits, run_standing}
use Rattle.tree_laws.proofs.Bits.{ors_same}

-- p and q have the same states below j
pub record SameBelow (j : ℕ) (p q : List ℕ × List ℕ) : Type 0 where
  pub a_side : (i : ℕ) → i < j → get_or p.0 i 0 ≡ get_or q.0 i 0
  pub b_side : (i : ℕ) → i < j → get_or p.1 i 0 ≡ get_or q.1 i 0

-- the arrays hold the states below j
pub record Holds (middle : Bool) (sa sb : List ℕ → ℕ) (u : List ℕ) (j : ℕ) (na nb : List ℕ) : Type 0 where
  pub a_front : take j na ≡ (states middle sa sb u j).0
  pub b_front : take j nb ≡ (states middle sa sb u j).1

module _ (middle : Bool) (sa sb : List ℕ → ℕ) (u : List ℕ) where
  pub same_held : (j : ℕ) (na nb : List ℕ) → Holds middle sa sb u j na nb → SameBelow j (na, nb) (states middle sa sb u j)
  same_held j na nb h = record {
    a_side = λ i l. sym (get_or-take j na i 0 l) ∙ ap (λ s. get_or s i 0) h.a_front;
    b_side = λ i l. sym (get_or-take j nb i 0 l) ∙ ap (λ s. get_or s i 0) h.b_front;
  }

  module _ (p q : List ℕ × List ℕ) (j : ℕ) (same : SameBelow j p q) where
    side_same : (m : Turn) (i : ℕ) → i < j → get_or (of_turn p.0 p.1 m) i 0 ≡ get_or (of_turn q.0 q.1 m) i 0
    side_same next_a = same.a_side
    side_same next_b = same.b_side

    pub direct_same : (m : Turn) → direct_bit middle sa sb u p j m ≡ direct_bit middle sa sb u q j m
    direct_same m =
        ap (bit_or (start_bit middle sa sb u j m))
        (ors_same (piece_bit sa sb u (of_turn p.0 p.1 (other m)) j (other m)) (piece_bit sa sb u (of_turn q.0 q.1 (other m)) j (other m)) j
        (λ i l. ap (λ s. bit_and s (of_turn sa sb (other m) (take (j - i) (drop i u)))) (side_same (other m) i l)))

    pub state_same : (m : Turn) → state_bit middle sa sb u p j m ≡ state_bit middle sa sb u q j m
    state_same m = (λ k. bit_or (direct_same m k) (bit_and (direct_same (other m) k) (of_turn sa sb (other m) [])))

    pub rests_same : ors (rest_bits sa sb u p) j ≡ ors (rest_bits sa sb u q) j
    rests_same = ors_same (rest_bits sa sb u p) (rest_bits sa sb u q) j (λ i l k. bit_or (bit_and (same.a_side i l k / 4) (sa (drop i u))) (bit_and (same.b_side i l k / 4) (sb (drop i u))))

  pub holds_none : (na nb : List ℕ) → Holds middle sa sb u 0 na nb
  holds_none na nb = record { a_front = refl; b_front = refl }

  -- the step of a loop over the positions
  pub holds_more : (j : ℕ) (na nb : List ℕ) (x y : ℕ) → j < length na → j < length nb → Holds middle sa sb u j na nb
      → x ≡ state_bit middle sa sb u (na, nb) j next_a → y ≡ state_bit middle sa sb u (na, nb) j next_b → Holds middle sa sb u (j + 1) (set na j x) (set nb j y)
  holds_more j na nb x y la lb h ex ey =
      let s = states middle sa sb u j in
      let same = same_held j na nb h in
      record {
        a_front = take_more_set na j x la ∙ (λ k. h.a_front k ++ ((ex ∙ state_same (na, nb) s j same next_a) k ∷ [])) ∙ ap (λ i. (states middle sa sb u i).0) (sym (add-one j));
        b_front = take_more_set nb j y lb ∙ (λ k. h.b_front k ++ ((ey ∙ state_same (na, nb) s j same next_b) k ∷ [])) ∙ ap (λ i. (states middle sa sb u i).1) (sym (add-one j));
      }

  -- the end, read off the arrays
  pub run_held : (na nb : List ℕ) → Holds middle sa sb u (length u + 1) na nb
      → bit_or (bit_and (get_or nb (length u) 0) 8) (bit_and (ors (rest_bits sa sb u (na, nb)) (length u + 1)) 2) ≡ run_standing middle sa sb u
  run_held na nb h =
      let same = same_held (length u + 1) na nb h in
      let last : length u < length u + 1 = omega arith in
      (λ k. bit_or (bit_and (same.b_side (length u) last k) 8) (bit_and (rests_same (na, nb) (states middle sa sb u (length u + 1)) (length u + 1) same k) 2))
