-- The states of a loop are its boundaries, and the standing of a word in it is what its laws say.
use Rattle.std.proofs.Common.{◌≡◌, ℕ, zero, suc, ◌+◌, ◌-◌, ◌/◌, ◌^◌, ◌<◌, ◌≤◌, Bool, true, false, ◌&&◌, ◌||◌, eqb, ◌⊎◌, List, [], ◌∷◌, ◌++◌, length, get_or, take, drop, Decides, sym, refl, ap, ◌∙◌, inl, inr, ⊎_elim, append-nil, arith, length-append, take-append-drop, length-take-le, take-take, take-add}
use mathlib.Core.Bool.{or-false, and-true, and-false, false≢true}
use lib.Bits.{bit_and, bit_or, or_lt}
use lib.Seq.{take-append_seam, drop-append_seam, take-length}
use Rattle.std.proofs.lemmas.List.{drop-take, get_or_append_left, get_or_push, length_push}
use Rattle.std.proofs.lemmas.Bool.{eqb-true, eq-eqb, both_ways}
use Rattle.std.proofs.lemmas.Bool.Decides.{Decides-at, Decides-or, Decides-and, Decides-like}
use Rattle.tree_laws.specs.Boundaries.{Turn, next_a, next_b, other}
use Rattle.tree_laws.specs.Computed.{has, ors, of_turn, start_bit, piece_bit, direct_bit, state_bit, states, rest_bits, run_standing, loop_standing}
use Rattle.tree_laws.proofs.Parts.{Language, Some, Part, whole_of, of_whole}
use Rattle.tree_laws.proofs.Loops.{Run, Start, Reached, start, Finished, loop_to, loop_from, Direct, reached_last, reached_more}
use Rattle.tree_laws.proofs.Bits.{on, on_or, on_and, on_shift, on_none, on_ors, on_cond, has_on}
use Rattle.tree_laws.proofs.Standings.{place, Right, Closed, upper, lower, neither, and_small}

either_turn : (P : Turn → Type 0) (m : Turn) → P m → P next_a ⊎ P next_b
either_turn P next_a h = inl h
either_turn P next_b h = inr h

module _ {L : Turn → Language} {Ok : List ℕ → Type 0} (closed : Closed Ok) (sa sb : List ℕ → ℕ)
    (right : (m : Turn) (w : List ℕ) → Ok w → Right (L m) w (of_turn sa sb m w)) (u : List ℕ) (ok : Ok u) where
  module _ (f : Bool) where
    -- the states below j, and the state at j
    upto : ℕ → List ℕ × List ℕ
    upto j = states f sa sb u j

    at : ℕ → Turn → ℕ
    at j m = state_bit f sa sb u (states f sa sb u j) j m

    side : Turn → ℕ → List ℕ
    side m j = of_turn (states f sa sb u j).0 (states f sa sb u j).1 m

    side_more : (m : Turn) (j : ℕ) → side m (suc j) ≡ side m j ++ (at j m ∷ [])
    unfolding side at
    side_more next_a j = refl
    side_more next_b j = refl

    side_long : (m : Turn) (j : ℕ) → length (side m j) ≡ j
    unfolding side
    side_long next_a zero = refl
    side_long next_b zero = refl
    side_long m (suc j) = omega (arith, ap length (side_more m j), length_push (side m j) (at j m), side_long m j)

    side_at : (m : Turn) (n j : ℕ) → j < n → get_or (side m n) j 0 ≡ at j m
    side_at m zero j h = absurd (omega arith)
    side_at m (suc n) j h =
        rw (side_more m n) (grind (arith, get_or_append_left (side m n) (at n m ∷ []) 0 j, get_or_push (side m n) (at n m) 0 j, side_long m n, side_at m n j))

    -- reached at j by a start, or by a piece from a lower position
    Lately : ℕ → Turn → Type 0
    Lately j m = Start L f m (take j u) ⊎ ((i : ℕ) × (i < j) × (Reached L f (other m) (take i u) × L (other m) (take (j - i) (drop i u))))

    lately_reached : (j : ℕ) (m : Turn) → Lately j m → Reached L f m (take j u)
    unfolding Lately
    lately_reached j m (inl s) = start s
    lately_reached j m (inr (i, l, (r, p))) =
        let whole : i + (j - i) ≡ j = omega arith in
        rw (← take-add i (j - i) u, whole) at (reached_more L f m r p)

    direct_lately : (j : ℕ) (m : Turn) → j ≤ length u → Direct L f m (take j u) → Lately j m
    unfolding Lately
    direct_lately j m h (inl s) = inl s
    direct_lately j m h (inr (y, c, z, e, r, l)) =
        let i = length y in
        let long : length (take j u) ≡ j = length-take-le j u h in
        let less : i < j = omega (arith, long, ap length e ∙ length-append y (c ∷ z)) in
        let whole : i + (j - i) ≡ j = omega arith in
        let front : y ≡ take i u = cc (take-append_seam y (c ∷ z), take-take i j u (omega arith)) in
        let back : c ∷ z ≡ take (j - i) (drop i u) = cc (drop-append_seam y (c ∷ z), drop-take i (j - i) u) in
        inr (i, less, (rw front at r, rw back at l))

    whole_tells : (m : Turn) (w : List ℕ) → Ok w → Decides (on (of_turn sa sb m w) 3) (L m w)
    whole_tells m w o = Decides-like _ whole_of of_whole ((right m w o).tells false false)

  start_tells : (f : Bool) (j : ℕ) (m : Turn) → j ≤ length u → Decides (on (start_bit f sa sb u j m) 3) (Start L f m (take j u))
  start_tells false j next_a h =
      Decides-at _ _ (on_cond (eqb j 0) 8 3 refl) (λ e. (refl, ap (λ n. take n u) (eqb-true j 0 e)), λ s. eq-eqb j 0 (omega (arith, length-take-le j u h, ap length s.1)))
  start_tells false j next_b h = (λ e. absurd (both_ways _ (on_none 3) e), λ s. absurd (cc s.0))
  start_tells true j m h =
      let s = of_turn sa sb (other m) (take j u) in
      Decides-at _ _ (on_cond (has s 4) 8 3 refl ∙ has_on s 2) ((right (other m) (take j u) (closed.ok_take j u ok)).tells true false)

  module _ (f : Bool) where
    module _ (j : ℕ) (h : j ≤ length u) (below : (i : ℕ) → i < j → (m : Turn) → Decides (on (at f i m) 3) (Reached L f m (take i u))) where
      direct_tells : (m : Turn) → Decides (on (direct_bit f sa sb u (upto f j) j m) 3) (Lately f j m)
      unfolding Lately side upto
      direct_tells m =
          let k = other m in
          let pieces = piece_bit sa sb u (side f k j) j k in
          Decides-at _ _ (on_or (start_bit f sa sb u j m) (ors pieces j) 3)
          (Decides-or _ _ (start_tells f j m h)
          (on_ors pieces 3 (λ i. Reached L f k (take i u) × L k (take (j - i) (drop i u))) j
          (λ i l. Decides-at _ _ (cc (on_and (get_or (side f k j) i 0) (of_turn sa sb k (take (j - i) (drop i u))) 3, side_at f k j i l))
          (Decides-and _ _ (below i l k) (whole_tells f k (take (j - i) (drop i u)) (closed.ok_take (j - i) (drop i u) (closed.ok_drop i u ok)))))))

      state_tells : (m : Turn) → Decides (on (at f j m) 3) (Reached L f m (take j u))
      unfolding at upto
      state_tells m =
          let k = other m in
          let d = direct_bit f sa sb u (upto f j) j in
          Decides-at _ _ (cc (on_or (d m) (bit_and (d k) (of_turn sa sb k [])) 3, on_and (d k) (of_turn sa sb k []) 3))
          (Decides-like _
          (⊎_elim (lately_reached f j m) (λ e. rw append-nil at (reached_more L f m (lately_reached f j k e.0) e.1)))
          (λ r. ⊎_elim (λ x. inl (direct_lately f j m h x)) (λ x. inr (direct_lately f j k h x.0, x.1)) (reached_last L f r))
          (Decides-or _ _ (direct_tells m) (Decides-and _ _ (direct_tells k) (whole_tells f k [] closed.ok_nil))))

    states_below : (bound j : ℕ) → j < bound → j ≤ length u → (m : Turn) → Decides (on (at f j m) 3) (Reached L f m (take j u))
    states_below zero j l h m = absurd (omega arith)
    states_below (suc bound) j l h m = state_tells j h (λ i k. states_below bound i (omega arith) (omega arith)) m

    -- the state at j has a turn where the boundary is reached
    states_tell : (j : ℕ) → j ≤ length u → (m : Turn) → Decides (on (get_or (side f m (length u + 1)) j 0) 3) (Reached L f m (take j u))
    states_tell j h m = rw (side_at f m (length u + 1) j (omega arith)) (states_below (suc j) j (omega arith) h m)

    -- the rest of the word from j on begins a piece
    Going : ℕ → Turn → Type 0
    Going j m = Reached L f m (take j u) × Part false true (L m) (drop j u)

    going_tells : (j : ℕ) → j ≤ length u → (m : Turn) → Decides (on (bit_and (get_or (side f m (length u + 1)) j 0 / 2 ^ 2) (of_turn sa sb m (drop j u))) 1) (Going j m)
    unfolding Going
    going_tells j h m =
        let s = get_or (side f m (length u + 1)) j 0 in
        let r = of_turn sa sb m (drop j u) in
        Decides-at _ _ (cc (on_and (s / 2 ^ 2) r 1, on_shift s 2 1)) (Decides-and _ _ (states_tell j h m) ((right m (drop j u) (closed.ok_drop j u ok)).tells false true))

    rests : ℕ → ℕ
    rests = rest_bits sa sb u (states f sa sb u (length u + 1))

    rest_tells : Decides (on (ors rests (length u + 1)) 1) ((j : ℕ) × (j < length u + 1) × (Going j next_a ⊎ Going j next_b))
    unfolding rests side
    rest_tells =
        on_ors rests 1 (λ j. Going j next_a ⊎ Going j next_b) (length u + 1)
        (λ j l. Decides-at _ _ (on_or (bit_and (get_or (side f next_a (length u + 1)) j 0 / 4) (sa (drop j u))) (bit_and (get_or (side f next_b (length u + 1)) j 0 / 4) (sb (drop j u))) 1)
        (Decides-or _ _ (going_tells j (omega arith) next_a) (going_tells j (omega arith) next_b)))

    Underway : Type 0
    Underway = (m : Turn) × (x : List ℕ) × (y : List ℕ) × (u ≡ x ++ y) × Reached L f m x × Part false true (L m) y

    going_on : (j : ℕ) (m : Turn) → Going j m → Underway
    unfolding Going Underway
    going_on j m h = (m, take j u, drop j u, sym (take-append-drop j u), h.0, h.1)

    underway_tells : Decides (on (ors rests (length u + 1)) 1) Underway
    unfolding Going Underway
    underway_tells =
        Decides-like _
        (λ h. ⊎_elim (going_on h.0 next_a) (going_on h.0 next_b) h.2)
        (λ h.
        let (m, x, y, e, r, p) = h in (
          length x,
          omega (arith, ap length e ∙ length-append x y),
          either_turn (Going (length x)) m (rw (e, take-append_seam) r, rw (e, drop-append_seam) p),
        ))
        rest_tells

    finish_tells : Decides (on (get_or (side f next_b (length u + 1)) (length u) 0) 3) (Reached L f next_b u)
    finish_tells = rw take-length at (states_tell (length u) (omega arith) next_b)

    run_on : (i : ℕ) → on (run_standing f sa sb u) i ≡ ((on (get_or (side f next_b (length u + 1)) (length u) 0) i && on 8 i) || (on (ors rests (length u + 1)) i && on 2 i))
    unfolding rests side
    run_on i =
        let s = get_or (side f next_b (length u + 1)) (length u) 0 in
        let r = ors rests (length u + 1) in
        on_or (bit_and s 8) (bit_and r 2) i ∙ cc (on_and s 8 i, on_and r 2 i)

    run_off : (i : ℕ) → on 8 i ≡ false → on 2 i ≡ false → on (run_standing f sa sb u) i ≡ false
    run_off i e₁ e₂ =
        run_on i ∙ simp (e₁, e₂) (neither _ _)

    run_small : run_standing f sa sb u < 16
    run_small = or_lt 4 _ _ (and_small (get_or (states f sa sb u (length u + 1)).1 (length u) 0) 8 (omega arith)) (and_small (ors (rest_bits sa sb u (states f sa sb u (length u + 1))) (length u + 1)) 2 (omega arith))

    run_closed : Decides (on (run_standing f sa sb u) 3) (Reached L f next_b u)
    run_closed = Decides-at _ _ (run_on 3 ∙ lower _ _) finish_tells

    run_open : Decides (on (run_standing f sa sb u) 1) Underway
    run_open = Decides-at _ _ (run_on 1 ∙ upper _ _) underway_tells

  loop_on : (i : ℕ) → on (loop_standing sa sb u) i ≡ ((on (run_standing false sa sb u) i || on (run_standing true sa sb u) (1 + i)) || ((on (sa u) i || on (sb u) i) && on 1 i))
  loop_on i =
      let x = run_standing false sa sb u in
      let y = run_standing true sa sb u in
      on_or (bit_or x (y / 2 ^ 1)) (bit_and (bit_or (sa u) (sb u)) 1) i
      ∙ cc (on_or x (y / 2 ^ 1) i, on_shift y 1 i, on_and (bit_or (sa u) (sb u)) 1 i, on_or (sa u) (sb u) i)

  in_pieces : Decides (on (sa u) 0 || on (sb u) 0) ((true ≡ true) × (m : Turn) × Part true true (L m) u)
  in_pieces = Decides-like _ (⊎_elim (λ h. (refl, next_a, h)) (λ h. (refl, next_b, h))) (λ h. either_turn (λ m. Part true true (L m) u) h.1 h.2) (Decides-or _ _ ((right next_a u ok).tells true true) ((right next_b u ok).tells true true))

  loop_tells : (f b : Bool) → Decides (on (loop_standing sa sb u) (place f b)) (Finished L f b u)
  unfolding Underway
  loop_tells true true =
      Decides-at _ _ (loop_on 0 ∙ simp (run_off false 0 refl refl, and-true)) (Decides-or _ _ (run_open true) in_pieces)
  loop_tells false true =
      Decides-at _ _ (loop_on 1 ∙ simp (run_off true 2 refl refl, and-false, or-false))
      (Decides-like _ inl (⊎_elim (λ h. h) (λ h. absurd (false≢true h.0))) (run_open false))
  loop_tells true false =
      Decides-at _ _ (loop_on 2 ∙ simp (run_off false 2 refl refl, and-false, or-false)) (run_closed true)
  loop_tells false false =
      Decides-at _ _ (loop_on 3 ∙ simp (run_off true 4 refl refl, and-false, or-false)) (run_closed false)

  pub loop_right : ((m : Turn) → Some (L m)) → Right (Run L next_b next_a) u (loop_standing sa sb u)
  loop_right some = record {
    small = or_lt 4 _ _ (or_lt 4 _ _ (run_small false) (omega (arith, run_small true))) (and_small (bit_or (sa u) (sb u)) 1 (omega arith));
    tells = λ f b. Decides-like _ (loop_from L some f b u) (loop_to L some f b u) (loop_tells f b);
  }
