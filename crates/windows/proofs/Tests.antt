-- The test for a window gives what the definition says.
use Rattle.std.proofs.Common.{◌≡◌, ℕ, ◌+◌, ◌≤◌, ◌≢◌, true, false, List, [], ◌∷◌, ◌++◌, ◌⊎◌, length, take, drop, ◌-◌, Option, Some, None, MatchOption, unwrap_or, Bor, sym, refl, ap, ◌∙◌, subst, inl, inr, ⊎_elim, append-nil, arith}
use lib.Pointwise.{pointwise}
use lib.Dec.{eqb}
use Rattle.std.proofs.lemmas.Bool.Decides.{Decides-eqb}
use Rattle.std.proofs.lemmas.Slice.Eq.{strip_prefix_is, strip_suffix_is}
use Rattle.std.proofs.lemmas.List.{length_push, same_from_push}
use Rattle.std.proofs.lemmas.List.Elements.{All-nil, All-cons, All-head, All-tail}
use Rattle.terms.specs.Words.{Move, Moves, start_mark, end_mark, marked, IsWindow}
use Rattle.terms.proofs.Ends.{all_before_last}
use Rattle.terms.proofs.Shapes.{Shape, whole, at_front, at_back, inside, shape_of, window_of, window_from_moves, moves_from_window, length_marked}

-- parts of a list of moves are moves
moves_left : (n : ℕ) (u v : List ℕ) → Moves n (u ++ v) → Moves n u
moves_left n [] v h = All-nil (Move n)
moves_left n (x ∷ u) v h = All-cons (Move n) x u (All-head (Move n) x (u ++ v) h) (moves_left n u v (All-tail (Move n) x (u ++ v) h))

moves_right : (n : ℕ) (u v : List ℕ) → Moves n (u ++ v) → Moves n v
moves_right n [] v h = h
moves_right n (x ∷ u) v h = moves_right n u v (All-tail (Move n) x (u ++ v) h)

-- rest is u without the start mark, where that stands in front of u
pub record Front (u rest : List ℕ) : Type 0 where
  pub either : (rest ≡ u) ⊎ (u ≡ start_mark ∷ rest)
  pub taken : (v : List ℕ) → u ≡ start_mark ∷ v → rest ≡ v

-- and inner without the end mark, where that stands last in rest
pub record Back (rest inner : List ℕ) : Type 0 where
  pub either : (inner ≡ rest) ⊎ (rest ≡ inner ++ (end_mark ∷ []))
  pub taken : (v : List ℕ) → rest ≡ v ++ (end_mark ∷ []) → inner ≡ v

pub front_from : (u : Bor (List ℕ)) (r : Option (Bor (List ℕ))) (rest : Bor (List ℕ)) → MatchOption r (pointwise eqb (take 1 u.now) (start_mark ∷ []) ≡ false) (λ x. (pointwise eqb (take 1 u.now) (start_mark ∷ []) ≡ true) × (x.now ≡ drop 1 u.now) × (length x.now + 1 ≡ length u.now)) → rest ≡ unwrap_or r u → Front u.now rest.now
front_from u None rest h is = record {
  either = inl (ap (λ b. b.now) is);
  taken = λ v e. absurd (strip_prefix_is Decides-eqb u.now (start_mark ∷ []) None h v e);
}
front_from u (Some x) rest h is =
    let split : u.now ≡ start_mark ∷ x.now = strip_prefix_is Decides-eqb u.now (start_mark ∷ []) (Some x) h in
    let same : rest.now ≡ x.now = ap (λ b. b.now) is in
    record {
      either = inr (split ∙ ap (λ l. start_mark ∷ l) (sym same));
      taken = λ v e. let both : start_mark ∷ x.now ≡ start_mark ∷ v = sym split ∙ e in cc;
    }

pub back_from : (u : Bor (List ℕ)) (r : Option (Bor (List ℕ))) (rest : Bor (List ℕ)) → MatchOption r (pointwise eqb (drop (length u.now - 1) u.now) (end_mark ∷ []) ≡ false) (λ x. (pointwise eqb (drop (length u.now - 1) u.now) (end_mark ∷ []) ≡ true) × (x.now ≡ take (length u.now - 1) u.now) × (length x.now + 1 ≡ length u.now)) → rest ≡ unwrap_or r u → Back u.now rest.now
back_from u None rest h is = record {
  either = inl (ap (λ b. b.now) is);
  taken = λ v e. absurd (strip_suffix_is Decides-eqb u.now (end_mark ∷ []) None h v e);
}
back_from u (Some x) rest h is =
    let split : u.now ≡ x.now ++ (end_mark ∷ []) = strip_suffix_is Decides-eqb u.now (end_mark ∷ []) (Some x) h in
    let same : rest.now ≡ x.now = ap (λ b. b.now) is in
    record {
      either = inr (split ∙ ap (λ l. l ++ (end_mark ∷ [])) (sym same));
      taken = λ v e. same ∙ (same_from_push x.now v end_mark end_mark (sym split ∙ e)).0;
    }

-- a list with both marks has at most k items, and any other exactly k
pub record Sized (k : ℕ) (u inner : List ℕ) : Type 0 where
  pub both : length u ≡ length inner + 2 → length u ≤ k
  pub other : length u ≢ length inner + 2 → length u ≡ k

module _ (n k : ℕ) (few : n ≤ 12) (order : 2 ≤ k) where
  -- no move is a mark
  no_start : (v w : List ℕ) → Moves n w → w ≡ start_mark ∷ v → ⊥
  no_start v w moves e = let m : Move n start_mark = All-head (Move n) start_mark v (subst (Moves n) e moves) in omega (arith, m)

  no_end : (v w : List ℕ) → Moves n w → w ≡ v ++ (end_mark ∷ []) → ⊥
  no_end v w moves e = omega (arith, (all_before_last (Move n) v end_mark (subst (Moves n) e moves)).1)

  no_start_before_end : (v w : List ℕ) → Moves n w → w ++ (end_mark ∷ []) ≡ start_mark ∷ v → ⊥
  no_start_before_end v [] moves e = let mark : end_mark ≡ start_mark = cc in omega arith
  no_start_before_end v (x ∷ w) moves e = let mark : x ≡ start_mark = cc in let m : Move n x = All-head (Move n) x w moves in omega (arith, m)

  module _ (u rest inner : List ℕ) (front : Front u rest) (back : Back rest inner) where
    pub window_from_test : Sized k u inner → Moves n inner → IsWindow n k u
    window_from_test size moves = cases front.either back.either
      where
        cases : (rest ≡ u) ⊎ (u ≡ start_mark ∷ rest) → (inner ≡ rest) ⊎ (rest ≡ inner ++ (end_mark ∷ [])) → IsWindow n k u
        cases (inl e) (inl f) =
            let is : inner ≡ u = f ∙ e in
            window_from_moves n k u inner moves (window_of (inside ([], [], is ∙ sym (append-nil u)) (size.other (λ g. omega (arith, ap length is)))))
        cases (inr e) (inl f) =
            let is : u ≡ start_mark ∷ inner = e ∙ ap (λ l. start_mark ∷ l) (sym f) in
            window_from_moves n k u inner moves (window_of (at_front inner ([], sym (append-nil inner)) (sym (ap length is) ∙ size.other (λ g. omega (arith, ap length is))) is))
        cases (inl e) (inr f) =
            let is : u ≡ inner ++ (end_mark ∷ []) = sym e ∙ f in
            let long : length u ≡ length inner + 1 = ap length is ∙ length_push inner end_mark in
            window_from_moves n k u inner moves (window_of (at_back inner ([], refl) (omega (arith, long, size.other (λ g. omega (arith, long)))) is))
        cases (inr e) (inr f) =
            let is : u ≡ marked inner = e ∙ ap (λ l. start_mark ∷ l) f in
            window_from_moves n k u inner moves (inl (subst (λ l. length l ≤ k) is (size.both (ap length is ∙ length_marked inner)), is))

    abbrev Passes : Type 0
    Passes = Sized k u inner × Moves n inner

    -- the moves w stand between the marks, if any
    found : (w : List ℕ) → inner ≡ w → Moves n w → (length u ≡ length w + 2 → length u ≤ k) → (length u ≢ length w + 2 → length u ≡ k) → Passes
    found w is moves both other = (record { both = λ e. both (e ∙ ap (λ l. length l + 2) is); other = λ e. other (λ f. e (f ∙ ap (λ l. length l + 2) (sym is))) }, subst (Moves n) (sym is) moves)

    passes : (w : List ℕ) → Moves n w → Shape k w u → Passes
    passes w moves (whole size is) =
        found w (back.taken w (front.taken (w ++ (end_mark ∷ [])) is)) moves (λ _. subst (λ l. length l ≤ k) (sym is) size) (λ e. absurd (e (ap length is ∙ length_marked w)))
    passes w moves (at_front p (after, split) size is) =
        let own : Moves n p = moves_left n p after (subst (Moves n) split moves) in
        let here : rest ≡ p = front.taken p is in
        let long : length u ≡ k = ap length is ∙ size in
        found p (⊎_elim (λ e. e ∙ here) (λ e. absurd (no_end inner p own (sym here ∙ e))) back.either) own (λ _. omega (arith, long)) (λ _. long)
    passes w moves (at_back p (before, split) size is) =
        let own : Moves n p = moves_right n before p (subst (Moves n) split moves) in
        let here : rest ≡ p ++ (end_mark ∷ []) = ⊎_elim (λ e. e ∙ is) (λ e. absurd (no_start_before_end rest p own (sym is ∙ e))) front.either in
        let long : length u ≡ k = ap length is ∙ length_push p end_mark ∙ omega arith in
        found p (back.taken p here) own (λ _. omega (arith, long)) (λ _. long)
    passes w moves (inside (before, after, split) size) =
        let own : Moves n u = moves_left n u after (moves_right n before (u ++ after) (subst (Moves n) split moves)) in
        let here : rest ≡ u = ⊎_elim (λ e. e) (λ e. absurd (no_start rest u own e)) front.either in
        found u (⊎_elim (λ e. e ∙ here) (λ e. absurd (no_end inner u own (sym here ∙ e))) back.either) own (λ _. omega (arith, size)) (λ _. size)

    -- a window passes the test
    pub test_from_window : IsWindow n k u → Passes
    test_from_window is = let (w, moves, of) = moves_from_window n k u order is in passes w moves (shape_of k w u (omega arith) of)
