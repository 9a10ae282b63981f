-- Which shapes the windows of a marked list have, and that a list of bytes is a window exactly when it has one of them.
use Rattle.std.proofs.Common.{◌≡◌, ℕ, suc, ◌+◌, ◌<◌, ◌≤◌, ◌⊎◌, List, [], ◌∷◌, ◌++◌, length, refl, ap, ◌∙◌, inl, inr, ⊎_elim, append_assoc, append-nil, arith, length-append}
use Rattle.std.proofs.lemmas.List.{same_from_push, length_push}
use Rattle.terms.proofs.Ends.{from_the_end}
use Rattle.terms.specs.Words.{Moves, start_mark, end_mark, marked, HasRun, Begins, Ends, WindowOf, IsWindow}

pub length_marked : (w : List ℕ) → length (marked w) ≡ length w + 2
length_marked w = omega (arith, length-append w (end_mark ∷ []))

-- the four shapes of a window u of order k of the marked list of w
pub data Shape (k : ℕ) (w u : List ℕ) : Type 0 where
  whole : length (marked w) ≤ k → u ≡ marked w → Shape k w u
  at_front : (p : List ℕ) → Begins w p → suc (length p) ≡ k → u ≡ start_mark ∷ p → Shape k w u
  at_back : (p : List ℕ) → Ends w p → suc (length p) ≡ k → u ≡ p ++ (end_mark ∷ []) → Shape k w u
  inside : HasRun w u → length u ≡ k → Shape k w u

-- both ends of a split of w and its end mark: what follows is empty, or ends in the mark
cut_end : (w before after : List ℕ) → w ++ (end_mark ∷ []) ≡ before ++ after → (after ≡ []) ⊎ ((v : List ℕ) × (w ≡ before ++ v) × (after ≡ v ++ (end_mark ∷ [])))
cut_end w before after e =
    ⊎_elim inl
    (λ r. let same = same_from_push w (before ++ r.0) end_mark r.1 (simp (e, r.2, append_assoc)) in inr (r.0, same.0, rw same.1 r.2))
    (from_the_end after)

module _ {k : ℕ} {w u : List ℕ} (some : 1 ≤ k) (long : length u ≡ k) (more : k < length (marked w)) where
  shape_at_front : (after : List ℕ) → marked w ≡ u ++ after → Shape k w u
  shape_at_front after e = first u refl
    where
      first : (v : List ℕ) → u ≡ v → Shape k w u
      first [] is = absurd (omega (arith, ap length is))
      first (y ∷ ys) is =
          let here : marked w ≡ y ∷ (ys ++ after) = rw is at e in
          let rest : w ++ (end_mark ∷ []) ≡ ys ++ after = cc in
          ⊎_elim
          (λ none. absurd (omega (arith, simp (none, append-nil) at (ap length e))))
          (λ r. at_front ys (r.0, r.1) (omega (arith, ap length is)) (cc))
          (cut_end w ys after rest)

  shape_behind : (before after : List ℕ) → w ++ (end_mark ∷ []) ≡ before ++ (u ++ after) → Shape k w u
  shape_behind before after e =
      ⊎_elim
      (λ none.
      ⊎_elim (λ empty. absurd (omega (arith, ap length empty)))
      (λ r. at_back r.0 (before, r.1) (omega (arith, simp (r.2, length_push) at long)) r.2)
      (cut_end w before u (cc (append-nil u))))
      (λ r. inside (before, r.0, simp append_assoc at r.1) long)
      (cut_end w (before ++ u) after (rw append_assoc e))

  shape_of_run : HasRun (marked w) u → Shape k w u
  shape_of_run ([], after, e) = shape_at_front after e
  shape_of_run (b ∷ before, after, e) = let rest : w ++ (end_mark ∷ []) ≡ before ++ (u ++ after) = cc in shape_behind before after rest

pub shape_of : (k : ℕ) (w u : List ℕ) → 1 ≤ k → WindowOf k (marked w) u → Shape k w u
shape_of k w u some (inl (h, e)) = whole h e
shape_of k w u some (inr (more, long, run)) = shape_of_run some long more run

pub window_of : {k : ℕ} {w u : List ℕ} → Shape k w u → WindowOf k (marked w) u
window_of (whole h e) = inl (h, e)
window_of {k} {w} {u} (at_front p (after, split) long is) = inr (
  omega (arith, length_marked w, ap length split ∙ length-append p after),
  ap length is ∙ long,
  ([], after ++ (end_mark ∷ []), simp (split, is, append_assoc)),
)
window_of {k} {w} {u} (at_back p (before, split) long is) = inr (
  omega (arith, length_marked w, ap length split ∙ length-append before p),
  omega (arith, ap length is ∙ length_push p end_mark),
  (start_mark ∷ before, [], simp (split, is, append_assoc, append-nil)),
)
window_of {k} {w} {u} (inside (before, after, split) long) = inr (
  omega (arith, length_marked w, ap length split ∙ length-append before (u ++ after), length-append u after),
  long,
  (start_mark ∷ before, after ++ (end_mark ∷ []), simp (split, append_assoc)),
)

-- a window is what some marked list of moves has as one
pub window_from_moves : (n k : ℕ) (u w : List ℕ) → Moves n w → WindowOf k (marked w) u → IsWindow n k u
window_from_moves n k u w moves (inl (h, e)) = inr (w, moves, omega (arith, length_marked w), e)
window_from_moves n k u w moves (inr (more, long, run)) = inl (w, moves, more, long, run)

pub moves_from_window : (n k : ℕ) (u : List ℕ) → 2 ≤ k → IsWindow n k u → (w : List ℕ) × Moves n w × WindowOf k (marked w) u
moves_from_window n k u order (inl (w, moves, more, long, run)) = (w, moves, inr (more, long, run))
moves_from_window n k u order (inr (w, moves, few, is)) = (w, moves, inl (omega (arith, length_marked w), is))
