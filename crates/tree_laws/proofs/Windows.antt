-- What holds at every node of a well-formed table, and which windows its root plays.
use Rattle.std.proofs.Common.{◌≡◌, ℕ, ◌+◌, ◌<◌, ◌≤◌, Bool, true, false, List, [], ◌∷◌, ◌++◌, length, drop, sym, refl, ap, ◌∙◌, subst, inl, inr, append_assoc, append-nil, arith, length-append}
use Rattle.std.proofs.lemmas.List.{append_cancel_right}
use Rattle.std.proofs.lemmas.List.Elements.{All-head, All-tail}
use Rattle.terms.specs.Words.{Move, Moves, start_mark, end_mark, marked}
use Rattle.terms.proofs.Ends.{all_parts}
use Rattle.tree_laws.specs.declared.Node.{Node}
use Rattle.tree_laws.specs.Routes.{Route, WellFormed}
use Rattle.tree_laws.specs.Facts.{SomeContains, SomeBegins, SomeEnds, Playable}
use Rattle.tree_laws.specs.Laws.{NodeLaws, Shape, WindowLaws}
use Rattle.tree_laws.proofs.Splits.{carry}
use Rattle.tree_laws.proofs.Parts.{widen}
use Rattle.tree_laws.proofs.Nodes.{Fact, to_part, from_part, some_route, route_moves}

contains_part : {t : List Node} {v : ℕ} (x u y : List ℕ) → SomeContains t v (x ++ (u ++ y)) → SomeContains t v u
contains_part x u y (w, r, (p, q, e)) = (w, r, (p ++ x, y ++ q, e ∙ simp append_assoc))

contained_tail : {t : List Node} {v : ℕ} (u : List ℕ) → SomeContains t v u → SomeContains t v (drop 1 u)
contained_tail [] h = h
contained_tail {t} {v} (x ∷ u) h = contains_part (x ∷ []) u [] (subst (λ z. SomeContains t v (x ∷ z)) (sym (append-nil u)) h)

pub node_laws_lem : NodeLaws
node_laws_lem n t wf v low high =
    let (w, r) = some_route n t wf low high in
    let wide : (f b : Bool) (u : List ℕ) → Fact f b t v u → SomeContains t v u = λ f b u h. from_part true true v u (widen f b (to_part f b v u h)) in
    record {
      some = (w, r);
      moves = λ u h. (all_parts (Move n) u h.2.1 (all_parts (Move n) h.2.0 (u ++ h.2.1) (subst (Moves n) h.2.2 (route_moves n t wf h.1))).1).0;
      from_begins = wide false true;
      from_ends = wide true false;
      from_whole = wide false false;
      empty_contained = (w, r, ([], w, refl));
      empty_begins = (w, r, (w, refl));
      empty_ends = (w, r, (w, sym (append-nil w)));
      without_last = λ u m h. contains_part [] u (m ∷ []) h;
      without_first = contained_tail;
    }

-- ---- words of moves beside the end mark

-- a front of the list that leaves some item out has no end mark
front_of : (x w : List ℕ) (c : ℕ) (a : List ℕ) → w ++ (end_mark ∷ []) ≡ x ++ (c ∷ a) → (s : List ℕ) × (w ≡ x ++ s) × (c ∷ a ≡ s ++ (end_mark ∷ []))
front_of [] w c a e = (w, refl, sym e)
front_of (d ∷ x) [] c a e = absurd (omega (arith, simp length-append at (ap length e)))
front_of (d ∷ x) (y ∷ w) c a e =
    let head : y ≡ d = cc in
    let r = front_of x w c a (cc) in
    (r.0, cc r.1, r.2)

module _ (n : ℕ) (small : n < start_mark) where
  no_start : {x : ℕ} → Move n x → x ≡ start_mark → ⊥
  no_start h e = omega arith

  no_end : {x : ℕ} → Move n x → x ≡ end_mark → ⊥
  no_end h e = omega arith

  -- a front that consists of moves
  moves_front : (u w a : List ℕ) → Moves n u → w ++ (end_mark ∷ []) ≡ u ++ a → (s : List ℕ) × (w ≡ u ++ s)
  moves_front [] w a h e = (w, refl)
  moves_front (c ∷ u) [] a h e = let same : end_mark ≡ c = cc in absurd (no_end (All-head (Move n) _ _ h) (sym same))
  moves_front (c ∷ u) (d ∷ w) a h e =
      let head : d ≡ c = cc in
      let r = moves_front u w a (All-tail (Move n) _ _ h) (cc) in
      (r.0, cc r.1)

  -- an end mark stands at the end alone
  end_last : (x w a : List ℕ) → Moves n w → w ++ (end_mark ∷ []) ≡ x ++ (end_mark ∷ a) → w ≡ x
  end_last [] [] a h e = refl
  end_last [] (d ∷ w) a h e = let same : d ≡ end_mark = cc in absurd (no_end (All-head (Move n) _ _ h) same)
  end_last (c ∷ x) [] a h e = absurd (omega (arith, simp length-append at (ap length e)))
  end_last (c ∷ x) (d ∷ w) a h e =
      let head : d ≡ c = cc in
      let r = end_last x w a (All-tail (Move n) _ _ h) (cc) in
      cc

  -- the start mark stands nowhere after the first place
  no_start_later : (x w a : List ℕ) → Moves n w → w ++ (end_mark ∷ []) ≡ x ++ (start_mark ∷ a) → ⊥
  no_start_later [] [] a h e = let same : end_mark ≡ start_mark = cc in omega arith
  no_start_later [] (d ∷ w) a h e = let same : d ≡ start_mark = cc in no_start (All-head (Move n) _ _ h) same
  no_start_later (c ∷ x) [] a h e = omega (arith, simp length-append at (ap length e))
  no_start_later (c ∷ x) (d ∷ w) a h e = no_start_later x w a (All-tail (Move n) _ _ h) (cc)

  module _ (k : ℕ) (t : List Node) (wide : 2 ≤ k) (wf : WellFormed n t) where
    moves_of : {w : List ℕ} → Route t (length t) w → Moves n w
    moves_of = route_moves n t wf

    marked_long : (w : List ℕ) → length (marked w) ≡ length w + 2
    marked_long w = omega (arith, length-append w (end_mark ∷ []))

    -- a window that begins with a move lies after the start mark
    after_mark : (c : ℕ) (u b a w : List ℕ) → Move n c → marked w ≡ b ++ ((c ∷ u) ++ a) → (b' : List ℕ) × (w ++ (end_mark ∷ []) ≡ b' ++ ((c ∷ u) ++ a))
    after_mark c u [] a w h e = let same : start_mark ≡ c = cc in absurd (no_start h (sym same))
    after_mark c u (x ∷ b) a w h e = (b, cc)

    both_to : (u : List ℕ) → Playable t k (marked u) → Route t (length t) u
    both_to u (w, r, inl (l, e)) = carry (Route t (length t)) r (append_cancel_right w u (end_mark ∷ []) (cc))
    both_to u (w, r, inr (l, i, ([], a, e))) =
        let tail : w ++ (end_mark ∷ []) ≡ (u ++ (end_mark ∷ [])) ++ a = cc in
        carry (Route t (length t)) r (end_last u w a (moves_of r) (tail ∙ simp append_assoc))
    both_to u (w, r, inr (l, i, (x ∷ b, a, e))) = absurd (no_start_later b w ((u ++ (end_mark ∷ [])) ++ a) (moves_of r) (cc))

    both_from : (u : List ℕ) → length u + 2 ≤ k → Route t (length t) u → Playable t k (marked u)
    both_from u h r = (u, r, inl (omega (arith, marked_long u), refl))

    start_to : (u : List ℕ) → Moves n u → Playable t k (start_mark ∷ u) → SomeBegins t (length t) u
    start_to u h (w, r, inl (l, e)) =
        let tail : u ≡ w ++ (end_mark ∷ []) = cc in
        absurd (no_end (All-head (Move n) end_mark [] (all_parts (Move n) w (end_mark ∷ []) (subst (Moves n) tail h)).1) refl)
    start_to u h (w, r, inr (l, i, ([], a, e))) = (w, r, moves_front u w a h (cc))
    start_to u h (w, r, inr (l, i, (x ∷ b, a, e))) = absurd (no_start_later b w (u ++ a) (moves_of r) (cc))

    start_from : (u : List ℕ) → length u + 1 ≡ k → SomeBegins t (length t) u → Playable t k (start_mark ∷ u)
    start_from u h (w, r, (q, e)) =
        let long = ap length e ∙ length-append u q in
        (w, r, inr (omega (arith, marked_long w), omega arith, ([], q ++ (end_mark ∷ []), ap marked e ∙ simp append_assoc)))

    end_to : (u : List ℕ) → Moves n u → length u + 1 ≡ k → Playable t k (u ++ (end_mark ∷ [])) → SomeEnds t (length t) u
    end_to [] h i p = absurd (omega arith)
    end_to (c ∷ u) h i (w, r, inl (l, e)) = let same : c ≡ start_mark = cc in absurd (no_start (All-head (Move n) _ _ h) same)
    end_to (c ∷ u) h i (w, r, inr (l, j, (b, a, e))) =
        let (b', at) = after_mark c (u ++ (end_mark ∷ [])) b a w (All-head (Move n) _ _ h) e in
        (w, r, (b', end_last (b' ++ (c ∷ u)) w a (moves_of r) (at ∙ simp append_assoc)))

    end_from : (u : List ℕ) → length u + 1 ≡ k → SomeEnds t (length t) u → Playable t k (u ++ (end_mark ∷ []))
    end_from u h (w, r, (p, e)) =
        let long = ap length e ∙ length-append p u in
        (w, r, inr (omega (arith, marked_long w), length-append u (end_mark ∷ []) ∙ h, (start_mark ∷ p, [], ap marked e ∙ simp (append_assoc, append-nil))))

    inner_to : (u : List ℕ) → Moves n u → length u ≡ k → Playable t k u → SomeContains t (length t) u
    inner_to [] h i p = absurd (omega arith)
    inner_to (c ∷ u) h i (w, r, inl (l, e)) = let same : c ≡ start_mark = cc in absurd (no_start (All-head (Move n) _ _ h) same)
    inner_to (c ∷ u) h i (w, r, inr (l, j, (b, a, e))) =
        let (b', at) = after_mark c u b a w (All-head (Move n) _ _ h) e in
        let (s, front, back) = front_of b' w c (u ++ a) at in
        let (s', more) = moves_front (c ∷ u) s a h (sym back) in
        (w, r, (b', s', front ∙ ap (λ z. b' ++ z) more))

    inner_from : (u : List ℕ) → length u ≡ k → SomeContains t (length t) u → Playable t k u
    inner_from u h (w, r, (p, q, e)) =
        let long = ap length e ∙ length-append p (u ++ q) ∙ ap (λ z. length p + z) (length-append u q) in
        (w, r, inr (omega (arith, marked_long w), h, (start_mark ∷ p, q ++ (end_mark ∷ []), ap marked e ∙ simp append_assoc)))

    shapes_of : (z : List ℕ) → Playable t k z → (u : List ℕ) × Moves n u × Shape k z u
    shapes_of z (w, r, inl (l, e)) = (w, moves_of r, inl (omega (arith, marked_long w), e))
    shapes_of [] (w, r, inr (l, j, (b, a, e))) = absurd (omega arith)
    shapes_of (c ∷ z) (w, r, inr (l, j, ([], [], e))) = absurd (omega (arith, ap length e ∙ length-append (c ∷ z) []))
    shapes_of (c ∷ z) (w, r, inr (l, j, ([], d ∷ a, e))) =
        let same : start_mark ≡ c = cc in
        let (s, front, back) = front_of z w d a (cc) in
        (z, (all_parts (Move n) z s (subst (Moves n) front (moves_of r))).0, inr (inl (omega arith, ap (λ y. y ∷ z) (sym same))))
    shapes_of (c ∷ z) (w, r, inr (l, j, (x ∷ b, [], e))) =
        let tail : w ++ (end_mark ∷ []) ≡ b ++ (c ∷ (z ++ [])) = cc in
        let (s, front, back) = front_of b w c z (tail ∙ simp append-nil) in
        (s, (all_parts (Move n) b s (subst (Moves n) front (moves_of r))).1, inr (inr (inl (omega (arith, ap length back ∙ length-append s (end_mark ∷ [])), back))))
    shapes_of (c ∷ z) (w, r, inr (l, j, (x ∷ b, d ∷ a, e))) =
        let tail : w ++ (end_mark ∷ []) ≡ b ++ ((c ∷ z) ++ (d ∷ a)) = cc in
        let (s, front, back) = front_of (b ++ (c ∷ z)) w d a (tail ∙ sym (append_assoc b (c ∷ z) (d ∷ a))) in
        (c ∷ z, (all_parts (Move n) b (c ∷ z) (all_parts (Move n) (b ++ (c ∷ z)) s (subst (Moves n) front (moves_of r))).0).1, inr (inr (inr (j, refl))))

pub window_laws_lem : WindowLaws
window_laws_lem n k t small wide wf = record {
  both_marks = λ u h l. (both_to n small k t wide wf u, both_from n small k t wide wf u l);
  after_start = λ u h l. (start_to n small k t wide wf u h, start_from n small k t wide wf u l);
  before_end = λ u h l. (end_to n small k t wide wf u h l, end_from n small k t wide wf u l);
  no_mark = λ u h l. (inner_to n small k t wide wf u h l, inner_from n small k t wide wf u l);
  shapes = shapes_of n small k t wide wf;
}
