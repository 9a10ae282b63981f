-- The words of moves with their marks: their codes, that these tell them apart, and that they are exactly the windows.
use Rattle.std.proofs.Common.{◌≡◌, ℕ, zero, suc, ◌*◌, ◌^◌, ◌<◌, ◌≤◌, Bool, cond, eqb, ltb, List, [], ◌∷◌, ◌++◌, length, Decides, All, sum_by, filter, refl, append-nil, arith}
use Rattle.std.proofs.lemmas.List.Elements.{All-cons, All-head, All-push, All-tail, filter-append}
use Rattle.std.proofs.lemmas.List.{length_push}
use Rattle.std.proofs.lemmas.List.Sums.{sum_by-cons, sum_by_push}
use Rattle.std.proofs.lemmas.Bool.Decides.{not_from_Decides, nat_tests}
use Rattle.std.proofs.lemmas.Grind.{common_steps}
use Rattle.terms.specs.Codes.{Item, Word, base, code}
use Rattle.terms.specs.Words.{Move, Moves, start_mark, end_mark, IsWindow}
use Rattle.terms.proofs.Codes.{code_apart, code_below}
use Rattle.terms.proofs.Shapes.{Shape, whole, at_front, at_back, inside, length_marked, shape_of, window_of, window_from_moves, moves_from_window}
use Rattle.tree_laws.specs.declared.Node.{Node}
use Rattle.tree_laws.specs.Computed.{has}
use Rattle.tree_laws.specs.Facts.{Playable, Standing}
use Rattle.tree_laws.specs.Routes.{WellFormed}
use Rattle.tree_laws.proofs.Nodes.{route_moves}
use Rattle.tree_laws.proofs.Rows.{PlayedAt, played_at}
use Rattle.terms.proofs.Ends.{all_parts}
use Rattle.row_laws.specs.Windowed.{with_marks, Fits, turn}
use Rattle.row_laws.proofs.Keys.{items_from_moves, code_of_moves, same_word}

-- x is the moves of a word with their marks, and a window
pub record Marking (n k : ℕ) (x : List ℕ) : Type 0 where
  pub marks : ℕ
  pub word : List ℕ
  pub four : marks < 4
  pub moves : Moves n word
  pub fits : Fits k marks (length word)
  pub is : x ≡ with_marks marks word

pub fits_short : (k i len : ℕ) → Fits k i len → len ≤ k
fits_short k i len h = grind (arith, common_steps)

-- the start mark counts 1, and the end mark 2
abbrev pub mark_value : ℕ → ℕ
mark_value x = cond (eqb x start_mark) 1 (cond (eqb x end_mark) 2 0)

abbrev pub no_mark : ℕ → Bool
no_mark x = ltb x start_mark

module _ (n : ℕ) (few : n ≤ 12) where
  pub with_marks_items : (i : ℕ) (u : List ℕ) → Moves n u → All (Item n) (with_marks i u)
  with_marks_items i u moves = grind (arith, items_from_moves n u, All-cons (Item n) start_mark, All-push (Item n) u end_mark)

  mark_values_moves : (u : List ℕ) → Moves n u → sum_by mark_value u ≡ 0
  mark_values_moves [] h = refl
  mark_values_moves (x ∷ u) h = grind (arith, nat_tests, sum_by-cons mark_value x u, mark_values_moves u, All-head (Move n) x u h, All-tail (Move n) x u h)

  -- the marks come back
  mark_values_with_marks : (i : ℕ) (u : List ℕ) → i < 4 → Moves n u → sum_by mark_value (with_marks i u) ≡ i
  mark_values_with_marks i u four h = grind (arith, sum_by-cons mark_value start_mark, sum_by_push mark_value u end_mark, mark_values_moves u h)

  kept_moves : (u : List ℕ) → Moves n u → filter no_mark u ≡ u
  kept_moves [] h = refl
  kept_moves (x ∷ u) h = grind (arith, nat_tests, kept_moves u, All-head (Move n) x u h, All-tail (Move n) x u h)

  -- the moves come back
  kept_with_marks : (i : ℕ) (u : List ℕ) → Moves n u → filter no_mark (with_marks i u) ≡ u
  kept_with_marks i u h = grind (arith, common_steps, filter-append no_mark u, kept_moves u h)

  -- two windows with one code have the same marks and the same moves
  pub with_marks_apart : (i j : ℕ) (u v : List ℕ) → i < 4 → j < 4 → Moves n u → Moves n v → code n (with_marks i u) ≡ code n (with_marks j v) → (i ≡ j) × (u ≡ v)
  with_marks_apart i j u v hi hj hu hv e =
      let same : with_marks i u ≡ with_marks j v = code_apart n few (with_marks i u) (with_marks j v) (with_marks_items i u hu) (with_marks_items j v hv) e in
      (cc (mark_values_with_marks i u hi hu, mark_values_with_marks j v hj hv), cc (kept_with_marks i u hu, kept_with_marks j v hv))

  -- two windows with one turn have the same marks and the same moves
  pub turn_apart : (i j : ℕ) (u v : List ℕ) → i < 4 → j < 4 → Moves n u → Moves n v → turn n i u ≡ turn n j v → (i ≡ j) × (u ≡ v)
  turn_apart i j u v hi hj hu hv e = (omega arith, same_word n 0 few u v hu hv (omega arith))

  module _ (k : ℕ) where
    pub with_marks_word : (i : ℕ) (u : List ℕ) → Moves n u → Fits k i (length u) → Word n k (with_marks i u)
    with_marks_word i u moves fits = record { items = with_marks_items i u moves; short = grind (arith, common_steps, length_push u end_mark, length_marked u) }

    -- the code of a window lies below the base's power
    pub with_marks_below : (i : ℕ) (u : List ℕ) → Moves n u → Fits k i (length u) → code n (with_marks i u) < base n ^ k
    with_marks_below i u moves fits = code_below n few k (with_marks i u) (with_marks_word i u moves fits)

    -- the turn of a window lies below four times the base's power
    pub turn_below : (i : ℕ) (u : List ℕ) → i < 4 → Moves n u → Fits k i (length u) → turn n i u < 4 * base n ^ k
    turn_below i u four moves fits = omega (arith, code_of_moves n k few u moves (fits_short k i (length u) fits))

module _ (n k : ℕ) (x : List ℕ) where
  marking_of_shape : (w : List ℕ) → Moves n w → Shape k w x → Marking n k x
  marking_of_shape w moves (whole h e) = record { marks = 3; word = w; four = omega arith; moves = moves; fits = omega (arith, length_marked w); is = e }
  marking_of_shape w moves (at_front p (after, split) long is) =
      record { marks = 1; word = p; four = omega arith; moves = (all_parts (Move n) p after (rw split at moves)).0; fits = omega arith; is = is }
  marking_of_shape w moves (at_back p (before, split) long is) =
      record { marks = 2; word = p; four = omega arith; moves = (all_parts (Move n) before p (rw split at moves)).1; fits = omega arith; is = is }
  marking_of_shape w moves (inside (before, after, split) long) =
      record { marks = 0; word = x; four = omega arith; moves = (all_parts (Move n) x after (all_parts (Move n) before (x ++ after) (rw split at moves)).1).0; fits = long; is = refl }

  pub marking_of_window : 2 ≤ k → IsWindow n k x → Marking n k x
  marking_of_window wide h =
      let (w, moves, of) = moves_from_window n k x wide h in
      marking_of_shape w moves (shape_of k w x (omega arith) of)

  shape_of_marking : (i : ℕ) (u : List ℕ) → Fits k i (length u) → x ≡ with_marks i u → Shape k u x
  shape_of_marking zero u fits is = inside ([], [], simp (is, append-nil)) (cc)
  shape_of_marking (suc zero) u fits is = at_front u ([], simp append-nil) (omega arith) is
  shape_of_marking (suc (suc zero)) u fits is = at_back u ([], refl) (omega arith) is
  shape_of_marking (suc (suc (suc i))) u fits is = whole (omega (arith, length_marked u)) is

  pub window_of_marking : Marking n k x → IsWindow n k x
  window_of_marking h =
      window_from_moves n k x h.word h.moves (window_of (shape_of_marking h.marks h.word h.fits h.is))

  pub window_word : n ≤ 12 → 2 ≤ k → IsWindow n k x → Word n k x
  window_word few wide h =
      let r = marking_of_window wide h in
      rw r.is (with_marks_word n few k r.marks r.word r.moves r.fits)

module _ (n k : ℕ) (few : n ≤ 12) (wide : 2 ≤ k) (t : List Node) (wf : WellFormed n t) where
  -- what is playable is a window
  pub playable_window : (x : List ℕ) → Playable t k x → IsWindow n k x
  playable_window x (w, route, of) = window_from_moves n k x w (route_moves n t wf route) of

  module _ (u : List ℕ) (s : ℕ) (moves : Moves n u) (standing : Standing t (length t) u s) where
    at_root : PlayedAt k t u s
    at_root = played_at n k t (omega arith) wide wf u s moves standing

    -- the bits of the standing of u at the root tell which windows around u are playable
    pub with_marks_decides : (i : ℕ) → i < 4 → Fits k i (length u) → Decides (has s (2 ^ i)) (Playable t k (with_marks i u))
    with_marks_decides zero four fits = at_root.no_mark fits
    with_marks_decides (suc zero) four fits = at_root.after_start fits
    with_marks_decides (suc (suc zero)) four fits = at_root.before_end fits
    with_marks_decides (suc (suc (suc zero))) four fits = at_root.both_marks fits
    with_marks_decides (suc (suc (suc (suc i)))) four fits = absurd (omega arith)

    -- around a word with the standing 0 nothing is playable
    pub with_marks_none : (i : ℕ) → i < 4 → Fits k i (length u) → s ≡ 0 → Playable t k (with_marks i u) → ⊥
    with_marks_none i four fits none = not_from_Decides (has s (2 ^ i)) (with_marks_decides i four fits) (rw none)
