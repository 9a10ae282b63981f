-- Computed tests tell that a table is well-formed, that a list has exactly its playable windows, and that one is not playable.
use Rattle.std.proofs.Common.{◌≡◌, ℕ, if◌then◌else◌, sum_by, zero, suc, ◌+◌, ◌-◌, ◌^◌, ◌<◌, ◌≤◌, Bool, true, false, cond, not, ◌&&◌, eqb, ltb, leb, List, [], ◌∷◌, length, get_or, Decides, All, Contains, filter, sym, refl, subst, arith}
use mathlib.Core.Bool.{beq}
use Rattle.std.specs.List.{list_all, list_any}
use Rattle.std.specs.Cmp.{booleans_Decides}
use Rattle.std.specs.Str.{bytes_eq}
use Rattle.std.proofs.lemmas.List.Sums.{AllPass-from_list_all}
use Rattle.std.proofs.lemmas.List.Elements.{All-weaker, All-contains, All-head, All-tail, Decides-contains}
use Rattle.std.proofs.lemmas.Slice.Eq.{bytes_eq-Decides}
use Rattle.std.proofs.lemmas.Bool.{and_parts, leb-true, le-leb, ltb-true, not-true, false≢true}
use Rattle.std.proofs.lemmas.Bool.Decides.{Decides-and, Decides-below_and, Decides-by_and, Decides-by_or, Decides-at, Decides-eqb, not_from_Decides}
use Rattle.terms.specs.Words.{Move, Moves}
use Rattle.tree_laws.specs.declared.Node.{Node}
use Rattle.tree_laws.specs.declared.Node.TheVariants.{Skip}
use Rattle.tree_laws.specs.Checked.{is_move, is_proper}
use Rattle.tree_laws.specs.Children.{first_child, second_child}
use Rattle.tree_laws.specs.Computed.{has, standing_of}
use Rattle.tree_laws.specs.Facts.{Playable, Standing}
use Rattle.tree_laws.specs.Routes.{WellFormed}
use Rattle.tree_laws.specs.Standings.{Known}
use Rattle.tree_laws.proofs.Checked.{decides_proper}
use Rattle.tree_laws.proofs.Children.{children_from}
use Rattle.tree_laws.proofs.Computed.{computed_laws_lem}
use Rattle.tree_laws.proofs.Nodes.{node_is}
use Rattle.row_laws.specs.Rows.{ListsPlayable}
use Rattle.row_laws.specs.Windowed.{with_marks, Fits}
use Rattle.row_laws.proofs.WithMarks.{mark_value, no_mark, Marking, fits_short, marking_of_window, playable_window, with_marks_decides}

-- ---- tests of all numbers below n, and of all words of at most k of the moves 1 to n

abbrev pub below : ℕ → (ℕ → Bool) → Bool
below zero f = true
below (suc n) f = f n && below n f

below_at : (n : ℕ) (f : ℕ → Bool) → below n f ≡ true → (i : ℕ) → i < n → f i ≡ true
below_at n f = (Decides-below_and f (λ i. f i ≡ true) (λ m. below m f) (λ i. (λ e. e, λ e. e)) refl (λ _. refl) n).0

abbrev pub each_word : ℕ → ℕ → (List ℕ → Bool) → Bool
each_word n zero f = f []
each_word n (suc k) f = f [] && below n (λ m. each_word n k (λ u. f (suc m ∷ u)))

each_word_at : (n k : ℕ) (f : List ℕ → Bool) → each_word n k f ≡ true → (u : List ℕ) → Moves n u → length u ≤ k → f u ≡ true
each_word_at n zero f e [] moves short = e
each_word_at n zero f e (x ∷ u) moves short = absurd (omega arith)
each_word_at n (suc k) f e [] moves short = (and_parts _ _ e).0
each_word_at n (suc k) f e (zero ∷ u) moves short = absurd (omega (arith, All-head (Move n) zero u moves))
each_word_at n (suc k) f e (suc m ∷ u) moves short =
    let m_below : m < n = omega (arith, All-head (Move n) (suc m) u moves) in
    let short' : length u ≤ k = omega arith in
    each_word_at n k (λ u. f (suc m ∷ u)) (below_at n (λ m. each_word n k (λ u. f (suc m ∷ u))) (and_parts _ _ e).1 m m_below) u (All-tail (Move n) (suc m) u moves) short'

-- ---- the standing of a word, through the nodes with lower numbers

abbrev pub standing : List Node → ℕ → ℕ → List ℕ → ℕ
standing t zero v u = 0
standing t (suc fuel) v u =
    standing_of (get_or t (v - 1) Skip) (standing t fuel (first_child (get_or t (v - 1) Skip))) (standing t fuel (second_child (get_or t (v - 1) Skip))) u

abbrev pub root_standing : List Node → List ℕ → ℕ
root_standing t u = standing t (length t) (length t) u

standing_known : (n k : ℕ) (t : List Node) → WellFormed n t → (fuel v : ℕ) → v ≤ fuel → 1 ≤ v → v ≤ length t → Known n k t (standing t fuel v) v
standing_known n k t wf zero v h low high = absurd (omega arith)
standing_known n k t wf (suc fuel) v h low high =
    let x = get_or t (v - 1) Skip in
    computed_laws_lem n k t wf v x (node_is low high) (standing t fuel (first_child x)) (standing t fuel (second_child x))
    (children_from n v (λ c. Known n k t (standing t fuel c)) x (wf v low high) (λ a l. standing_known n k t wf fuel a (omega (arith, l)) l.0 (omega (arith, l))))

-- ---- the parts of the test

abbrev pub fits : ℕ → ℕ → ℕ → Bool
fits k zero len = eqb len k
fits k (suc zero) len = eqb (len + 1) k
fits k (suc (suc zero)) len = eqb (len + 1) k
fits k (suc (suc (suc i))) len = leb (len + 2) k

decides_fits : (k i len : ℕ) → Decides (fits k i len) (Fits k i len)
decides_fits k zero len = Decides-eqb len k
decides_fits k (suc zero) len = Decides-eqb (len + 1) k
decides_fits k (suc (suc zero)) len = Decides-eqb (len + 1) k
decides_fits k (suc (suc (suc i))) len = (leb-true (len + 2) k, le-leb (len + 2) k)

abbrev pub listed : List ℕ → List (List ℕ) → Bool
listed x = list_any (λ w. bytes_eq w x)

decides_listed : (ws : List (List ℕ)) (x : List ℕ) → Decides (listed x ws) (Contains ws x)
decides_listed ws x = Decides-contains ws x _ (Decides-by_or (λ w. bytes_eq w x) (λ w. w ≡ x) (listed x) (λ w. bytes_eq-Decides w x) refl (λ _ _. refl) ws)

decides_moves : (n : ℕ) (u : List ℕ) → Decides (list_all (is_move n) u) (Moves n u)
decides_moves n =
    Decides-by_and (is_move n) (Move n) (list_all (is_move n))
    (λ x. Decides-and _ _ (leb-true 1 x, le-leb 1 x) (leb-true x n, le-leb x n)) refl (λ _ _. refl)

-- which marks stand in x, and x without them
abbrev pub marks_of : List ℕ → ℕ
marks_of = sum_by mark_value

abbrev pub bare : List ℕ → List ℕ
bare = filter no_mark

-- x is moves with their marks, and a window
abbrev pub is_with_marks : ℕ → ℕ → List ℕ → Bool
is_with_marks n k x = ltb (marks_of x) 4 && (list_all (is_move n) (bare x) && (fits k (marks_of x) (length (bare x)) && bytes_eq x (with_marks (marks_of x) (bare x))))

abbrev marking : (n k : ℕ) (x : List ℕ) → is_with_marks n k x ≡ true → Marking n k x
marking n k x e =
    let (four, e₁) = and_parts _ _ e in
    let (moves, e₂) = and_parts _ _ e₁ in
    let (fit, is) = and_parts _ _ e₂ in
    record {
      marks = marks_of x;
      word = bare x;
      four = ltb-true (marks_of x) 4 four;
      moves = (decides_moves n (bare x)).0 moves;
      fits = (decides_fits k (marks_of x) (length (bare x))).0 fit;
      is = (bytes_eq-Decides x (with_marks (marks_of x) (bare x))).0 is;
    }

markings : (n k : ℕ) (xs : List (List ℕ)) → list_all (is_with_marks n k) xs ≡ true → All (Marking n k) xs
markings n k xs e = All-weaker (λ x. is_with_marks n k x ≡ true) (Marking n k) (marking n k) xs (AllPass-from_list_all (is_with_marks n k) xs e)

from_cond : (a b : Bool) → cond a b true ≡ true → a ≡ true → b ≡ true
from_cond true b e h = e
from_cond false b e h = absurd (false≢true h)

-- where u with the marks i is a window, the bit of the standing s tells whether it is listed
abbrev pub agrees : ℕ → List (List ℕ) → List ℕ → ℕ → ℕ → Bool
agrees k ws u s i = if fits k i (length u) then beq (has s (2 ^ i)) (listed (with_marks i u) ws) else true

abbrev pub agrees_at : List Node → ℕ → List (List ℕ) → List ℕ → Bool
agrees_at t k ws u = below 4 (agrees k ws u (root_standing t u))

abbrev pub all_proper : ℕ → List Node → Bool
all_proper n t = below (length t) (λ i. is_proper n (suc i) (get_or t (suc i - 1) Skip))

well_formed : (n : ℕ) (t : List Node) → all_proper n t ≡ true → WellFormed n t
well_formed n t e zero low high = absurd (omega arith)
well_formed n t e (suc i) low high = (decides_proper n (suc i) (get_or t (suc i - 1) Skip)).0 (below_at (length t) _ e i (omega arith))

-- ---- the tests of a tree

-- n and k are in range, and t is well-formed and has a root
abbrev pub in_range : ℕ → ℕ → List Node → Bool
in_range n k t = leb n 12 && (leb 2 k && (leb 1 (length t) && all_proper n t))

record InRange (n k : ℕ) (t : List Node) : Type 0 where
  few : n ≤ 12
  wide : 2 ≤ k
  rooted : 1 ≤ length t
  wf : WellFormed n t

range_from_test : (n k : ℕ) (t : List Node) → in_range n k t ≡ true → InRange n k t
range_from_test n k t e =
    let (few, e₁) = and_parts _ _ e in
    let (wide, e₂) = and_parts _ _ e₁ in
    let (rooted, proper) = and_parts _ _ e₂ in
    record { few = leb-true n 12 few; wide = leb-true 2 k wide; rooted = leb-true 1 (length t) rooted; wf = well_formed n t proper }

abbrev pub plays_test : ℕ → ℕ → List Node → List (List ℕ) → Bool
plays_test n k t ws = in_range n k t && (list_all (is_with_marks n k) ws && each_word n k (agrees_at t k ws))

abbrev pub unplayable_test : ℕ → ℕ → List Node → List ℕ → Bool
unplayable_test n k t x = in_range n k t && (is_with_marks n k x && not (has (root_standing t (bare x)) (2 ^ marks_of x)))

module _ (n k : ℕ) (t : List Node) (range : InRange n k t) where
  -- the standing at the root tells whether a window is playable
  decides_playable : (x : List ℕ) (d : Marking n k x) → Decides (has (root_standing t d.word) (2 ^ d.marks)) (Playable t k x)
  decides_playable x d =
      let u = d.word in
      let short : length u ≤ k = fits_short k d.marks (length u) d.fits in
      let known : Standing t (length t) u (root_standing t u) = standing_known n k t range.wf (length t) (length t) (omega arith) range.rooted (omega arith) u d.moves short in
      subst (λ y. Decides (has (root_standing t u) (2 ^ d.marks)) (Playable t k y)) (sym d.is)
      (with_marks_decides n k range.few range.wide t range.wf u (root_standing t u) d.moves known d.marks d.four d.fits)

  module _ (ws : List (List ℕ)) (words : each_word n k (agrees_at t k ws) ≡ true) where
    decides_has : (x : List ℕ) (d : Marking n k x) → Decides (has (root_standing t d.word) (2 ^ d.marks)) (Contains ws x)
    decides_has x d =
        let u = d.word in
        let i = d.marks in
        let s = root_standing t u in
        let here : agrees k ws u s i ≡ true = below_at 4 (agrees k ws u s) (each_word_at n k (agrees_at t k ws) words u d.moves (fits_short k i (length u) d.fits)) i d.four in
        let agree : has s (2 ^ i) ≡ listed (with_marks i u) ws = (booleans_Decides _ _).0 (from_cond (fits k i (length u)) _ here ((decides_fits k i (length u)).1 d.fits)) in
        subst (λ y. Decides (has s (2 ^ i)) (Contains ws y)) (sym d.is) (Decides-at _ _ agree (decides_listed ws (with_marks i u)))

    exactly : All (Marking n k) ws → ListsPlayable t k ws
    exactly windows x = (
      λ h.
          let d = All-contains (Marking n k) ws x windows h in
          (decides_playable x d).0 ((decides_has x d).1 h),
      λ p.
          let d = marking_of_window n k x range.wide (playable_window n k range.few range.wide t range.wf x p) in
          (decides_has x d).0 ((decides_playable x d).1 p),
    )

pub plays_from_test : (n k : ℕ) (t : List Node) (ws : List (List ℕ)) → plays_test n k t ws ≡ true → WellFormed n t × ListsPlayable t k ws
plays_from_test n k t ws e =
    let (range, e₁) = and_parts _ _ e in
    let (windows, words) = and_parts _ _ e₁ in
    let r = range_from_test n k t range in
    (r.wf, exactly n k t r ws words (markings n k ws windows))

pub unplayable_from_test : (n k : ℕ) (t : List Node) (x : List ℕ) → unplayable_test n k t x ≡ true → WellFormed n t × (Playable t k x → ⊥)
unplayable_from_test n k t x e =
    let (range, e₁) = and_parts _ _ e in
    let (window, off) = and_parts _ _ e₁ in
    let r = range_from_test n k t range in
    (r.wf, not_from_Decides _ (decides_playable n k t r x (marking n k x window)) (not-true _ off))
