-- Numbers whose bits tell the four facts of a word, and how they are worked out for choice, sequence and interleaving.
use Rattle.std.proofs.Common.{◌≡◌, ℕ, ◌+◌, ◌/◌, ◌^◌, ◌<◌, Bool, true, false, ◌&&◌, ◌||◌, eqb, ◌⊎◌, List, [], ◌∷◌, ◌++◌, length, take, drop, Decides, sym, refl, ap, ◌∙◌, subst, inl, inr, ⊎_elim, append-nil, arith, length-append, take-append-drop}
use mathlib.Core.Bool.{false≢true}
use mathlib.Core.List.{nil≢cons}
use lib.Bits.{bit_and, bit_or, or_lt, and_le_r}
use lib.Seq.{take-append_seam, drop-append_seam}
use Rattle.std.proofs.lemmas.Bool.{eqb-true, eqb-false, both_ways, cases_Bool, cond-true, cond-false}
use Rattle.std.proofs.lemmas.Bool.Decides.{Decides-at, Decides-or, Decides-and, Decides-like}
use Rattle.tree_laws.specs.Computed.{ors, skip_standing, move_standing, front_bits, back_bits, cut_bits, sequence_standing, mask_bits, parallel_standing}
use Rattle.tree_laws.specs.Selections.{picked, left_out}
use Rattle.tree_laws.proofs.Splits.{carry}
use Rattle.tree_laws.proofs.Parts.{Language, Some, open_nil, Part, part_map, widen, beginning, ending, whole_of, contained, Either, choice_to, choice_from, Then, Joined, across, in_first, in_second, sequence_to, sequence_from, Interleaved, parallel_to, parallel_from}
use Rattle.tree_laws.proofs.Masks.{selected, selection}
use Rattle.tree_laws.proofs.Bits.{on, on_or, on_and, on_shift, on_none, on_ors, ors_below}

-- the bit of the fact that leaves the front or the back open
abbrev pub place : Bool → Bool → ℕ
place true true = 0
place false true = 1
place true false = 2
place false false = 3

-- s has a bit for each fact that u has in L
pub record Right (L : Language) (u : List ℕ) (s : ℕ) : Type 0 where
  pub small : s < 16
  pub tells : (f b : Bool) → Decides (on s (place f b)) (Part f b L u)

pub right_map : {K L : Language} {u : List ℕ} {s : ℕ} → ((w : List ℕ) → K w → L w) → ((w : List ℕ) → L w → K w) → Right K u s → Right L u s
right_map {K} {L} to from r = record { small = r.small; tells = λ f b. Decides-like _ (part_map L to) (part_map K from) (r.tells f b) }

-- ---- one word

full : (L : Language) (u : List ℕ) → L u → Right L u 15
full L u l = record { small = omega arith; tells = each }
  where
    here : (f b : Bool) → Part f b L u
    here f b = record { before = []; after = []; front_open = open_nil f; back_open = open_nil b; word = carry L l (sym (append-nil u)) }

    each : (f b : Bool) → Decides (on 15 (place f b)) (Part f b L u)
    each true true = (λ _. here true true, λ _. refl)
    each false true = (λ _. here false true, λ _. refl)
    each true false = (λ _. here true false, λ _. refl)
    each false false = (λ _. here false false, λ _. refl)

nothing : (L : Language) (u : List ℕ) → (Part true true L u → ⊥) → Right L u 0
nothing L u none = record { small = omega arith; tells = λ f b. (λ e. absurd (both_ways _ (on_none (place f b)) e), λ h. absurd (none (widen f b h))) }

pub skip_right : (u : List ℕ) → Right (λ w. w ≡ []) u (skip_standing u)
skip_right [] = full _ [] refl
skip_right (x ∷ xs) = nothing _ (x ∷ xs) (λ h. omega (arith, sym (length-append h.before ((x ∷ xs) ++ h.after)) ∙ ap length h.word))

one_item : (p : List ℕ) (x m : ℕ) (q : List ℕ) → p ++ (x ∷ q) ≡ m ∷ [] → x ≡ m
one_item [] x m q e = cc
one_item (y ∷ p) x m q e = absurd (omega (arith, sym (length-append (y ∷ p) (x ∷ q)) ∙ ap length e))

pub move_right : (m : ℕ) (u : List ℕ) → Right (λ w. w ≡ m ∷ []) u (move_standing m u)
move_right m [] = record { small = omega arith; tells = each }
  where
    each : (f b : Bool) → Decides (on 7 (place f b)) (Part f b (λ w. w ≡ m ∷ []) [])
    each true true = (λ _. contained [] (m ∷ []) refl refl, λ _. refl)
    each false true = (λ _. beginning true (λ w. w ≡ m ∷ []) [] (m ∷ []) tt refl, λ _. refl)
    each true false = (λ _. ending true (λ w. w ≡ m ∷ []) (m ∷ []) [] tt refl, λ _. refl)
    each false false = (λ e. absurd (false≢true e), λ h. absurd (nil≢cons (whole_of h)))
move_right m (x ∷ []) =
    ⊎_elim
    (λ e. subst (Right (λ w. w ≡ m ∷ []) (x ∷ [])) (sym (cond-true (eqb x m) 15 0 e)) (full (λ w. w ≡ m ∷ []) (x ∷ []) (ap (λ y. y ∷ []) (eqb-true x m e))))
    (λ e. subst (Right (λ w. w ≡ m ∷ []) (x ∷ [])) (sym (cond-false (eqb x m) 15 0 e)) (nothing (λ w. w ≡ m ∷ []) (x ∷ []) (λ h. eqb-false x m e (one_item h.before x m h.after h.word))))
    (cases_Bool (eqb x m))
move_right m (x ∷ y ∷ xs) = nothing (λ w. w ≡ m ∷ []) (x ∷ y ∷ xs) (λ h. omega (arith, sym (length-append h.before ((x ∷ y ∷ xs) ++ h.after)) ∙ ap length h.word))

-- ---- choice

pub choice_right : {A B : Language} {u : List ℕ} {s r : ℕ} → Right A u s → Right B u r → Right (Either A B) u (bit_or s r)
choice_right {s = s} {r} ra rb = record {
  small = or_lt 4 s r ra.small rb.small;
  tells = λ f b. Decides-at _ _ (on_or s r (place f b)) (Decides-like _ choice_from choice_to (Decides-or _ _ (ra.tells f b) (rb.tells f b)));
}

-- ---- sequence

pub upper : (c d : Bool) → ((c && false) || (d && true)) ≡ d
upper c d = let x = cases_Bool c in let y = cases_Bool d in grind arith

pub lower : (c d : Bool) → ((c && true) || (d && false)) ≡ c
lower c d = let x = cases_Bool c in let y = cases_Bool d in grind arith

pub neither : (c d : Bool) → ((c && false) || (d && false)) ≡ false
neither c d = let x = cases_Bool c in let y = cases_Bool d in grind arith

masked_on : (s mask j i : ℕ) → on (bit_or (bit_and s mask) (bit_and s mask / 2 ^ j)) i ≡ ((on s i && on mask i) || (on s (j + i) && on mask (j + i)))
masked_on s mask j i =
    let x = bit_and s mask in
    on_or x (x / 2 ^ j) i ∙ (λ k. on_and s mask i k || (on_shift x j i ∙ on_and s mask (j + i)) k)

front_on : (s : ℕ) (f b : Bool) → on (front_bits s) (place f b) ≡ on s (place f false)
front_on s true true = masked_on s 12 2 0 ∙ upper (on s 0) (on s 2)
front_on s false true = masked_on s 12 2 1 ∙ upper (on s 1) (on s 3)
front_on s true false = masked_on s 12 2 2 ∙ lower (on s 2) (on s 4)
front_on s false false = masked_on s 12 2 3 ∙ lower (on s 3) (on s 5)

back_on : (s : ℕ) (f b : Bool) → on (back_bits s) (place f b) ≡ on s (place false b)
back_on s true true = masked_on s 10 1 0 ∙ upper (on s 0) (on s 1)
back_on s false true = masked_on s 10 1 1 ∙ lower (on s 1) (on s 2)
back_on s true false = masked_on s 10 1 2 ∙ upper (on s 2) (on s 3)
back_on s false false = masked_on s 10 1 3 ∙ lower (on s 3) (on s 4)

open_back : (f b : Bool) → on 3 (place f b) ≡ b
open_back true true = refl
open_back false true = refl
open_back true false = refl
open_back false false = refl

open_front : (f b : Bool) → on 5 (place f b) ≡ f
open_front true true = refl
open_front false true = refl
open_front true false = refl
open_front false false = refl

pub and_small : (x y : ℕ) → y < 16 → bit_and x y < 16
and_small x y h = omega (arith, and_le_r x y)

back_small : (s : ℕ) → back_bits s < 16
back_small s = or_lt 4 (bit_and s 10) (bit_and s 10 / 2) (omega (arith, and_le_r s 10)) (omega (arith, and_le_r s 10))

is_true : (b : Bool) → Decides b (b ≡ true)
is_true b = (λ e. e, λ e. e)

-- the words at which the children's standings are asked for
pub record Closed (Ok : List ℕ → Type 0) : Type 0 where
  pub ok_nil : Ok []
  pub ok_take : (j : ℕ) (u : List ℕ) → Ok u → Ok (take j u)
  pub ok_drop : (j : ℕ) (u : List ℕ) → Ok u → Ok (drop j u)
  pub ok_picked : (j : ℕ) (u : List ℕ) → Ok u → Ok (picked j u)
  pub ok_left : (j : ℕ) (u : List ℕ) → Ok u → Ok (left_out j u)

module _ {A B : Language} {Ok : List ℕ → Type 0} (closed : Closed Ok) (sa sb : List ℕ → ℕ)
    (ra : (w : List ℕ) → Ok w → Right A w (sa w)) (rb : (w : List ℕ) → Ok w → Right B w (sb w)) (u : List ℕ) (ok : Ok u) where
  -- the cut at j
  At : Bool → Bool → ℕ → Type 0
  At f b j = Part f false A (take j u) × Part false b B (drop j u)

  cut_tells : (f b : Bool) (j : ℕ) → Decides (on (cut_bits sa sb u j) (place f b)) (At f b j)
  unfolding At
  cut_tells f b j =
      let x = sa (take j u) in
      let y = sb (drop j u) in
      Decides-at _ _ (on_and (front_bits x) (back_bits y) (place f b) ∙ (λ i. front_on x f b i && back_on y f b i))
      (Decides-and _ _ ((ra (take j u) (closed.ok_take j u ok)).tells f false) ((rb (drop j u) (closed.ok_drop j u ok)).tells false b))

  Cases : Bool → Bool → Type 0
  Cases f b = ((Part f b A u × (b ≡ true)) ⊎ (Part f b B u × (f ≡ true))) ⊎ ((j : ℕ) × (j < length u + 1) × At f b j)

  cases_joined : (f b : Bool) → Cases f b → Joined f b A B u
  unfolding Cases At
  cases_joined f b (inl (inl (h, e))) = in_first e (subst (λ c. Part f c A u) e h)
  cases_joined f b (inl (inr (h, e))) = in_second e (subst (λ c. Part c b B u) e h)
  cases_joined f b (inr (j, l, h)) = across (take j u) (drop j u) (sym (take-append-drop j u)) h.0 h.1

  joined_cases : (f b : Bool) → Joined f b A B u → Cases f b
  unfolding Cases At
  joined_cases f b (across x y e h k) =
      inr (length x, omega (arith, ap length e ∙ length-append x y), (subst (Part f false A) (sym (ap (take (length x)) e ∙ take-append_seam x y)) h, subst (Part false b B) (sym (ap (drop (length x)) e ∙ drop-append_seam x y)) k))
  joined_cases f b (in_first e h) = inl (inl (subst (λ c. Part f c A u) (sym e) h, e))
  joined_cases f b (in_second e h) = inl (inr (subst (λ c. Part c b B u) (sym e) h, e))

  pub sequence_right : Some A → Some B → Right (Then A B) u (sequence_standing sa sb u)
  unfolding Cases At
  sequence_right some_a some_b = record {
    small = or_lt 4 _ _ (or_lt 4 _ _ (and_small (sa u) 3 (omega arith)) (and_small (sb u) 5 (omega arith))) (ors_below (cut_bits sa sb u) 4 (length u + 1) (λ j _. and_small (front_bits (sa (take j u))) (back_bits (sb (drop j u))) (back_small (sb (drop j u)))));
    tells = λ f b.
        let i = place f b in
        let first : Decides (on (bit_and (sa u) 3) i) (Part f b A u × (b ≡ true)) = Decides-at _ _ (on_and (sa u) 3 i ∙ ap (λ c. on (sa u) i && c) (open_back f b)) (Decides-and _ _ ((ra u ok).tells f b) (is_true b)) in
        let second : Decides (on (bit_and (sb u) 5) i) (Part f b B u × (f ≡ true)) = Decides-at _ _ (on_and (sb u) 5 i ∙ ap (λ c. on (sb u) i && c) (open_front f b)) (Decides-and _ _ ((rb u ok).tells f b) (is_true f)) in
        let third = on_ors (cut_bits sa sb u) i (At f b) (length u + 1) (λ j _. cut_tells f b j) in
        let sides = Decides-at _ _ (on_or (bit_and (sa u) 3) (bit_and (sb u) 5) i) (Decides-or _ _ first second) in
        Decides-at _ _ (on_or (bit_or (bit_and (sa u) 3) (bit_and (sb u) 5)) (ors (cut_bits sa sb u) (length u + 1)) i)
        (Decides-like _ (λ h. sequence_from some_a some_b f b u (cases_joined f b h)) (λ h. joined_cases f b (sequence_to f b u h)) (Decides-or _ _ sides third));
  }

  -- ---- interleaving

  pub parallel_right : Right (Interleaved A B) u (parallel_standing sa sb u)
  parallel_right = record {
    small = ors_below (mask_bits sa sb u) 4 (2 ^ length u) (λ j _. and_small (sa (picked j u)) (sb (left_out j u)) (rb (left_out j u) (closed.ok_left j u ok)).small);
    tells = λ f b.
        let i = place f b in
        Decides-like _
        (λ h. parallel_from f b u (picked h.0 u, left_out h.0 u, selected h.0 u, h.2.0, h.2.1))
        (λ h.
        let (x, y, w, p, q) = parallel_to f b u h in
        let s = selection w in
        (s.mask, s.below, (subst (Part f b A) (sym s.picks) p, subst (Part f b B) (sym s.leaves) q)))
        (on_ors (mask_bits sa sb u) i (λ j. Part f b A (picked j u) × Part f b B (left_out j u)) (2 ^ length u)
        (λ j _. Decides-at _ _ (on_and (sa (picked j u)) (sb (left_out j u)) i) (Decides-and _ _ ((ra (picked j u) (closed.ok_picked j u ok)).tells f b) ((rb (left_out j u) (closed.ok_left j u ok)).tells f b))));
  }
