-- An interleaving is a selection of positions by a mask.
use Rattle.std.proofs.Common.{◌≡◌, ℕ, ◌+◌, ◌*◌, ◌/◌, ◌%◌, ◌^◌, ◌<◌, Bool, true, false, cond, eqb, List, [], ◌∷◌, ◌++◌, length, get_or, take, refl, ap, ◌∙◌, pow-suc, arith}
use Rattle.std.proofs.lemmas.List.{take_more, length-take-le}
use Rattle.std.proofs.lemmas.Nat.Bits.{bit_at_lowest, bit_at-suc}
use Rattle.tree_laws.specs.Routes.{Interleaving, none, from_left, from_right}
use Rattle.tree_laws.specs.Selections.{picked, left_out}
use Rattle.tree_laws.proofs.Bits.{on}

taken : {p q w : List ℕ} (x : ℕ) (c : Bool) → Interleaving p q w → Interleaving (cond c (x ∷ p) p) (cond c q (x ∷ q)) (x ∷ w)
taken x true i = from_left i
taken x false i = from_right i

pub selected : (mask : ℕ) (u : List ℕ) → Interleaving (picked mask u) (left_out mask u) u
selected m [] = none
selected m (x ∷ u) = taken x (eqb (m % 2) 1) (selected (m / 2) u)

-- one more item in front, with its bit d
pub mask_front : (m d x : ℕ) (u : List ℕ) → d < 2
    → (picked (m * 2 + d) (x ∷ u) ≡ cond (eqb d 1) (x ∷ picked m u) (picked m u))
    × (left_out (m * 2 + d) (x ∷ u) ≡ cond (eqb d 1) (left_out m u) (x ∷ left_out m u))
mask_front m d x u h =
    let low : (m * 2 + d) % 2 ≡ d = omega arith in
    let high : (m * 2 + d) / 2 ≡ m = omega arith in
    ((λ i. cond (eqb (low i) 1) (x ∷ picked (high i) u) (picked (high i) u)), (λ i. cond (eqb (low i) 1) (left_out (high i) u) (x ∷ left_out (high i) u)))

pub record Selects (x y u : List ℕ) : Type 0 where
  pub mask : ℕ
  pub below : mask < 2 ^ length u
  pub picks : picked mask u ≡ x
  pub leaves : left_out mask u ≡ y

pub selection : {x y u : List ℕ} → Interleaving x y u → Selects x y u
selection none = record { mask = 0; below = omega arith; picks = refl; leaves = refl }
selection (from_left {x = a} {w = w} i) =
    let r = selection i in
    let e = mask_front r.mask 1 a w (omega arith) in
    record { mask = r.mask * 2 + 1; below = omega (arith, pow-suc 2 (length w)); picks = e.0 ∙ ap (λ l. a ∷ l) r.picks; leaves = e.1 ∙ r.leaves }
selection (from_right {x = a} {w = w} i) =
    let r = selection i in
    let e = mask_front r.mask 0 a w (omega arith) in
    record { mask = r.mask * 2 + 0; below = omega (arith, pow-suc 2 (length w)); picks = e.0 ∙ r.picks; leaves = e.1 ∙ ap (λ l. a ∷ l) r.leaves }

-- ---- one more item at the end, with its bit

-- the first item's bit is c, the last one's d
both_ends : (c d : Bool) (x y : ℕ) (p q : List ℕ)
    → (cond c (x ∷ cond d (p ++ (y ∷ [])) p) (cond d (p ++ (y ∷ [])) p) ≡ cond d (cond c (x ∷ p) p ++ (y ∷ [])) (cond c (x ∷ p) p))
    × (cond c (cond d q (q ++ (y ∷ []))) (x ∷ cond d q (q ++ (y ∷ []))) ≡ cond d (cond c q (x ∷ q)) (cond c q (x ∷ q) ++ (y ∷ [])))
both_ends true true x y p q = (refl, refl)
both_ends true false x y p q = (refl, refl)
both_ends false true x y p q = (refl, refl)
both_ends false false x y p q = (refl, refl)

pushed : (m : ℕ) (xs : List ℕ) (y : ℕ)
    → (picked m (xs ++ (y ∷ [])) ≡ cond (on m (length xs)) (picked m xs ++ (y ∷ [])) (picked m xs))
    × (left_out m (xs ++ (y ∷ [])) ≡ cond (on m (length xs)) (left_out m xs) (left_out m xs ++ (y ∷ [])))
pushed m [] y = rw bit_at_lowest (refl, refl)
pushed m (x ∷ xs) y =
    let c = eqb (m % 2) 1 in
    let rest = pushed (m / 2) xs y in
    let ends = both_ends c (on (m / 2) (length xs)) x y (picked (m / 2) xs) (left_out (m / 2) xs) in
    rw bit_at-suc (ap (λ l. cond c (x ∷ l) l) rest.0 ∙ ends.0, ap (λ l. cond c l (x ∷ l)) rest.1 ∙ ends.1)

-- the step of a loop over the items
pub picked_more : (m : ℕ) (u : List ℕ) (i d : ℕ) → i < length u → picked m (take (i + 1) u) ≡ cond (on m i) (picked m (take i u) ++ (get_or u i d ∷ [])) (picked m (take i u))
picked_more m u i d h =
    ap (picked m) (take_more u i d h) ∙ (pushed m (take i u) (get_or u i d)).0
    ∙ ap (λ k. cond (on m k) (picked m (take i u) ++ (get_or u i d ∷ [])) (picked m (take i u))) (length-take-le i u (omega arith))

pub left_more : (m : ℕ) (u : List ℕ) (i d : ℕ) → i < length u → left_out m (take (i + 1) u) ≡ cond (on m i) (left_out m (take i u)) (left_out m (take i u) ++ (get_or u i d ∷ []))
left_more m u i d h =
    ap (left_out m) (take_more u i d h) ∙ (pushed m (take i u) (get_or u i d)).1
    ∙ ap (λ k. cond (on m k) (left_out m (take i u)) (left_out m (take i u) ++ (get_or u i d ∷ []))) (length-take-le i u (omega arith))
