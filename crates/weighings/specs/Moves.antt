-- The rule of the table of weights, and the law of the dearest move.
use Rattle.std.specs.Prelude.{◌≡◌, ℕ, zero, suc, ◌-◌, ◌≤◌, max, ◌&&◌, ◌⊎◌, Option, Some, None, MatchOption, List, [], ◌∷◌, All, Contains, Decides, true, filter_map, fold, length, nat_le, refl, unwrap_or}
use Rattle.std.specs.List.{cons_option, reduce}
use Rattle.std.proofs.Common.{sym, ap, ◌∙◌, subst, inl, inr, arith}
use Rattle.std.proofs.lemmas.List.Elements.{All-cons, All-contains, All-get_or, All-nil, All-weaker, Contains-append_right}
use Rattle.std.proofs.lemmas.List.Sums.{AllPass-from_list_all}
use Rattle.std.proofs.lemmas.Bool.{cases_Bool, cases_lt, and_parts, leb-true, le-leb, cond-false, both_ways, false_from_ne_true}
use Rattle.std.proofs.lemmas.Bool.Decides.{Decides-and}
use Rattle.terms.specs.Words.{Move}
use Rattle.weighings.specs.Weights.{InRange, move_weights, move_weight, is_move, weight_if_move, dearest, HasMove, IsDearest}

pub one_in_range : InRange 1
one_in_range = record { least = omega arith; most = omega arith }

-- one computed test for the whole table
pub table_rule : All InRange move_weights
table_rule =
    All-weaker (λ w. nat_le 1 w && nat_le w 1000 ≡ true) InRange
    (λ w passed. let ends = and_parts (nat_le 1 w) (nat_le w 1000) passed in record { least = leb-true 1 w ends.0; most = leb-true w 1000 ends.1 })
    move_weights (AllPass-from_list_all (λ w. nat_le 1 w && nat_le w 1000) move_weights refl)

pub move_in_range : (x : ℕ) → Move 12 x → InRange (move_weight x)
move_in_range x move = All-get_or InRange move_weights (x - 1) 0 (omega arith) table_rule

decides_move : (x : ℕ) → Decides (is_move x) (Move 12 x)
decides_move x = Decides-and (nat_le 1 x) (nat_le x 12) (leb-true 1 x, le-leb 1 x) (leb-true x 12, le-leb x 12)

weighs : (x : ℕ) → Move 12 x → weight_if_move x ≡ Some (move_weight x)
weighs x move = rw ((decides_move x).1 move)

weighs_nothing : (x : ℕ) → (Move 12 x → ⊥) → weight_if_move x ≡ None
weighs_nothing x other = cond-false (is_move x) _ _ (false_from_ne_true (is_move x) (λ e. other ((decides_move x).0 e)))

pub same_weight : (x : ℕ) (r : Option ℕ) → MatchOption r (Move 12 x → ⊥) (λ w. Move 12 x × (w ≡ move_weight x)) → r ≡ weight_if_move x
same_weight x None other = sym (weighs_nothing x other)
same_weight x (Some w) (move, is) = ap Some is ∙ sym (weighs x move)

-- an item of a list is its first item, or one of the others
first : (x : ℕ) (xs : List ℕ) → Contains (x ∷ xs) x
first x xs = (0, omega arith, refl)

later : (x y : ℕ) (xs : List ℕ) → Contains xs y → Contains (x ∷ xs) y
later x y xs = Contains-append_right (x ∷ []) xs y

first_or_later : (x y : ℕ) (xs : List ℕ) → Contains (x ∷ xs) y → (x ≡ y) ⊎ Contains xs y
first_or_later x y xs (zero, inside, here) = inl here
first_or_later x y xs (suc k, inside, here) = inr (k, omega (arith, inside), here)

-- the largest of numbers is one of them, and none is larger
largest : (a : ℕ) (xs : List ℕ) → ((fold max a xs ≡ a) ⊎ Contains xs (fold max a xs)) × (a ≤ fold max a xs) × All (λ x. x ≤ fold max a xs) xs
largest a [] = (inl refl, omega arith, All-nil (λ x. x ≤ a))
largest a (x ∷ xs) =
    let all = largest (max a x) xs in
    let top = fold max (max a x) xs in (
      elim all.0 [
        | inl e ↦ elim (cases_lt a x) [ inl l ↦ inr (0, omega arith, omega arith) | inr l ↦ inl (omega arith) ]
        | inr l ↦ inr (later x top xs l)
      ],
      omega arith,
      All-cons (λ x. x ≤ top) x xs (omega arith) all.2,
    )

largest_or_one : (ws : List ℕ) → ((ws ≡ []) × (unwrap_or (reduce max ws) 1 ≡ 1)) ⊎ Contains ws (unwrap_or (reduce max ws) 1)
largest_or_one [] = inl (refl, refl)
largest_or_one (w ∷ ws) = inr (elim (largest w ws).0 [ inl e ↦ (0, omega arith, sym e) | inr l ↦ later w (fold max w ws) ws l ])

none_larger : (ws : List ℕ) → All (λ w. w ≤ unwrap_or (reduce max ws) 1) ws
none_larger [] = All-nil (λ w. w ≤ 1)
none_larger (w ∷ ws) = All-cons (λ x. x ≤ fold max w ws) w ws (largest w ws).1 (largest w ws).2

abbrev weights : List ℕ → List ℕ
weights window = filter_map weight_if_move window

-- the weights of a window are those of its moves
has_weight : (window : List ℕ) (y : ℕ) → HasMove window y → Contains (weights window) (move_weight y)
has_weight [] y has = absurd (omega (arith, has.0.1))
has_weight (x ∷ xs) y (has, move) =
    elim (first_or_later x y xs has) [
      | inl e ↦ rw (e, weighs y move) (first (move_weight y) (weights xs))
      | inr l ↦ past (weight_if_move x) (has_weight xs y (l, move))
    ]
  where
    past : (o : Option ℕ) → Contains (weights xs) (move_weight y) → Contains (cons_option o (weights xs)) (move_weight y)
    past None h = h
    past (Some w) h = later w (move_weight y) (weights xs) h

from_weight : (window : List ℕ) (m : ℕ) → Contains (weights window) m → (y : ℕ) × HasMove window y × (move_weight y ≡ m)
from_weight [] m has = absurd (omega (arith, has.1))
from_weight (x ∷ xs) m has =
    elim (cases_Bool (is_move x)) [
      | inl e ↦
          let move = (decides_move x).0 e in
          let here : Contains (move_weight x ∷ weights xs) m = rw (weighs x move) at has in
          elim (first_or_later (move_weight x) m (weights xs) here) [ inl is ↦ (x, (first x xs, move), is) | inr l ↦ onwards (from_weight xs m l) ]
      | inr e ↦ onwards (from_weight xs m (rw (weighs_nothing x (λ move. both_ways (is_move x) e ((decides_move x).1 move))) at has))
    ]
  where
    onwards : (y : ℕ) × HasMove xs y × (move_weight y ≡ m) → (y : ℕ) × HasMove (x ∷ xs) y × (move_weight y ≡ m)
    onwards (y, found, is) = (y, (later x y xs found.0, found.1), is)

-- the dearest weight is that of some move, or there is no move and it is 1
attained : (window : List ℕ) → (((y : ℕ) → HasMove window y → ⊥) × (dearest window ≡ 1)) ⊎ ((y : ℕ) × HasMove window y × (move_weight y ≡ dearest window))
attained window =
    elim (largest_or_one (weights window)) [
      | inl none ↦ inl (λ y has. omega (arith, (has_weight window y has).1, ap length none.0), none.1)
      | inr most ↦ inr (from_weight window (dearest window) most)
    ]

pub dearest_in_range : (window : List ℕ) → InRange (dearest window)
dearest_in_range window =
    elim (attained window) [
      | inl none ↦ rw none.1 one_in_range
      | inr some ↦ subst InRange some.2 (move_in_range some.0 some.1.1)
    ]

pub is_dearest : (window : List ℕ) → IsDearest window (dearest window)
is_dearest window =
    record {
      without_moves = λ none. elim (attained window) [ inl e ↦ e.1 | inr some ↦ absurd (none some.0 some.1) ];
      with_moves = λ x has. elim (attained window) [ inl e ↦ absurd (e.0 x has) | inr some ↦ some ];
      none_dearer = λ x has. All-contains (λ w. w ≤ dearest window) (weights window) (move_weight x) (none_larger (weights window)) (has_weight window x has);
    }
