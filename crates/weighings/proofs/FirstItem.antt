-- The dearest weight of a window, by its first item and the others.
use Rattle.std.proofs.Common.{◌≡◌, ℕ, ◌≤◌, max, true, false, List, [], ◌∷◌, fold, unwrap_or, refl, ap, ◌∙◌, arith}
use Rattle.std.specs.List.{reduce}
use Rattle.std.specs.Prelude.{filter_map}
use Rattle.std.proofs.lemmas.Bool.{and_parts, leb-true}
use Rattle.weighings.specs.Weights.{move_weight, is_move, weight_if_move, dearest}
use Rattle.weighings.specs.Moves.{move_in_range}

fold_max : (a b : ℕ) (ws : List ℕ) → fold max (max a b) ws ≡ max a (fold max b ws)
fold_max a b [] = refl
fold_max a b (w ∷ ws) =
    let regrouped : max (max a b) w ≡ max a (max b w) = omega arith in
    ap (λ m. fold max m ws) regrouped ∙ fold_max a (max b w) ws

-- a weight beside others
beside : (a : ℕ) (ws : List ℕ) → 1 ≤ a → fold max a ws ≡ max a (unwrap_or (reduce max ws) 1)
beside a [] least = omega arith
beside a (w ∷ ws) least = fold_max a w ws

pub dearest_move : (x : ℕ) (xs : List ℕ) → is_move x ≡ true → dearest (x ∷ xs) ≡ max (move_weight x) (dearest xs)
dearest_move x xs e =
    rw e (beside (move_weight x) (filter_map weight_if_move xs) (move_in_range x (leb-true 1 x (and_parts _ _ e).0, leb-true x 12 (and_parts _ _ e).1)).least)

pub dearest_other : (x : ℕ) (xs : List ℕ) → is_move x ≡ false → dearest (x ∷ xs) ≡ dearest xs
dearest_other x xs e = rw e refl
