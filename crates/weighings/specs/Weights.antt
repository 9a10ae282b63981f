-- What moves weigh, and the weight of the dearest move of a window.
use Rattle.std.specs.Prelude.{◌≡◌, ℕ, ◌-◌, ◌≤◌, max, Bool, ◌&&◌, if◌then◌else◌, Option, Some, None, List, [], ◌∷◌, Contains, nat_le, slice_index, filter_map, unwrap_or}
use Rattle.std.specs.List.{reduce}
use Rattle.terms.specs.Words.{Move}

-- every weight lies between these
pub record InRange (weight : ℕ) : Type 0 where
  pub least : 1 ≤ weight
  pub most : weight ≤ 1000

-- the weights of the moves 1 to 12
abbrev pub move_weights : List ℕ
move_weights = 1 ∷ 1 ∷ 1 ∷ 1 ∷ 2 ∷ 2 ∷ 2 ∷ 2 ∷ 5 ∷ 5 ∷ 5 ∷ 10 ∷ []

-- the weight of a move
abbrev pub move_weight : ℕ → ℕ
move_weight x = slice_index move_weights (x - 1)

abbrev pub is_move : ℕ → Bool
is_move x = nat_le 1 x && nat_le x 12

-- what is no move has no weight
abbrev pub weight_if_move : ℕ → Option ℕ
weight_if_move x = if is_move x then Some (move_weight x) else None

-- the largest weight among the moves of a window, 1 where it has none
abbrev pub dearest : List ℕ → ℕ
dearest window = unwrap_or (reduce max (filter_map weight_if_move window)) 1

-- the move x stands in the window
abbrev pub HasMove : List ℕ → ℕ → Type 0
HasMove window x = Contains window x × Move 12 x

-- m is the weight of a dearest move of the window
pub record IsDearest (window : List ℕ) (m : ℕ) : Type 0 where
  pub without_moves : ((x : ℕ) → HasMove window x → ⊥) → m ≡ 1
  pub with_moves : (x : ℕ) → HasMove window x → (y : ℕ) × HasMove window y × (move_weight y ≡ m)
  pub none_dearer : (x : ℕ) → HasMove window x → move_weight x ≤ m
