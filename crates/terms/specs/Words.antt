-- What moves, marks, marked lists, runs and windows are. A list of items is a list of bytes: a move is its number.
use Rattle.std.specs.Prelude.{◌≡◌, ℕ, ◌+◌, ◌-◌, ◌<◌, ◌≤◌, if◌then◌else◌, ◌⊎◌, List, [], ◌∷◌, ◌++◌, map, length, take, drop, All, nat_le, slice_index, slice_index_or}
use Rattle.std.specs.List.{range_with_len}

-- a book may have n moves and the order k
pub record Allowed (n k : ℕ) : Type 0 where
  pub some_moves : 1 ≤ n
  pub few_moves : n ≤ 12
  pub order_low : 2 ≤ k
  pub order_high : k ≤ 5

abbrev pub start_mark : ℕ
start_mark = 43

abbrev pub end_mark : ℕ
end_mark = 45

-- a play has at most this many moves
abbrev pub most_moves : ℕ
most_moves = 32

-- x is one of the moves 1 to n
abbrev pub Move : ℕ → ℕ → Type 0
Move n x = (1 ≤ x) × (x ≤ n)

abbrev pub Moves : ℕ → List ℕ → Type 0
Moves n w = All (Move n) w

-- the start mark, the moves, the end mark
abbrev pub marked : List ℕ → List ℕ
marked w = start_mark ∷ (w ++ (end_mark ∷ []))

-- w has u as consecutive items, at its front, at its end
abbrev pub HasRun : List ℕ → List ℕ → Type 0
HasRun w u = (before : List ℕ) × (after : List ℕ) × (w ≡ before ++ (u ++ after))

abbrev pub Begins : List ℕ → List ℕ → Type 0
Begins w u = (after : List ℕ) × (w ≡ u ++ after)

abbrev pub Ends : List ℕ → List ℕ → Type 0
Ends w u = (before : List ℕ) × (w ≡ before ++ u)

-- u is the run of k items of w at the place p, counted from 0
pub record RunAt (w : List ℕ) (k p : ℕ) (u : List ℕ) : Type 0 where
  pub before : List ℕ
  pub after : List ℕ
  pub split : w ≡ before ++ (u ++ after)
  pub place : length before ≡ p
  pub long : length u ≡ k

-- ws are the windows of order k of the list w, in order, one at each place
pub record Cuts (k : ℕ) (w : List ℕ) (ws : List (List ℕ)) : Type 0 where
  pub short : length w ≤ k → ws ≡ w ∷ []
  pub places : k < length w → length ws ≡ length w - k + 1
  pub runs : k < length w → (p : ℕ) → p < length ws → RunAt w k p (slice_index_or ws p [])

-- the run of k items at the place p
abbrev pub run : ℕ → List ℕ → ℕ → List ℕ
run k w p = take k (drop p w)

-- all runs of k items, one at each place
abbrev pub runs : ℕ → List ℕ → List (List ℕ)
runs k w = map (run k w) (range_with_len 0 (length w + 1 - k))

-- the windows of order k of a list, as a list
abbrev pub windows : ℕ → List ℕ → List (List ℕ)
windows k w = if nat_le (length w) k then w ∷ [] else runs k w

-- u is a window of the list w
abbrev pub WindowOf : ℕ → List ℕ → List ℕ → Type 0
WindowOf k w u = ((length w ≤ k) × (u ≡ w)) ⊎ ((k < length w) × (length u ≡ k) × HasRun w u)

-- u is a run of k items of some marked list longer than k
abbrev pub LongWindow : ℕ → ℕ → List ℕ → Type 0
LongWindow n k u = (w : List ℕ) × Moves n w × (k < length (marked w)) × (length u ≡ k) × HasRun (marked w) u

-- u is both marks around at most k - 2 moves
abbrev pub ShortWindow : ℕ → ℕ → List ℕ → Type 0
ShortWindow n k u = (w : List ℕ) × Moves n w × (length w ≤ k - 2) × (u ≡ marked w)

abbrev pub IsWindow : ℕ → ℕ → List ℕ → Type 0
IsWindow n k u = LongWindow n k u ⊎ ShortWindow n k u

-- the move at the place p, counted from 1, is the first of w outside 1 to n
pub record FirstWrong (n : ℕ) (w : List ℕ) (p : ℕ) : Type 0 where
  pub from_one : 1 ≤ p
  pub inside : p ≤ length w
  pub wrong : Move n (slice_index w (p - 1)) → ⊥
  pub right_before : Moves n (take (p - 1) w)
