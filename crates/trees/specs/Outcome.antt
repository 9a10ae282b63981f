-- What putting a tree's rows into a rack answers, and what the rack then holds.
use Rattle.std.specs.Prelude.{◌≡◌, ℕ, ◌<◌, ◌≤◌, ◌⊎◌, List, [], Result, MatchResult}
use Rattle.terms.specs.Refusals.{Says}
use Rattle.terms.specs.declared.Refusal.{Refusal}
use Rattle.tree_laws.specs.declared.Node.{Node}
use Rattle.racks.specs.Views.{View, after_empty}
use Rattle.row_laws.specs.Rows.{MoreRows, PlayableCount, RowsAt, key_limit}
use Rattle.trees.specs.Planting.{SameMemory}

-- the rack holds exactly the tree's rows, whatever it held before, and so many windows are playable
pub record Planted (n k : ℕ) (t : List Node) (before after : View) (count : ℕ) : Type 0 where
  pub reaches : key_limit n k t ≤ before.reach
  pub fits : MoreRows n k t before.room → ⊥
  pub rows : RowsAt n k t after.number
  pub playable : PlayableCount t k count
  pub same_memory : SameMemory before after

-- 13: the rack's reach is below the keys of the tree, and the rack is as it was
pub record ReachRefused (n k : ℕ) (t : List Node) (before after : View) (e : Refusal) : Type 0 where
  pub says : Says e 13 []
  pub below : before.reach < key_limit n k t
  pub unaltered : after ≡ before

-- 14: the tree has more rows than the rack's room, and the rack is empty
pub record RoomRefused (n k : ℕ) (t : List Node) (before after : View) (e : Refusal) : Type 0 where
  pub says : Says e 14 []
  pub reaches : key_limit n k t ≤ before.reach
  pub more : MoreRows n k t before.room
  pub emptied : after ≡ after_empty before

abbrev pub Outcome : ℕ → ℕ → List Node → View → View → Result ℕ Refusal → Type 0
Outcome n k t before after r = MatchResult r (Planted n k t before after) (λ e. ReachRefused n k t before after e ⊎ RoomRefused n k t before after e)
