-- What a lent slice holds once the rack over it is gone.
use Rattle.std.specs.Prelude.{◌≡◌, ℕ, ◌<◌, List, length, take, drop, slice_index}
use Rattle.list_rack.specs.declared.Row.{Row}
use Rattle.list_rack.specs.Rows.{number_in}
use Rattle.racks.specs.Views.{places_used}

-- the places used hold the numbers f, and those beyond what they held before
pub record CellsLeft (before after : List ℕ) (f : ℕ → ℕ) : Type 0 where
  pub used : (k : ℕ) → k < places_used (length before) → slice_index after k ≡ f k
  pub beyond : drop (places_used (length before)) after ≡ drop (places_used (length before)) before

-- the first rows hold the numbers f, and those beyond the places used are as they were
pub record RowsLeft (before after : List Row) (f : ℕ → ℕ) : Type 0 where
  pub held : ℕ
  pub used : (k : ℕ) → number_in (take held after) k ≡ f k
  pub beyond : drop (places_used (length before)) after ≡ drop (places_used (length before)) before
