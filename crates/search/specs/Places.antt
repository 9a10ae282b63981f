-- Lists that ascend by the key of their records, and where a key stands or belongs in one.
use Rattle.std.specs.Prelude.{◌≡◌, ℕ, ◌+◌, ◌<◌, ◌≤◌, List, length, slice_index_or}

-- each record's key is smaller than the next one's
abbrev pub Ascending : {R : Type 0} → (R → ℕ) → List R → Type 0
Ascending {R} key rows = (i : ℕ) (d : R) → i + 1 < length rows → key (slice_index_or rows i d) < key (slice_index_or rows (i + 1) d)

-- the keys before the place i are smaller than k
abbrev pub SmallerBefore : {R : Type 0} → (R → ℕ) → List R → ℕ → ℕ → Type 0
SmallerBefore {R} key rows k i = (j : ℕ) (d : R) → j < i → key (slice_index_or rows j d) < k

-- the keys from the place i on are larger than k
abbrev pub LargerFrom : {R : Type 0} → (R → ℕ) → List R → ℕ → ℕ → Type 0
LargerFrom {R} key rows k i = (j : ℕ) (d : R) → i ≤ j → j < length rows → k < key (slice_index_or rows j d)

-- the record at the place i has the key k
pub record StandsAt {R : Type 0} (key : R → ℕ) (rows : List R) (k i : ℕ) : Type 0 where
  pub inside : i < length rows
  pub here : (d : R) → key (slice_index_or rows i d) ≡ k

-- no record has the key k, and a record with it belongs at the place i
pub record BelongsAt {R : Type 0} (key : R → ℕ) (rows : List R) (k i : ℕ) : Type 0 where
  pub inside : i ≤ length rows
  pub smaller : SmallerBefore key rows k i
  pub larger : LargerFrom key rows k i
