-- What one record of an ascending list says of all records before it or after it.
use Rattle.std.proofs.Common.{◌≡◌, ℕ, zero, suc, ◌+◌, ◌<◌, List, length, slice_index_or, sym, ap, add-one, arith}
use Rattle.std.proofs.lemmas.List.{get_or_read}
use Rattle.search.specs.Places.{Ascending, SmallerBefore, LargerFrom}

-- each key is smaller than all after it
pub ascending_far : {R : Type 0} (key : R → ℕ) (rows : List R) → Ascending key rows → (i j : ℕ) (d : R) → i < j → j < length rows → key (slice_index_or rows i d) < key (slice_index_or rows j d)
ascending_far key rows up i zero d less inside = omega arith
ascending_far key rows up i (suc j) d less inside =
    let far : i < j → key (slice_index_or rows i d) < key (slice_index_or rows j d) = λ before. ascending_far key rows up i j d before (omega arith) in
    let next = up j d (omega arith) in
    grind (arith, add-one)

module _ {R : Type 0} (key : R → ℕ) (rows : List R) (k m : ℕ) (x : R) (inside : m < length rows) (read : x ≡ slice_index_or rows m x) (up : Ascending key rows) where
  here : (d : R) → key (slice_index_or rows m d) ≡ key x
  here d = ap key (sym (get_or_read rows m x inside read d))

  pub smaller_through : key x < k → SmallerBefore key rows k (m + 1)
  smaller_through less j d h = let before = λ (b : j < m). ascending_far key rows up j m d b inside in grind (arith, here d)

  pub larger_from : k < key x → LargerFrom key rows k m
  larger_from more j d h l = let after = λ (b : m < j). ascending_far key rows up m j d b l in grind (arith, here d)
