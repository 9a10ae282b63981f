-- A list ascends still after a record is put in where it belongs, taken out, or replaced by one with its key.
use Rattle.std.proofs.Common.{◌≡◌, ℕ, ◌+◌, ◌-◌, ◌<◌, ◌≤◌, List, length, get_or, set, ap, ◌∙◌, arith}
use Rattle.std.specs.List.{insert, remove}
use Rattle.std.proofs.lemmas.List.{get_or-set_same, get_or-set_other, length-set}
use Rattle.std.proofs.lemmas.List.Edits.{length-insert, get_or-insert_below, get_or-insert_at, get_or-insert_above, length-remove, get_or-remove_below, get_or-remove_above}
use Rattle.search.specs.Places.{Ascending, StandsAt, BelongsAt}
use Rattle.search.proofs.Halves.{ascending_far}

-- the element at a place past the one where x was put in
pub getD_inserted_past : {R : Type 0} (rows : List R) (i : ℕ) (x d : R) (j : ℕ) → i < j → i ≤ length rows → get_or (insert rows i x) j d ≡ get_or rows (j - 1) d
getD_inserted_past rows i x d j past inside =
    let back : j ≡ j - 1 + 1 = omega arith in
    ap (λ k. get_or (insert rows i x) k d) back ∙ get_or-insert_above rows i x d (j - 1) (omega arith) inside

module _ {R : Type 0} (key : R → ℕ) (rows : List R) (up : Ascending key rows) (k i : ℕ) where
  pub ascending_inserted : (x : R) → key x ≡ k → BelongsAt key rows k i → Ascending key (insert rows i x)
  ascending_inserted x named place j d h =
      let inside = place.inside in
      let long = length-insert rows i x inside in
      let at : get_or (insert rows i x) i d ≡ x = get_or-insert_at rows i x d inside in
      let below = λ (m : ℕ) (l : m < i). get_or-insert_below rows i x d m l inside in
      let past = λ (m : ℕ) (l : i < m). getD_inserted_past rows i x d m l inside in
      let next = λ (m : ℕ) (l : m + 1 < length rows). up m d l in
      let before = place.smaller (i - 1) d in
      let after = place.larger i d in
      grind (arith, below j, below (j + 1), past j, past (j + 1), next j, next (j - 1))

  pub ascending_removed : i < length rows → Ascending key (remove rows i)
  ascending_removed inside j d h =
      let long = length-remove rows i inside in
      let below = λ (m : ℕ) (l : m < i). get_or-remove_below rows i d m l inside in
      let past = λ (m : ℕ) (l : i ≤ m). get_or-remove_above rows i d m l inside in
      let far = λ (m n : ℕ) (l : m < n) (b : n < length rows). ascending_far key rows up m n d l b in
      grind (arith, below j, below (j + 1), past j, past (j + 1), far j (j + 1), far j (j + 1 + 1), far (j + 1) (j + 1 + 1))

  pub ascending_set : (x : R) → key x ≡ k → StandsAt key rows k i → Ascending key (set rows i x)
  ascending_set x named place j d h =
      let long = length-set rows i x in
      let here = place.here d in
      let at = get_or-set_same rows i x d place.inside in
      let other = λ (m : ℕ). get_or-set_other rows i m x d in
      let next = up j d in
      grind (arith, other j, other (j + 1))
