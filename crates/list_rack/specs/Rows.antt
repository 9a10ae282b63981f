-- What a slice of rows means as a list rack: the first rows are held, ascending by key.
use Rattle.std.specs.Prelude.{◌≡◌, ℕ, ◌^◌, ◌<◌, ◌≤◌, List, [], ◌∷◌, length, slice_index, slice_index_or, take, drop, Result, MatchResult, ◌≢◌, refl}
use Rattle.std.specs.List.{All}
use Rattle.std.specs.Borrow.{GName}
use Rattle.std.proofs.Common.{sym, ap, ◌∙◌, arith}
use Rattle.std.proofs.lemmas.List.{length-take}
use Rattle.std.proofs.lemmas.List.Elements.{All-head, All-tail}
use Rattle.std.proofs.lemmas.Grind.{common_steps}
use Rattle.search.specs.Places.{Ascending, StandsAt, BelongsAt}
use Rattle.list_rack.specs.declared.Row.{Row}
use Rattle.racks.specs.Views.{View, Lent, Bounded, held_count, written, new_rack, places_used, Smallest, NoneFrom}
use Rattle.racks.specs.Counts.{held_count_none, held_count_one_more, written_other}

-- the key by which rows ascend
abbrev pub row_key : Row → ℕ
row_key row = row.key

-- the number at the key k: that of the row with this key, 0 where there is none
abbrev pub number_in : List Row → ℕ → ℕ
number_in [] k = 0
number_in (row ∷ rows) k = written (number_in rows) row.key row.number k

-- keys and numbers of the rows, in their order
abbrev pub plain_rows : List Row → List ℕ
plain_rows [] = []
plain_rows (row ∷ rows) = row.key ∷ row.number ∷ plain_rows rows

-- other rows have other numbers in that list
pub rows_told : (xs ys : List Row) → plain_rows xs ≡ plain_rows ys → xs ≡ ys
rows_told [] [] e = refl
rows_told [] (y ∷ ys) e = absurd (omega (arith, ap length e))
rows_told (x ∷ xs) [] e = absurd (omega (arith, ap length e))
rows_told (x ∷ xs) (y ∷ ys) e =
    let key : x.key ≡ y.key = ap (λ l. slice_index l 0) e in
    let number : x.number ≡ y.number = ap (λ l. slice_index l 1) e in
    let rest : xs ≡ ys = rows_told xs ys (ap (drop 2) e) in
    let renamed = λ (k : ℕ). let row : Row = record { key = k; number = x.number } in row in
    let renumbered = λ (m : ℕ). let row : Row = record { key = y.key; number = m } in row in
    let same : x ≡ y = ap renamed key ∙ ap renumbered number in
    cc

-- what a clause reads past the end of a list of rows
abbrev pub no_row : Row
no_row = record { key = 0; number = 0 }

-- a list rack's reach, above all its keys
abbrev pub list_reach : ℕ
list_reach = 4294967295

-- the row has a key below the reach, and a number of a held key
pub record CanHold (row : Row) : Type 0 where
  pub key_fits : row.key < list_reach
  pub number_fits : row.number < 2 ^ 32
  pub held : 0 < row.number

-- the first n rows are held: they ascend, and their keys and numbers are those of a rack
pub record Holds (rows : List Row) (n : ℕ) : Type 0 where
  pub within : n ≤ places_used (length rows)
  pub ascending : Ascending row_key (take n rows)
  pub each : All CanHold (take n rows)

-- what the search's answer for a key says of the numbers of the held rows
pub record Placed (rows : List Row) (n key : ℕ) (r : Result ℕ ℕ) : Type 0 where
  pub place : MatchResult r (λ i. StandsAt row_key (take n rows) key i) (λ i. BelongsAt row_key (take n rows) key i)
  pub inside : MatchResult r (λ i. i < n) (λ i. i ≤ n)
  pub number : MatchResult r (λ i. ((slice_index_or rows i no_row).number ≡ number_in (take n rows) key) × (0 < number_in (take n rows) key)) (λ _. number_in (take n rows) key ≡ 0)
  pub next : MatchResult r (λ _. Smallest (number_in (take n rows)) key key) (λ i. (i < n → Smallest (number_in (take n rows)) key (slice_index_or rows i no_row).key) × (n ≤ i → NoneFrom (number_in (take n rows)) key))

-- the lent slice, and its rows past the places used
abbrev pub lent_rows : GName → List Row → Lent
lent_rows name rows = record { name = name; beyond = plain_rows (drop (places_used (length rows)) rows) }

-- what the slice means where the first n rows are held
abbrev pub list_view : GName → List Row → ℕ → View
list_view name rows n =
    record {
      number = number_in (take n rows);
      reach = list_reach;
      room = places_used (length rows);
      lent = lent_rows name rows ∷ [];
    }

-- what a new list rack over the slice means
abbrev pub new_list : GName → List Row → View
new_list name rows = new_rack list_reach (places_used (length rows)) (lent_rows name rows)

-- where no row has the key k, it is not held
pub number_absent : (rows : List Row) (k : ℕ) → All (λ row. row.key ≢ k) rows → number_in rows k ≡ 0
number_absent [] k none = refl
number_absent (row ∷ rows) k none =
    written_other (number_in rows) row.key row.number k (λ e. All-head (λ r. r.key ≢ k) row rows none (sym e))
    ∙ number_absent rows k (All-tail (λ r. r.key ≢ k) row rows none)

pub number_in_fits : (rows : List Row) (k : ℕ) → All (λ row. row.number < 2 ^ 32) rows → number_in rows k < 2 ^ 32
number_in_fits [] k fits = omega arith
number_in_fits (row ∷ rows) k fits =
    let first : row.number < 2 ^ 32 = All-head (λ r. r.number < 2 ^ 32) row rows fits in
    grind (arith, common_steps, first, number_in_fits rows k (All-tail (λ r. r.number < 2 ^ 32) row rows fits))

pub count_in_most : (rows : List Row) (n : ℕ) → held_count (number_in rows) n ≤ length rows
count_in_most [] n = omega (arith, held_count_none (number_in []) n (λ k h. refl))
count_in_most (row ∷ rows) n = omega (arith, held_count_one_more (number_in rows) row.key row.number n, count_in_most rows n)

-- the bounds hold where the held rows' keys and numbers fit
pub list_bounds : (name : GName) (rows : List Row) (n : ℕ) → n ≤ places_used (length rows) → All (λ row. row.key < list_reach) (take n rows) → All (λ row. row.number < 2 ^ 32) (take n rows) → Bounded (list_view name rows n)
list_bounds name rows n within keys numbers =
    record {
      reach_fits = omega arith;
      room_fits = omega arith;
      number_fits = λ k. number_in_fits (take n rows) k numbers;
      below_reach = λ k h. number_absent (take n rows) k (λ i d l e. omega (arith, keys i d l));
      within_room = omega (arith, within, count_in_most (take n rows) list_reach, length-take n rows);
    }

pub list_bounded : (name : GName) (rows : List Row) (n : ℕ) → Holds rows n → Bounded (list_view name rows n)
list_bounded name rows n holds =
    list_bounds name rows n holds.within (λ i d l. (holds.each i d l).key_fits) (λ i d l. (holds.each i d l).number_fits)
