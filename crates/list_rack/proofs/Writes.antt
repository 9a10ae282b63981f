-- What a write leaves of the slice: the held rows after it, and the rows past them.
use Rattle.std.proofs.Common.{◌≡◌, ℕ, suc, ◌+◌, ◌-◌, ◌<◌, ◌≤◌, List, [], ◌∷◌, ◌++◌, length, take, drop, set, refl, ap, ◌∙◌, arith, rules}
use Rattle.std.specs.Borrow.{GName}
use Rattle.std.specs.List.{All, insert, remove}
use Rattle.std.proofs.Math.Seq.{take-set-lt}
use Rattle.std.proofs.lemmas.List.{length-take-le, take_at, take-take, length-set, drop-set-lt, length_push, append_assoc, length-append, length-drop}
use Rattle.std.proofs.lemmas.List.Elements.{All-append, All-take, All-drop}
use Rattle.std.proofs.lemmas.List.Edits.{length-insert, length-remove}
use Rattle.std.proofs.lemmas.Slice.{drop-append-drop}
use Rattle.std.proofs.lemmas.Grind.{elements}
use Rattle.search.specs.Places.{Ascending, StandsAt, BelongsAt}
use Rattle.search.proofs.Edits.{ascending_inserted, ascending_removed, ascending_set}
use Rattle.list_rack.specs.declared.Row.{Row}
use Rattle.racks.specs.Views.{written, after_write, places_used}
use Rattle.list_rack.specs.Rows.{Holds, CanHold, row_key, number_in, list_view}
use Rattle.list_rack.proofs.Rows.{number_inserted, number_removed, number_set}

-- the slice after a write, where n rows were held before it and m are held after it
pub record Edited (rows : List Row) (n : ℕ) (after : List Row) (m key v : ℕ) : Type 0 where
  pub holds : Holds after m
  pub view : (name : GName) → list_view name after m ≡ after_write (list_view name rows n) key v

module _ (rows after held : List Row) (n m key v : ℕ) where
  edited :
      take m after ≡ held
      → length after ≡ length rows
      → drop (places_used (length rows)) after ≡ drop (places_used (length rows)) rows
      → m ≤ places_used (length rows)
      → Ascending row_key held
      → All CanHold held
      → ((k : ℕ) → number_in held k ≡ written (number_in (take n rows)) key v k)
      → Edited rows n after m key v
  edited is even beyond within up each numbers =
      record {
        holds = record {
          within = omega (arith, even);
          ascending = rw is up;
          each = rw is each;
        };
        view = λ name. search rules;
      }

module _ (rows : List Row) (n place : ℕ) (h : Holds rows n) where
  size : length (take n rows) ≡ n
  size = length-take-le n rows (omega (arith, h.within))

  pub edited_insert :
      (part : List Row) (row : Row)
      → part ≡ insert (take (length (take (n + 1) rows) - 1) (take (n + 1) rows)) place row
      → n < places_used (length rows)
      → BelongsAt row_key (take n rows) row.key place
      → CanHold row
      → Edited rows n (part ++ drop (n + 1) rows) (n + 1) row.key row.number
  edited_insert part row inserted roomy belongs fits =
      let count : length (take (n + 1) rows) - 1 ≡ n = omega (arith, length-take-le (n + 1) rows (omega arith)) in
      let is : part ≡ insert (take n rows) place row = rw (count, take-take n (n + 1) rows (omega arith)) at inserted in
      let long : length part ≡ n + 1 = omega (arith, ap length is, length-insert (take n rows) place row belongs.inside, size) in
      edited rows (part ++ drop (n + 1) rows) (insert (take n rows) place row) n (n + 1) row.key row.number
      (take_at part (drop (n + 1) rows) (n + 1) long ∙ is)
      (omega (arith, length-append part (drop (n + 1) rows), length-drop (n + 1) rows, long))
      (drop-append-drop (n + 1) rows part (places_used (length rows)) (omega arith) long)
      (omega arith)
      (ascending_inserted row_key (take n rows) h.ascending row.key place row refl belongs)
      (grind (arith, elements, h.each))
      (number_inserted (take n rows) place row belongs)

  pub edited_set :
      (row : Row)
      → StandsAt row_key (take n rows) row.key place
      → CanHold row
      → Edited rows n (set rows place row) n row.key row.number
  edited_set row stands fits =
      let inside : place < n = omega (arith, size, stands.inside) in
      edited rows (set rows place row) (set (take n rows) place row) n n row.key row.number
      (take-set-lt n rows place row inside)
      (length-set rows place row)
      (drop-set-lt (places_used (length rows)) rows place row (omega (arith, h.within)))
      h.within
      (ascending_set row_key (take n rows) h.ascending row.key place row refl stands)
      (grind (arith, elements, h.each))
      (number_set (take n rows) h.ascending row.key place stands row refl)

  pub edited_remove :
      (part : List Row) (row : Row) (key : ℕ)
      → part ≡ remove (take n rows) place ++ row ∷ []
      → StandsAt row_key (take n rows) key place
      → Edited rows n (part ++ drop n rows) (n - 1) key 0
  edited_remove part row key is stands =
      let fewer : length (remove (take n rows) place) + 1 ≡ n = omega (arith, length-remove (take n rows) place stands.inside, size) in
      let long : length part ≡ n = omega (arith, fewer, ap length is, length_push (remove (take n rows) place) row) in
      edited rows (part ++ drop n rows) (remove (take n rows) place) n (n - 1) key 0
      (ap (λ l. take (n - 1) (l ++ drop n rows)) is
      ∙ ap (take (n - 1)) (append_assoc (remove (take n rows) place) (row ∷ []) (drop n rows))
      ∙ take_at (remove (take n rows) place) (row ∷ drop n rows) (n - 1) (omega (arith, fewer)))
      (omega (arith, length-append part (drop n rows), length-drop n rows, long, h.within))
      (drop-append-drop n rows part (places_used (length rows)) h.within long)
      (omega (arith, h.within))
      (ascending_removed row_key (take n rows) h.ascending 0 place stands.inside)
      (All-append CanHold _ _ (All-take CanHold place (take n rows) h.each) (All-drop CanHold (suc place) (take n rows) h.each))
      (number_removed (take n rows) h.ascending key place stands)
