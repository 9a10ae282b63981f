-- What the equations of views say of a slice once the rack over it is gone.
use Rattle.std.proofs.Common.{◌≡◌, ℕ, List, Result, Ok, Err, MatchResult, take, slice_index_or, ap, ◌∙◌, arith}
use Rattle.std.proofs.lemmas.Grind.{common_steps}
use Rattle.std.specs.Borrow.{GName}
use Rattle.racks.specs.Views.{View, written, after_write}
use Rattle.table_rack.specs.Tables.{lent_cells, table_view, new_table}
use Rattle.list_rack.specs.declared.Row.{Row}
use Rattle.list_rack.specs.Rows.{number_in, rows_told, lent_rows, list_view, new_list}
use Rattle.racks_tests.specs.Lends.{CellsLeft, RowsLeft}

module _ (name entry : GName) (now old last : List ℕ) (used : ℕ) (tie : name ≡ entry → last ≡ now) where
  left : (f : ℕ → ℕ) → table_view name now used ≡ record (new_table entry old) { number = f } → CellsLeft old last f
  left f e =
      let lent = λ (v : View). slice_index_or v.lent 0 (lent_cells name now used) in
      let reach = ap (λ (v : View). v.reach) e in
      let same : last ≡ now = tie (ap (λ (v : View). (lent v).name) e) in
      let beyond = ap (λ (v : View). (lent v).beyond) e in
      record {
        used = λ k h. let number = ap (λ (v : View). v.number k) e in grind (arith, common_steps);
        beyond = grind (arith, common_steps);
      }

  pub table_left :
      {A B : Type 0} (start : View) (key number : ℕ) (r : Result A B)
      → start ≡ new_table entry old
      → MatchResult r (λ _. table_view name now used ≡ after_write start key number) (λ _. table_view name now used ≡ start)
      → MatchResult r (λ _. CellsLeft old last (written (λ _. 0) key number)) (λ _. CellsLeft old last (λ _. 0))
  table_left start key number (Ok x) fresh after = left (written (λ _. 0) key number) (after ∙ ap (λ (v : View). after_write v key number) fresh)
  table_left start key number (Err x) fresh after = left (λ _. 0) (after ∙ fresh)

module _ (name entry : GName) (now old last : List Row) (held : ℕ) (tie : name ≡ entry → last ≡ now) where
  rows_left : (f : ℕ → ℕ) → list_view name now held ≡ record (new_list entry old) { number = f } → RowsLeft old last f
  rows_left f e =
      let lent = λ (v : View). slice_index_or v.lent 0 (lent_rows name now) in
      let room = ap (λ (v : View). v.room) e in
      let same : last ≡ now = tie (ap (λ (v : View). (lent v).name) e) in
      let beyond = rows_told _ _ (ap (λ (v : View). (lent v).beyond) e) in
      record {
        held = held;
        used = λ k. ap (λ l. number_in (take held l) k) same ∙ ap (λ (v : View). v.number k) e;
        beyond = grind (arith, common_steps);
      }

  pub list_left :
      {A B : Type 0} (start : View) (key number : ℕ) (r : Result A B)
      → start ≡ new_list entry old
      → MatchResult r (λ _. list_view name now held ≡ after_write start key number) (λ _. list_view name now held ≡ start)
      → MatchResult r (λ _. RowsLeft old last (written (λ _. 0) key number)) (λ _. RowsLeft old last (λ _. 0))
  list_left start key number (Ok x) fresh after = rows_left (written (λ _. 0) key number) (after ∙ ap (λ (v : View). after_write v key number) fresh)
  list_left start key number (Err x) fresh after = rows_left (λ _. 0) (after ∙ fresh)
