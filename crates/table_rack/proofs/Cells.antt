-- What a write of one cell, and clearing the used cells, leave of a table.
use Rattle.std.proofs.Common.{◌≡◌, ℕ, ◌+◌, ◌^◌, ◌<◌, ◌≤◌, List, ◌++◌, length, get_or, drop, set, replicate, sym, arith}
use Rattle.std.proofs.lemmas.List.{length-set}
use Rattle.std.proofs.lemmas.Grind.{common_steps}
use Rattle.racks.specs.Views.{one_if_held, written, places_used}
use Rattle.racks.specs.Counts.{held_count_same, held_count_written, held_count_none, held_count_most, one_if_held_small}
use Rattle.table_rack.specs.Tables.{cell, IsTable}

module _ (cells : List ℕ) (n held key : ℕ) (is : IsTable cells n held) (inside : key < n) where
  -- the key is one of the held keys if its number is not 0
  pub cell_counted : one_if_held (get_or cells key 0) ≤ held
  cell_counted = grind (arith, common_steps, is.counted, held_count_written (cell cells n) key 0 n inside)

  module _ (v : ℕ) where
    pub count_fits : held + one_if_held v < 2 ^ 32
    count_fits = omega (arith, is.counted, is.within, held_count_most (cell cells n) n, one_if_held_small v)

    pub cell_set : (k : ℕ) → cell (set cells key v) n k ≡ written (cell cells n) key v k
    cell_set k = grind (arith, common_steps)

    pub table_set : (after : ℕ) → after + one_if_held (get_or cells key 0) ≡ held + one_if_held v → v < 2 ^ 32 → IsTable (set cells key v) n after
    table_set after e small =
        record {
          within = omega (arith, is.within, length-set cells key v);
          counted = grind (
            arith,
            common_steps,
            is.counted,
            held_count_same (cell (set cells key v) n) (written (cell cells n) key v) n (λ k h. cell_set k),
            held_count_written (cell cells n) key v n inside,
          );
          fitting = λ k h. grind (arith, common_steps, is.fitting k h);
        }

pub table_cleared : (cells part : List ℕ) (n : ℕ) → n ≡ places_used (length cells) → part ≡ replicate n 0 → IsTable (part ++ drop n cells) n 0
table_cleared cells part n used cleared =
    record {
      within = grind (arith, common_steps);
      counted = sym (held_count_none (cell (part ++ drop n cells) n) n (λ k h. grind (arith, common_steps)));
      fitting = λ k h. grind (arith, common_steps);
    }
