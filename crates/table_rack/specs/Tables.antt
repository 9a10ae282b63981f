-- What a slice of numbers means as a table rack: the number at a key stands at that place of the slice.
use Rattle.std.specs.Prelude.{◌≡◌, ℕ, ◌^◌, ◌<◌, if◌then◌else◌, List, [], ◌∷◌, length, drop, nat_lt, slice_index}
use Rattle.std.specs.Borrow.{GName}
use Rattle.std.proofs.Common.{arith}
use Rattle.std.proofs.lemmas.Bool.{cond_both, ltb-true, le-ltb, cond-false}
use Rattle.racks.specs.Views.{View, Lent, Bounded, held_count, new_rack, places_used}
use Rattle.racks.specs.Counts.{held_count_most}

-- the number at the key k, where the first n places are used
abbrev pub cell : List ℕ → ℕ → ℕ → ℕ
cell cells n k = if nat_lt k n then slice_index cells k else 0

-- the lent slice, of which the first n places are used
abbrev pub lent_cells : GName → List ℕ → ℕ → Lent
lent_cells name cells n = record { name = name; beyond = drop n cells }

-- what the slice means where the first n places are used
abbrev pub table_view : GName → List ℕ → ℕ → View
table_view name cells n = record { number = cell cells n; reach = n; room = n; lent = lent_cells name cells n ∷ [] }

-- what a new table over the slice means: each used place can serve a key
abbrev pub new_table : GName → List ℕ → View
new_table name cells =
    let n = places_used (length cells) in
    new_rack n n (lent_cells name cells n)

-- the first n places are used, each has a number of 32 bits, and so many keys are held
pub record IsTable (cells : List ℕ) (n held : ℕ) : Type 0 where
  pub within : n ≡ places_used (length cells)
  pub counted : held ≡ held_count (cell cells n) n
  pub fitting : (k : ℕ) → k < n → slice_index cells k < 2 ^ 32

-- the bounds hold where the used places' numbers fit
pub table_bounds : (name : GName) (cells : List ℕ) (n : ℕ) → n ≡ places_used (length cells) → ((k : ℕ) → k < n → slice_index cells k < 2 ^ 32) → Bounded (table_view name cells n)
table_bounds name cells n within fitting =
    record {
      reach_fits = omega (arith, within);
      room_fits = omega (arith, within);
      number_fits = λ k. cond_both (nat_lt k n) (slice_index cells k) 0 (λ m. m < 2 ^ 32) (λ e. fitting k (ltb-true k n e)) (λ _. omega arith);
      below_reach = λ k h. cond-false (nat_lt k n) (slice_index cells k) 0 (le-ltb k n h);
      within_room = held_count_most (cell cells n) n;
    }

pub table_bounded : (name : GName) (cells : List ℕ) (n held : ℕ) → IsTable cells n held → Bounded (table_view name cells n)
table_bounded name cells n held is = table_bounds name cells n is.within is.fitting
