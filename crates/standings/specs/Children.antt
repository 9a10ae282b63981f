-- What the rows of two children in a rack are.
use Rattle.std.specs.Prelude.{◌≡◌, ℕ, List}
use Rattle.racks.specs.Views.{View}
use Rattle.standings.specs.declared.children.Children.{Children}
use Rattle.standings.specs.Rows.{rows_in}

-- the rows of the first child, and of the second
abbrev pub first_rows : {R : Type 0} → (R → View) → Children R → List ℕ → ℕ
first_rows view c = rows_in c.alphabet.now (view c.rack.now) c.first

abbrev pub second_rows : {R : Type 0} → (R → View) → Children R → List ℕ → ℕ
second_rows view c = rows_in c.alphabet.now (view c.rack.now) c.second

-- what f makes of the rows of both
abbrev pub by_rows : {R X : Type 0} → (R → View) → Children R → ((List ℕ → ℕ) → (List ℕ → ℕ) → X) → X
by_rows view c f = f (first_rows view c) (second_rows view c)

-- the same children, by the same alphabet, in the same rack, which means what it meant
pub record Unaltered {R : Type 0} (view : R → View) (before after : Children R) : Type 0 where
  pub alphabet : after.alphabet.now ≡ before.alphabet.now
  pub name : after.rack.ghost_name ≡ before.rack.ghost_name
  pub rack : view after.rack.now ≡ view before.rack.now
  pub first : after.first ≡ before.first
  pub second : after.second ≡ before.second
