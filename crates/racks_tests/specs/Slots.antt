-- What a rack in front of another remembers.
use Rattle.std.specs.Prelude.{◌≡◌, ℕ, Option, Some}

-- where a key and a number are remembered, it is the number below at that key
pub record Right (last : Option (ℕ × ℕ)) (f : ℕ → ℕ) : Type 0 where
  pub right : (key number : ℕ) → last ≡ Some (key, number) → number ≡ f key
