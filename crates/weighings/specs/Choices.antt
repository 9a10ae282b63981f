-- The weight that a choice of two weighings answers is that of the weighing that it holds.
use Rattle.std.specs.Prelude.{ℕ, List}
use Rattle.weighings.specs.declared.Either.{Either}
use Rattle.weighings.specs.declared.Either.TheVariants.{Left, Right}

abbrev pub either_weight : {X Y : Type 0} → (X → List ℕ → ℕ) → (Y → List ℕ → ℕ) → Either X Y → List ℕ → ℕ
either_weight f g (Left x) = f x
either_weight f g (Right y) = g y
