-- Lists without repeats.
use Rattle.std.specs.Prelude.{List, [], ◌∷◌, Contains}

abbrev pub Distinct : {X : Type 0} → List X → Type 0
Distinct [] = Unit {0}
Distinct (x ∷ xs) = (Contains xs x → ⊥) × Distinct xs
