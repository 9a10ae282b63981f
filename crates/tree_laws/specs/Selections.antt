-- The items of a word that a mask selects, and those that it leaves out: the lowest bit is that of the first item.
use Rattle.std.specs.Prelude.{ℕ, ◌/◌, ◌%◌, if◌then◌else◌, List, [], ◌∷◌, ◌==◌}

abbrev pub picked : ℕ → List ℕ → List ℕ
picked m [] = []
picked m (x ∷ xs) = if m % 2 == 1 then x ∷ picked (m / 2) xs else picked (m / 2) xs

abbrev pub left_out : ℕ → List ℕ → List ℕ
left_out m [] = []
left_out m (x ∷ xs) = if m % 2 == 1 then left_out (m / 2) xs else (x ∷ left_out (m / 2) xs)
