-- The fields of a node, by their columns in a level file.
use Rattle.std.specs.Prelude.{ℕ}
use Rattle.trees.specs.declared.check.Field.{Field}
use Rattle.trees.specs.declared.check.Field.TheVariants.{Kind, First, Second}

abbrev pub column : Field → ℕ
column Kind = 2
column First = 3
column Second = 4
