-- The marks of a window as numbers: 0 none, 1 the start mark, 2 the end mark, 3 both.
use Rattle.std.specs.Prelude.{ℕ}
use Rattle.trees.specs.declared.window_rows.Marks.{Marks}
use Rattle.trees.specs.declared.window_rows.Marks.TheVariants.{Neither, Start, End, Both}

abbrev pub marks_number : Marks → ℕ
marks_number Neither = 0
marks_number Start = 1
marks_number End = 2
marks_number Both = 3
