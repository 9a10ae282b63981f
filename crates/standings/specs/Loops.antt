-- What the walk over a loop's positions holds, as the definitions have it.
use Rattle.std.specs.Prelude.{ℕ, Bool, true, false, List, map}
use Rattle.standings.specs.declared.loops.Entry.{Entry}
use Rattle.standings.specs.declared.loops.Entry.TheVariants.{Start, Middle}
use Rattle.standings.specs.declared.loops.States.{States}

-- whether a word begins in the middle of the loop
abbrev pub in_middle : Entry → Bool
in_middle Start = false
in_middle Middle = true

-- the states with the first child next, and those with the second next
abbrev pub columns : List States → List ℕ × List ℕ
columns l = (map (λ s. s.a) l, map (λ s. s.b) l)
