use Rattle.std.proofs.Common.{◌-◌, ◌≤◌, length}
use Rattle.search.specs.Places.{Ascending, SmallerBefore, LargerFrom}
use Rattle.search.proofs.find.Given as goal

abbrev pub invariant-loop-low : goal.invariant-loop-low
invariant-loop-low g l =
    let key = g.R.Keyed.key in
    (l.low ≤ l.high) × (l.high ≤ length l.records)
    × (Ascending key l.records → SmallerBefore key l.records l.wanted l.low)
    × (Ascending key l.records → LargerFrom key l.records l.wanted l.high)

abbrev pub decreases-loop-low : goal.decreases-loop-low
decreases-loop-low g l = l.high - l.low
