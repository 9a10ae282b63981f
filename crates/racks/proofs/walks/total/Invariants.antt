use Rattle.std.proofs.Common.{◌≡◌, ◌-◌, ◌*◌, ◌≤◌}
use Rattle.racks.specs.Views.{sum_below}
use Rattle.racks.proofs.walks.total.Given as goal

abbrev pub invariant-loop-key : goal.invariant-loop-key
invariant-loop-key g l =
    let view = g.R.Rack.view in
    (view l.rack ≡ view l.initial.rack)
    × (l.from ≤ (view l.initial.rack).reach)
    × (l.sum ≤ l.from * 4294967295)
    × (l.sum ≡ sum_below (view l.initial.rack).number l.from)

abbrev pub decreases-loop-key : goal.decreases-loop-key
decreases-loop-key g l = 4294967296 - l.from
