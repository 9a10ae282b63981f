use Rattle.std.proofs.Common.{◌≡◌}
use Rattle.tree_laws.specs.Computed.{ors, rest_bits}
use Rattle.standings.specs.Children.{by_rows, Unaltered}
use Rattle.standings.specs.Loops.{columns}
use Rattle.standings.proofs.children.Children.rests.Given as goal

abbrev pub invariant-loop-j : goal.invariant-loop-j
invariant-loop-j g l =
    let view = g.R.Rack.view in
    Unaltered view l.initial.self l.self
    × (l.bits ≡ ors (by_rows view l.initial.self rest_bits l.word (columns l.states)) l.j)
