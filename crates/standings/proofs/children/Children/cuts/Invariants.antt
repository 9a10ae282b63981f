use Rattle.std.proofs.Common.{◌≡◌}
use Rattle.tree_laws.specs.Computed.{ors, cut_bits}
use Rattle.standings.specs.Children.{by_rows, Unaltered}
use Rattle.standings.proofs.children.Children.cuts.Given as goal

abbrev pub invariant-loop-j : goal.invariant-loop-j
invariant-loop-j g l =
    let view = g.R.Rack.view in
    Unaltered view l.initial.self l.self
    × (l.bits ≡ ors (by_rows view l.initial.self cut_bits l.word) l.j)
