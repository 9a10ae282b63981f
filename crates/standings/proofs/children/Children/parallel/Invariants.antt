use Rattle.std.proofs.Common.{◌≡◌}
use Rattle.tree_laws.specs.Computed.{ors, mask_bits}
use Rattle.standings.specs.Children.{by_rows, Unaltered}
use Rattle.standings.proofs.children.Children.parallel.Given as goal

abbrev pub invariant-loop-mask : goal.invariant-loop-mask
invariant-loop-mask g l =
    let view = g.R.Rack.view in
    Unaltered view l.initial.self l.self
    × (l.bits ≡ ors (by_rows view l.initial.self mask_bits l.word) l.mask)
