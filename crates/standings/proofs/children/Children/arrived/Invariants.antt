use Rattle.std.proofs.Common.{◌≡◌, length}
use Rattle.tree_laws.specs.Boundaries.{next_a, next_b}
use Rattle.tree_laws.specs.Computed.{ors, piece_bit}
use Rattle.standings.specs.Children.{first_rows, second_rows, Unaltered}
use Rattle.standings.specs.Loops.{columns}
use Rattle.standings.proofs.children.Children.arrived.Given as goal

abbrev pub invariant-loop-i : goal.invariant-loop-i
invariant-loop-i g l =
    let view = g.R.Rack.view in
    let sa = first_rows view l.initial.self in
    let sb = second_rows view l.initial.self in
    Unaltered view l.initial.self l.self
    × (l.reached.a ≡ ors (piece_bit sa sb l.word (columns l.states).1 (length l.states) next_b) l.i)
    × (l.reached.b ≡ ors (piece_bit sa sb l.word (columns l.states).0 (length l.states) next_a) l.i)
