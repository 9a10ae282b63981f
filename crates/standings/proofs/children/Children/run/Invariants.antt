use Rattle.fixed_vec.specs.Lists.{list_of}
use Rattle.standings.specs.Children.{first_rows, second_rows, Unaltered}
use Rattle.standings.specs.Loops.{in_middle}
use Rattle.standings.proofs.LoopStates.{Held}
use Rattle.standings.proofs.children.Children.run.Given as goal

abbrev pub invariant-loop : goal.invariant-loop
invariant-loop g l =
    let view = g.R.Rack.view in
    Unaltered view l.initial.self l.self
    × Held (in_middle l.entry) (first_rows view l.initial.self) (second_rows view l.initial.self) l.word l.counter (list_of l.states)
