use Rattle.std.proofs.Common.{arith}
use Rattle.search.proofs.Halves.{smaller_through, larger_from}
use Rattle.search.proofs.find.Goals as goal

pub loop-low-preserved-then-here-wanted : goal.loop-low-preserved-then-here-wanted
loop-low-preserved-then-here-wanted g c = (
  omega arith,
  c.loop-low.invariant.1,
  λ up. smaller_through g.R.Keyed.key c.args.records.now c.args.wanted _ c.index-records-middle.result (omega arith) c.index-records-middle.is up (omega arith),
  c.loop-low.invariant.3,
)

pub loop-low-preserved : goal.loop-low-preserved
loop-low-preserved g c = (
  omega arith,
  omega arith,
  c.loop-low.invariant.2,
  λ up. larger_from g.R.Keyed.key c.args.records.now c.args.wanted _ c.index-records-middle.result (omega arith) c.index-records-middle.is up (omega arith),
)
