use Rattle.std.proofs.Common.{◌≡◌, refl, subst, sym, ap, ◌∙◌, arith}
use Rattle.racks.proofs.Counts.{sum_below_zero, sum_below_next, sum_below_none}
use Rattle.racks.specs.Views.{View, Smallest, NoneFrom}
use Rattle.racks.proofs.Reach.{held_below}
use Rattle.racks.proofs.walks.total.Goals as goal

pub loop-key-init : goal.loop-key-init
loop-key-init g c = (refl, omega arith, omega arith, sym (sum_below_zero (g.R.Rack.view c.args.rack.now).number))

pub loop-key-preserved : goal.loop-key-preserved
loop-key-preserved g c =
    let start = g.R.Rack.view c.args.rack.now in
    let inv = c.loop-key.invariant in
    let bounds = g.met.R.Rack.bounded c.args.rack.now in
    let next : Smallest start.number c.loop-key.from c.in-Some.key = subst (λ (v : View). Smallest v.number c.loop-key.from c.in-Some.key) inv.0 c.in-Some.ensures.answer in
    let same : g.R.Rack.view c.next.new.self ≡ start = c.next.ensures.unaltered ∙ inv.0 in
    let read : c.read.result ≡ start.number c.in-Some.key = c.read.ensures.answer ∙ ap (λ (v : View). v.number c.in-Some.key) same in (
      c.read.ensures.unaltered ∙ same,
      omega (arith, held_below start c.in-Some.key bounds next.held),
      omega arith,
      omega (arith, inv.3, read, sum_below_next start.number c.loop-key.from c.in-Some.key next),
    )

pub returns-clause-answer : goal.returns-clause-answer
returns-clause-answer g c =
    let start = g.R.Rack.view c.args.rack.now in
    let inv = c.loop-key.invariant in
    let none : NoneFrom start.number c.loop-key.from = subst (λ (v : View). NoneFrom v.number c.loop-key.from) inv.0 c.in_default.ensures.answer in
    inv.3 ∙ sym (sum_below_none start.number c.loop-key.from start.reach inv.1 (λ k low high. none k low))
