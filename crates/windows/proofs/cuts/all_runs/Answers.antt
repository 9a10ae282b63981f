use Rattle.std.proofs.Common.{◌∙◌, ap, take, length, arith, ◌≤◌, subst}
use Rattle.std.specs.Slice.Iter.{windows_rest}
use Rattle.terms.specs.Words.{runs}
use Rattle.terms.proofs.Windows.{length_runs}
use Rattle.windows.proofs.Cutting.{window_more}
use Rattle.windows.proofs.cuts.all_runs.Goals as goal

pub loop-run-preserved : goal.loop-run-preserved
loop-run-preserved c =
    let inv = c.loop-run.invariant in
    let step = c.in-Some.ensures.steps in
    let rest = windows_rest c.loop-run.run-iterator in
    let few : length (runs c.args.order c.args.items.now) ≤ 33 = omega (arith, length_runs c.args.order c.args.items.now, c.requires.low, c.requires.short) in
    let long : c.args.order ≤ length rest = subst (λ k. k ≤ length rest) inv.size step.1.0 in
    let next = window_more c.args.order _ _ _ _ _ _ c.requires.low c.requires.high few inv.split long (step.1.1 ∙ ap (λ k. take k rest) inv.size) c.of.ensures c.push.ensures in
    record { size = step.0 ∙ inv.size; split = rw step.1.2 next }
