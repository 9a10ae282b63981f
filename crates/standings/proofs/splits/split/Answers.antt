use Rattle.std.proofs.Common.{ap, ◌∙◌}
use Rattle.fixed_vec.specs.Lists.{list_of}
use Rattle.standings.proofs.Masks.{next_picked, next_left}
use Rattle.standings.proofs.splits.split.Goals as goal
use Rattle.standings.proofs.splits.split.Goals.{then-mask-i-eq1, else-mask-i-eq1}

pub loop-i-preserved : goal.loop-i-preserved
loop-i-preserved c =
    let inv = c.loop-i.invariant in
    elim c.if-mask-i-eq1.branch [
      | then-mask-i-eq1 w ↦
          let next = next_picked c.args.mask c.args.word.now c.loop-i.i c.loop-i-test.true 5 c.requires inv.0 inv.1 w.if-mask-i-eq1.true in
          (ap list_of w.inside-is ∙ w.push.ensures ∙ next.0, ap list_of w.outside-is ∙ next.1)
      | else-mask-i-eq1 w ↦
          let next = next_left c.args.mask c.args.word.now c.loop-i.i c.loop-i-test.true 5 c.requires inv.0 inv.1 w.if-mask-i-eq1.false in
          (ap list_of w.inside-is ∙ next.0, ap list_of w.outside-is ∙ w.push-else-mask-i-eq1.ensures ∙ next.1)
    ]
