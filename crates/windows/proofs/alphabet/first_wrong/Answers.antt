use Rattle.std.proofs.Common.{rules}
use Rattle.std.proofs.lemmas.List.Elements.{All-more}
use Rattle.terms.specs.Words.{Move}
use Rattle.windows.proofs.alphabet.first_wrong.Goals as goal

pub loop-i-preserved : goal.loop-i-preserved
loop-i-preserved c = All-more (Move c.args.n) c.args.items.now c.loop-i.i 0 c.loop-i-test.true c.loop-i.invariant (search rules)
