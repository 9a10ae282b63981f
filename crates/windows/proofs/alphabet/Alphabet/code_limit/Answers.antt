use Rattle.std.proofs.Common.{arith}
use Rattle.terms.proofs.Codes.{power_small}
use Rattle.windows.proofs.alphabet.Alphabet.code_limit.Goals as goal

pub pow-requires : goal.pow-requires
pow-requires c = let a = c.args.self.now in omega (arith, power_small c.base.result a.order (omega (arith, c.base.ensures, a.few)) a.high)

pub returns-clause-bound : goal.returns-clause-bound
returns-clause-bound c = let a = c.args.self.now in omega (arith, c.pow.ensures, power_small c.base.result a.order (omega (arith, c.base.ensures, a.few)) a.high)
