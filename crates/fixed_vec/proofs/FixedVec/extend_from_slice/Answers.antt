use Rattle.std.proofs.Common.{arith}
use Rattle.fixed_vec.proofs.Room.{filled}
use Rattle.fixed_vec.proofs.FixedVec.extend_from_slice.Goals as goal

pub returns : goal.returns
returns g c = simp c.copy_from_slice.ensures.after (filled _ _ _ _ _ _ (omega (arith, c.args.self.now.whole, c.args.self.now.short)) c.args.self.now.short (omega (arith, c.min-n.ensures)))
