use Rattle.std.proofs.Common.{◌-◌}
use Rattle.routes.proofs.print_playable.Given as goal

abbrev pub decreases-loop-code : goal.decreases-loop-code
decreases-loop-code g l = l.limit - l.from
