use Rattle.tree_laws.proofs.RouteLaws.{loop_laws_lem}
use Rattle.tree_laws.proofs.loop_laws.Goals as goal

pub returns : goal.returns
returns c = loop_laws_lem
