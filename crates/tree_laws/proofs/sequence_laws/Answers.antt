use Rattle.tree_laws.proofs.RouteLaws.{sequence_laws_lem}
use Rattle.tree_laws.proofs.sequence_laws.Goals as goal

pub returns : goal.returns
returns c = sequence_laws_lem
