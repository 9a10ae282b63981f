use Rattle.tree_laws.proofs.Computed.{standing_laws_lem}
use Rattle.tree_laws.proofs.standing_laws.Goals as goal

pub returns : goal.returns
returns c = standing_laws_lem
