use Rattle.tree_laws.proofs.Windows.{node_laws_lem}
use Rattle.tree_laws.proofs.node_laws.Goals as goal

pub returns : goal.returns
returns c = node_laws_lem
