use Rattle.tree_laws.proofs.Windows.{window_laws_lem}
use Rattle.tree_laws.proofs.window_laws.Goals as goal

pub returns : goal.returns
returns c = window_laws_lem
