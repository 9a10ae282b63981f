use Rattle.tree_laws.proofs.RouteLaws.{parallel_laws_lem}
use Rattle.tree_laws.proofs.parallel_laws.Goals as goal

pub returns : goal.returns
returns c = parallel_laws_lem
