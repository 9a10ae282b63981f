use Rattle.tree_laws.proofs.RouteLaws.{choice_laws_lem}
use Rattle.tree_laws.proofs.choice_laws.Goals as goal

pub returns : goal.returns
returns c = choice_laws_lem
