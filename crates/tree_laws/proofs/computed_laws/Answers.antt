use Rattle.tree_laws.proofs.Computed.{computed_laws_lem}
use Rattle.tree_laws.proofs.computed_laws.Goals as goal

pub returns : goal.returns
returns c = computed_laws_lem
