use Rattle.std.proofs.Common.{refl}
use Rattle.examples.proofs.Proved.{all_hold}
use Rattle.examples.proofs.proved_examples.Goals as goal

pub returns : goal.returns
returns c = record { hold = all_hold; count = refl }
