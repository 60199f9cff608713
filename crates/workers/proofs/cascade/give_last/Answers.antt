use Rattle.std.proofs.Common.{refl}
use Rattle.workers.proofs.cascade.give_last.Goals as goal

pub returns-clause-left : goal.returns-clause-left
returns-clause-left g c = refl
