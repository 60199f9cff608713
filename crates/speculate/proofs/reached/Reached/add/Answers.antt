use Rattle.std.proofs.Common.{rules}
use Rattle.speculate.proofs.reached.Reached.add.Goals as goal

pub returns-clause-end : goal.returns-clause-end
returns-clause-end c = search rules
