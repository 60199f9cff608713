use Rattle.std.proofs.Common.{rules}
use Rattle.batch.proofs.tried.handled.Goals as goal

pub returns-clause-end : goal.returns-clause-end
returns-clause-end c = search rules
