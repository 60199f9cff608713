use Rattle.std.proofs.Common.{rules}
use Rattle.batch.proofs.batch.Batch.new.Goals as goal

pub returns-clause-transactions : goal.returns-clause-transactions
returns-clause-transactions c = search rules
