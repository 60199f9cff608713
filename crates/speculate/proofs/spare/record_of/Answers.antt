use Rattle.std.proofs.Common.{rules}
use Rattle.speculate.proofs.spare.record_of.Goals as goal

pub returns-clause-taken : goal.returns-clause-taken
returns-clause-taken c = search rules
