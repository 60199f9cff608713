use Rattle.std.proofs.Common.{rules}
use Rattle.speculate.proofs.ahead.Ahead.of.Goals as goal

pub returns-clause-entries : goal.returns-clause-entries
returns-clause-entries c = search rules
