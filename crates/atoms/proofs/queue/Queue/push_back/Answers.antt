use Rattle.std.proofs.Common.{rules}
use Rattle.atoms.proofs.queue.Queue.push_back.Goals as goal

pub returns-clause-ok : goal.returns-clause-ok
returns-clause-ok c = search rules
