use Rattle.std.proofs.Common.{rules}
use Rattle.workers.proofs.seats.seats_for.Goals as goal

pub returns-clause-few : goal.returns-clause-few
returns-clause-few c = search rules

pub returns-clause-some : goal.returns-clause-some
returns-clause-some c = search rules
