use Rattle.std.proofs.Common.{rules}
use Rattle.plan.proofs.plan.Plan.new.Goals as goal

pub returns-clause-is : goal.returns-clause-is
returns-clause-is c = search rules
