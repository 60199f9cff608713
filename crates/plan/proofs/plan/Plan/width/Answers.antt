use Rattle.std.proofs.Common.{rules}
use Rattle.plan.specs.Plans.{width_of}
use Rattle.plan.proofs.plan.Plan.width.Goals as goal

pub returns-clause-shared : goal.returns-clause-shared
unfolding width_of
returns-clause-shared c = search rules
