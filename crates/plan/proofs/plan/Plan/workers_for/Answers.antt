use Rattle.std.proofs.Common.{rules}
use Rattle.plan.proofs.plan.Plan.workers_for.Goals as goal

pub returns-then-self-eq1-clause-all : goal.returns-then-self-eq1-clause-all
returns-then-self-eq1-clause-all c = search rules

pub returns-clause-within : goal.returns-clause-within
returns-clause-within c = search rules

pub returns-clause-paid : goal.returns-clause-paid
returns-clause-paid c = search rules
