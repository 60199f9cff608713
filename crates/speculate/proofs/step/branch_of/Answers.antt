use Rattle.std.proofs.Common.{rules}
use Rattle.speculate.proofs.step.branch_of.Goals as goal

pub returns-then-holds-clause-first : goal.returns-then-holds-clause-first
returns-then-holds-clause-first c = search rules

pub returns-else-holds-clause-other : goal.returns-else-holds-clause-other
returns-else-holds-clause-other c = search rules
