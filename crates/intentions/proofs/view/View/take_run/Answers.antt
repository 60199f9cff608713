use Rattle.std.proofs.Common.{rules}
use Rattle.intentions.proofs.view.View.take_run.Goals as goal

pub returns-clause-opened : goal.returns-clause-opened
returns-clause-opened c = search rules

pub invariant_of-self : goal.invariant_of-self
invariant_of-self c = search rules
