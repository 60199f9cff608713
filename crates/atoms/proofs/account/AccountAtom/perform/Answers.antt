use Rattle.std.proofs.Common.{rules}
use Rattle.atoms.proofs.account.AccountAtom.perform.Goals as goal

pub returns-else-get-value-clause-reply : goal.returns-else-get-value-clause-reply
returns-else-get-value-clause-reply c = search rules

pub returns-then-get-value-clause-reply : goal.returns-then-get-value-clause-reply
returns-then-get-value-clause-reply c = search rules

pub returns-else-get-value-clause-ok : goal.returns-else-get-value-clause-ok
returns-else-get-value-clause-ok c = search rules

pub returns-then-get-value-clause-ok : goal.returns-then-get-value-clause-ok
returns-then-get-value-clause-ok c = search rules

pub overflow_sub-value : goal.overflow_sub-value
overflow_sub-value c = search rules
