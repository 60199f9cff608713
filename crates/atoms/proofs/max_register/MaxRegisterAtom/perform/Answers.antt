use Rattle.std.proofs.Common.{rules}
use Rattle.atoms.proofs.max_register.MaxRegisterAtom.perform.Goals as goal

pub returns-then-get-value-clause-ok : goal.returns-then-get-value-clause-ok
returns-then-get-value-clause-ok c = search rules

pub returns-else-get-value-clause-ok : goal.returns-else-get-value-clause-ok
returns-else-get-value-clause-ok c = search rules
