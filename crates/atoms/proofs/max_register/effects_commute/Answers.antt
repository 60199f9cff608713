use Rattle.std.proofs.Common.{rules}
use Rattle.atoms.proofs.max_register.effects_commute.Goals as goal

pub returns-in-Raised-Counted : goal.returns-in-Raised-Counted
returns-in-Raised-Counted c = search rules

pub returns-in_default : goal.returns-in_default
returns-in_default c = search rules

pub returns-in_default-2 : goal.returns-in_default-2
returns-in_default-2 c = search rules

pub returns-in_default-3 : goal.returns-in_default-3
returns-in_default-3 c = search rules
