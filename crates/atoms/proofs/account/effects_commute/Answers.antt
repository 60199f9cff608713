use Rattle.std.proofs.Common.{rules}
use Rattle.atoms.proofs.account.effects_commute.Goals as goal

pub returns-in-Counted-Withdrew : goal.returns-in-Counted-Withdrew
returns-in-Counted-Withdrew c = search rules

pub returns-in-Deposited-Refused : goal.returns-in-Deposited-Refused
returns-in-Deposited-Refused c = search rules

pub returns-in-Deposited-Refused-2 : goal.returns-in-Deposited-Refused-2
returns-in-Deposited-Refused-2 c = search rules

pub returns-in-Deposited-Refused-3 : goal.returns-in-Deposited-Refused-3
returns-in-Deposited-Refused-3 c = search rules

pub returns-in-Deposited-Refused-4 : goal.returns-in-Deposited-Refused-4
returns-in-Deposited-Refused-4 c = search rules

pub returns-in_default : goal.returns-in_default
returns-in_default c = search rules

pub returns-in_default-2 : goal.returns-in_default-2
returns-in_default-2 c = search rules

pub returns-in_default-3 : goal.returns-in_default-3
returns-in_default-3 c = search rules

pub returns-in_default-4 : goal.returns-in_default-4
returns-in_default-4 c = search rules

pub returns-in_default-5 : goal.returns-in_default-5
returns-in_default-5 c = search rules
