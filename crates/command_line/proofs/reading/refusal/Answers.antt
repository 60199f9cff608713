use Rattle.command_line.proofs.Refusing.{refusal_by, refusal_of_help}
use Rattle.command_line.proofs.reading.refusal.Goals as goal

pub returns-in-Some-clause-refused : goal.returns-in-Some-clause-refused
returns-in-Some-clause-refused c = λ among. refusal_of_help _ c.help_on_help.result c.in-Some.ensures

pub returns-in_default-clause-refused : goal.returns-in_default-clause-refused
returns-in_default-clause-refused c = λ among. refusal_by _ _ c.refusal_of.result c.refusal_of.ensures.kind among
