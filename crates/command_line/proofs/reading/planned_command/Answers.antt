use Rattle.std.proofs.Common.{◌∙◌, ap₂}
use Rattle.std.proofs.lemmas.Result.{IfOk-weaker}
use Rattle.clap.specs.Words.{with_rule}
use Rattle.command_line.proofs.Globals.{neither}
use Rattle.command_line.proofs.reading.planned_command.Goals as goal

pub returns-clause-app : goal.returns-clause-app
returns-clause-app c =
    IfOk-weaker c.arg.result _ _ (λ command added. added.shape c.number_argument.ensures.local
    ∙ ap₂ with_rule c.in_ok-shared_command.ensures.app c.number_argument.ensures.rule) c.arg.ensures

pub returns-clause-local : goal.returns-clause-local
returns-clause-local c =
    IfOk-weaker c.arg.result _ _ (λ command added. added.globals
    ∙ neither _ _ c.in_ok-shared_command.ensures.local c.number_argument.ensures.local) c.arg.ensures
