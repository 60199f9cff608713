use Rattle.std.proofs.Common.{◌∙◌, ap₂}
use Rattle.std.proofs.lemmas.Result.{IfOk-weaker}
use Rattle.clap.specs.Words.{with_rule}
use Rattle.command_line.proofs.Globals.{neither}
use Rattle.command_line.proofs.reading.run_command.Goals as goal

pub returns-clause-app : goal.returns-clause-app
returns-clause-app c =
    let audit = c.in_ok-arg.ensures.shape c.flag_argument.ensures.local
    ∙ ap₂ with_rule c.in_ok-planned_command.ensures.app c.flag_argument.ensures.rule in
    let why = c.in_ok-arg-2.ensures.shape c.flag_argument-2.ensures.local ∙ ap₂ with_rule audit c.flag_argument-2.ensures.rule in
    IfOk-weaker c.arg-3.result _ _ (λ command added. added.shape c.flag_argument-3.ensures.local
    ∙ ap₂ with_rule why c.flag_argument-3.ensures.rule) c.arg-3.ensures

pub returns-clause-local : goal.returns-clause-local
returns-clause-local c =
    let audit = c.in_ok-arg.ensures.globals ∙ neither _ _ c.in_ok-planned_command.ensures.local c.flag_argument.ensures.local in
    let why = c.in_ok-arg-2.ensures.globals ∙ neither _ _ audit c.flag_argument-2.ensures.local in
    IfOk-weaker c.arg-3.result _ _ (λ command added. added.globals ∙ neither _ _ why c.flag_argument-3.ensures.local) c.arg-3.ensures
