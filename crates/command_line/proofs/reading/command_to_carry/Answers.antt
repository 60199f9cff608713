use Rattle.std.proofs.Common.{◌∙◌, ap, ap₂}
use Rattle.std.proofs.lemmas.Result.{IfOk-weaker}
use Rattle.clap.specs.Words.{App, with_subcommand}
use Rattle.command_line.proofs.reading.command_to_carry.Goals as goal

pub returns : goal.returns
returns c =
    let serial = c.in_ok-serial.ensures.shape c.in_ok-shared_command.ensures.local
    ∙ ap₂ with_subcommand c.in_ok-run.ensures (ap (λ (app : App). app.top) c.in_ok-shared_command.ensures.app) in
    IfOk-weaker c.subcommand-2.result _ _
    (λ command added. added.shape c.in_ok-carry_command.ensures.local
    ∙ ap₂ with_subcommand serial (ap (λ (app : App). app.top) c.in_ok-carry_command.ensures.app)) c.subcommand-2.ensures
