use Rattle.std.proofs.Common.{◌∙◌, ap, ap₂}
use Rattle.std.proofs.lemmas.Result.{IfOk-weaker}
use Rattle.clap.specs.Words.{App, with_subcommand}
use Rattle.command_line.proofs.reading.ordtx_command.Goals as goal

pub returns : goal.returns
returns c =
    let check = c.in_ok-check.ensures.shape c.in_ok-shared_command.ensures.local
    ∙ ap₂ with_subcommand c.in_ok-carry.ensures (ap (λ (app : App). app.top) c.in_ok-shared_command.ensures.app) in
    IfOk-weaker c.subcommand-2.result _ _
    (λ command added. added.shape c.in_ok-file_command.ensures.local
    ∙ ap₂ with_subcommand check (ap (λ (app : App). app.top) c.in_ok-file_command.ensures.app)) c.subcommand-2.ensures
