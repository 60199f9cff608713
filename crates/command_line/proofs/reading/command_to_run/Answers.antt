use Rattle.std.proofs.Common.{◌≡◌, ◌∙◌, rules, ap, ap₂, codes}
use Rattle.std.proofs.lemmas.Result.{IfOk-weaker}
use Rattle.clap.specs.Words.{App, app_of, new_app, with_subcommand}
use Rattle.command_line.specs.CommandLine.{titled}
use Rattle.command_line.proofs.reading.command_to_run.Goals as goal

pub returns : goal.returns
returns c =
    let title : app_of c.subcommand_required.result ≡ titled (new_app (codes "ordtx")) = search rules in
    IfOk-weaker c.subcommand.result _ _
    (λ command added. added.shape c.in_ok-run.ensures.local
    ∙ ap₂ with_subcommand title (ap (λ (app : App). app.top) c.in_ok-run.ensures.app)) c.subcommand.ensures
