use Rattle.std.proofs.Common.{◌∙◌, sym, ap}
use Rattle.batch.specs.Views.{otherwise_view}
use Rattle.batch.specs.Taking.{untaken}
use Rattle.batch.proofs.ViewLemmas.{otherwise_view-Run, otherwise_view-GoOn, otherwise_view-Pass}
use Rattle.batch.proofs.Handling.{untaken-is}
use Rattle.batch.proofs.handlers.untaken.Goals as goal

pub returns-in-Run : goal.returns-in-Run
returns-in-Run c =
    let reason = c.args.reason in
    let run = otherwise_view-Run c.in-Run.field-0 in
    let last = ap (λ o. untaken (otherwise_view o) reason) c.in-Run.is ∙ ap (λ h. untaken h reason) run in
    sym (untaken-is c.args.child.now reason ∙ last)

pub returns-in-GoOn : goal.returns-in-GoOn
returns-in-GoOn c =
    let reason = c.args.reason in
    let last = ap (λ o. untaken (otherwise_view o) reason) c.in-GoOn.is ∙ ap (λ h. untaken h reason) otherwise_view-GoOn in
    sym (untaken-is c.args.child.now reason ∙ last)

pub returns-in-Pass : goal.returns-in-Pass
returns-in-Pass c =
    let reason = c.args.reason in
    let last = ap (λ o. untaken (otherwise_view o) reason) c.in-Pass.is ∙ ap (λ h. untaken h reason) otherwise_view-Pass in
    sym (untaken-is c.args.child.now reason ∙ last)
