use Rattle.batch.proofs.CanRun.{fill_can}
use Rattle.batch.proofs.StepShows.{fill-shows, fill_abort-shows}
use Rattle.intentions.specs.Levels.{shown_values}
use Rattle.speculate.proofs.InView.{ground}
use Rattle.speculate.proofs.step.perform_filled.Goals as goal

pub perform-requires-clause-fits : goal.perform-requires-clause-fits
perform-requires-clause-fits c =
    let filling = c.args.filling.now in
    (fill_can filling.object filling.template filling.labelled filling.refusal c.args.labels.now.items (shown_values c.args.view.now)
    c.in-Some.call c.requires (rw c.deref.ensures.value at c.in-Some.ensures)).fits

pub perform-requires-clause-room : goal.perform-requires-clause-room
perform-requires-clause-room c =
    let filling = c.args.filling.now in
    (fill_can filling.object filling.template filling.labelled filling.refusal c.args.labels.now.items (shown_values c.args.view.now)
    c.in-Some.call c.requires (rw c.deref.ensures.value at c.in-Some.ensures)).room

pub returns-in_ok-made-in-Some-clause-shows : goal.returns-in_ok-made-in-Some-clause-shows
returns-in_ok-made-in-Some-clause-shows c =
    let filling = c.args.filling.now in
    let replied = c.in_ok-reply-in-Some in
    let shows = fill-shows ground filling.object filling.template filling.labelled filling.refusal c.args.labels.now.items _
    c.args.view.now _ c.in-Some.call replied.reply c.in_ok-made-in-Some.made (rw c.deref.ensures.value at c.in-Some.ensures)
    replied.ensures.reply replied.ensures.view replied.ensures.labels c.in_ok-made-in-Some.ensures.ok in
    rw c.end_after.ensures shows

pub returns-in-None-clause-shows : goal.returns-in-None-clause-shows
returns-in-None-clause-shows c =
    let filling = c.args.filling.now in
    rw c.reason_for.ensures
    (fill_abort-shows ground filling.object filling.template filling.labelled filling.refusal c.args.labels.now.items c.args.view.now
    (rw c.deref.ensures.value at c.in-None.ensures))
