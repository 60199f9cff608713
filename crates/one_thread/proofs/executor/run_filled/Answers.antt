use Rattle.batch.proofs.CanRun.{fill_can}
use Rattle.batch.proofs.StepShows.{fill-shows, fill_abort-shows}
use Rattle.one_thread.proofs.InPlace.{ground, call_took}
use Rattle.one_thread.proofs.executor.run_filled.Goals as goal

pub perform-requires : goal.perform-requires
perform-requires c =
    let filling = c.args.filling.now in
    fill_can filling.object filling.template filling.labelled filling.refusal c.args.labels.now.items c.args.workspace.now.state
    c.in-Some.call c.requires (rw c.deref.ensures.value at c.in-Some.ensures)

pub returns-in_ok-made-in-Some-clause-shows : goal.returns-in_ok-made-in-Some-clause-shows
returns-in_ok-made-in-Some-clause-shows c =
    let filling = c.args.filling.now in
    let shows = fill-shows ground filling.object filling.template filling.labelled filling.refusal c.args.labels.now.items _
    c.args.workspace.now _ c.in-Some.call c.in_ok-reply-in-Some.reply c.in_ok-made-in-Some.made
    (rw c.deref.ensures.value at c.in-Some.ensures) c.in_ok-reply-in-Some.ensures.reply
    (call_took _ _ _ _ c.in_ok-reply-in-Some.reply c.in_ok-reply-in-Some.ensures.ok) c.in_ok-add_label-in-Some.ensures.ok
    c.in_ok-made-in-Some.ensures.ok in
    rw c.end_after.ensures shows

pub returns-in-None-clause-shows : goal.returns-in-None-clause-shows
returns-in-None-clause-shows c =
    let filling = c.args.filling.now in
    rw c.reason_for.ensures
    (fill_abort-shows ground filling.object filling.template filling.labelled filling.refusal c.args.labels.now.items c.args.workspace.now
    (rw c.deref.ensures.value at c.in-None.ensures))
