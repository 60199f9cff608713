use Rattle.std.proofs.Common.{◌++◌, ◌∙◌, refl, sym, ap, arith}
use Rattle.batch.proofs.Handling.{taker_can_run}
use Rattle.batch.proofs.HandlerShows.{shows_taker, shows_none}
use Rattle.meaning.specs.OneThread.{label_if}
use Rattle.meaning.specs.declared.held.Held.TheVariants.{Outcome}
use Rattle.batch.proofs.ViewLemmas.{subaction_view-labelled}
use Rattle.batch.proofs.PartRuns.{part_run-start, part_run-more, part_run-aborted, part_run-ended}
use Rattle.batch.proofs.CanRun.{op-can, if-bound}
use Rattle.batch.proofs.StepShows.{op-shows, if-shows_then, if-shows_else, sub-shows, abort-shows, parallel-shows}
use Rattle.batch.proofs.PartTried.{part_tried-start, part_tried-more, part_tried-aborted, part_tried-ended}
use Rattle.one_thread.proofs.Bodies.{body_ended, abort_handled}
use Rattle.batch.proofs.Blocks.{block_shows, labels_left}
use Rattle.one_thread.proofs.InPlace.{ground, call_took}
use Rattle.one_thread.specs.Running.{in_place}
use Rattle.one_thread.proofs.executor.+run.Goals as goal
use Rattle.one_thread.proofs.executor.+run.Goals.{run_step-then-holds, run_step-else-holds}

-- ---- steps one after the other

pub run_steps-loop-step-init : goal.run_steps-loop-step-init
run_steps-loop-step-init t c = rw c.in_ok-taken.ensures.items
    (part_run-start ground c.args.steps.now c.args.labels.now.items c.args.workspace.now c.requires)

pub run_steps-returns-in-Aborted-clause-shows : goal.run_steps-returns-in-Aborted-clause-shows
run_steps-returns-in-Aborted-clause-shows t c =
    part_run-aborted ground _ _ _ _ _ _ _ c.step-item.result c.in_ok-done.done c.in_ok-done.end _ _ c.in-Aborted.field-0 _
    c.loop-step.invariant c.loop-step-test.true c.step-item.is c.in_ok-done.ensures.shows c.in-Aborted.is c.in_ok-push.ensures.items
    refl

pub run_steps-loop-step-preserved : goal.run_steps-loop-step-preserved
run_steps-loop-step-preserved t c =
    rw c.in_ok-push.ensures.items (part_run-more ground _ _ _ _ _ _ _ c.step-item.result c.in_ok-done.done c.in_ok-done.end _ _
    c.loop-step.invariant c.loop-step-test.true c.step-item.is c.in_ok-done.ensures.shows c.in-Ended.is c.in_ok-done.ensures.labels)

pub run_steps-returns-clause-shows : goal.run_steps-returns-clause-shows
run_steps-returns-clause-shows t c = part_run-ended ground _ _ _ _ _ _ _ _ c.loop-step.invariant c.loop-step-test.false refl refl

-- ---- one step

pub run_step-perform-requires : goal.run_step-perform-requires
run_step-perform-requires t c = op-can c.args.step.now _ _ _ _ _ c.in-Op.is c.requires

pub run_step-index-requires : goal.run_step-index-requires
run_step-index-requires t c = let below = if-bound c.args.step.now c.in-If.label c.in-If.test c.in-If.then c.in-If.otherwise
    c.args.labels.now.items _ c.in-If.is c.requires in omega arith

pub run_step-returns-in_ok-add_label-in-Op-clause-shows : goal.run_step-returns-in_ok-add_label-in-Op-clause-shows
run_step-returns-in_ok-add_label-in-Op-clause-shows t c =
    op-shows ground c.args.step.now _ _ _ _ _ _ _ _ c.in-Op.is c.in_ok-reply-in-Op.ensures.reply
    (call_took _ _ _ _ c.in_ok-reply-in-Op.reply c.in_ok-reply-in-Op.ensures.ok) c.in_ok-add_label-in-Op.ensures.ok

pub run_step-returns-in_ok-new-in-If-clause-shows : goal.run_step-returns-in_ok-new-in-If-clause-shows
run_step-returns-in_ok-new-in-If-clause-shows t c =
    let ran = c.in_ok-record-in-If in
    elim c.if-holds.branch [
      | run_step-then-holds w ↦ if-shows_then ground c.args.step.now c.in-If.label c.in-If.test c.in-If.then c.in-If.otherwise
          c.args.labels.now.items _ c.args.workspace.now _ c.index.result.now c.test_holds-holds.result _ _ c.in-If.is c.requires
          c.index.ensures c.test_holds-holds.ensures w.if-holds.true
          (rw (c.deref-in-If.ensures, w.branch'-is) at ran.ensures.shows) ran.ensures.labels c.in_ok-new-in-If.ensures.ok
      | run_step-else-holds w ↦ if-shows_else ground c.args.step.now c.in-If.label c.in-If.test c.in-If.then c.in-If.otherwise
          c.args.labels.now.items _ c.args.workspace.now _ c.index.result.now c.test_holds-holds.result _ _ c.in-If.is c.requires
          c.index.ensures c.test_holds-holds.ensures w.if-holds.false
          (rw (c.deref-in-If.ensures, w.branch'-is) at ran.ensures.shows) ran.ensures.labels c.in_ok-new-in-If.ensures.ok
    ]

pub run_step-returns-in_ok-into_taken-in-Sub-clause-shows : goal.run_step-returns-in_ok-into_taken-in-Sub-clause-shows
run_step-returns-in_ok-into_taken-in-Sub-clause-shows t c =
    let child = c.in-Sub.child in
    let tried = c.in_ok-tried-in-Sub in
    sub-shows ground c.args.step.now child c.args.labels.now.items _ c.args.workspace.now _ tried.tried _ c.in-Sub.is
    (rw c.deref-in-Sub.ensures at tried.ensures.shows)
    (rw (c.in_ok-add_label-in-Sub.ensures.ok, tried.ensures.labels, c.deref-in-Sub-2.ensures, subaction_view-labelled child.value) refl)
    c.in_ok-into_taken-in-Sub.ensures

pub run_step-returns-in-Abort-clause-shows : goal.run_step-returns-in-Abort-clause-shows
run_step-returns-in-Abort-clause-shows t c = abort-shows ground c.args.step.now c.in-Abort.reason c.args.labels.now.items
    c.args.workspace.now c.in-Abort.is

pub run_step-returns-in_ok-append-in-Parallel-clause-shows : goal.run_step-returns-in_ok-append-in-Parallel-clause-shows
run_step-returns-in_ok-append-in-Parallel-clause-shows t c =
    parallel-shows ground c.args.step.now c.in-Parallel.children c.args.labels.now.items _ c.run_children.new.outcomes.items
    c.args.workspace.now _ c.in_ok-tried-in-Parallel.tried c.in_ok-tried-in-Parallel.end c.in-Parallel.is
    (rw c.deref-in-Parallel.ensures.value at c.in_ok-tried-in-Parallel.ensures.shows)
    (c.in_ok-append-in-Parallel.ensures.items ∙ ap (λ ls. ls ++ c.run_children.new.outcomes.items) c.in_ok-tried-in-Parallel.ensures.labels)

-- ---- children one after the other

pub run_children-loop-child-init : goal.run_children-loop-child-init
run_children-loop-child-init t c =
    record {
      same = refl;
      part = rw (c.in_ok-all.ensures.items, c.requires.none_yet)
          (part_tried-start ground c.args.children.now c.args.labels.now.items c.args.workspace.now c.requires.can);
    }

pub run_children-returns-in-Aborted-clause-shows : goal.run_children-returns-in-Aborted-clause-shows
run_children-returns-in-Aborted-clause-shows t c =
    rw (c.in_ok-push.ensures.items, ← c.loop-child.invariant.same)
    (part_tried-aborted ground _ _ _ _ _ _ _ c.child-item.result c.in_ok-tried.tried _ c.in-Aborted.field-0
    (c.in_ok-tried.tried.body, c.in_ok-tried.tried.handler) _ c.loop-child.invariant.part c.loop-child-test.true c.child-item.is
    c.in_ok-tried.ensures.shows c.in-Aborted.is refl)

pub run_children-loop-child-preserved : goal.run_children-loop-child-preserved
run_children-loop-child-preserved t c =
    let more = part_tried-more ground _ _ _ _ _ _ _ c.child-item.result c.in_ok-tried.tried _
    (c.in_ok-tried.tried.body, c.in_ok-tried.tried.handler) _ c.loop-child.invariant.part c.loop-child-test.true c.child-item.is
    c.in_ok-tried.ensures.shows c.in-Ended.is refl (ap (λ b. label_if b (Outcome c.in_ok-tried.tried.body.outcome))
    (sym (subaction_view-labelled c.child-item.result))) in
    record {
      same = c.in_ok-tried.ensures.labels ∙ c.loop-child.invariant.same;
      part =
          rw (c.in_ok-push.ensures.items, c.in_ok-add_label.ensures.ok, c.in_ok-tried.ensures.labels) more;
    }

pub run_children-returns-clause-shows : goal.run_children-returns-clause-shows
run_children-returns-clause-shows t c = rw (← c.loop-child.invariant.same)
    (part_tried-ended ground _ _ _ _ _ _ _ c.loop-child.invariant.part c.loop-child-test.false)

-- ---- what takes an abort

pub run_handler-run_block-requires : goal.run_handler-run_block-requires
run_handler-run_block-requires t c = (
  omega (arith, c.taker.ensures.inside c.in-Some.block c.in-Some.is, c.decreases),
  taker_can_run _ _ _ c.args.reason _ c.requires c.in-Some.ensures.takes,
)

pub run_handler-returns-in_ok-run_block-in-Some-clause-shows : goal.run_handler-returns-in_ok-run_block-in-Some-clause-shows
run_handler-returns-in_ok-run_block-in-Some-clause-shows t c =
    let shows = c.in_ok-run_block-in-Some.ensures.shows in
    rw c.handled.ensures.handler (shows_taker ground _ _ _ c.args.reason _ _ _ _ c.in-Some.ensures.takes shows c.handled.ensures.end)

pub run_handler-returns-in-None-clause-shows : goal.run_handler-returns-in-None-clause-shows
run_handler-returns-in-None-clause-shows t c =
    shows_none ground _ _ c.args.reason c.args.workspace.now _ c.in-None.ensures.takes c.untaken.ensures

-- ---- a subaction

pub run_subaction-returns-in-Ended-clause-shows : goal.run_subaction-returns-in-Ended-clause-shows
run_subaction-returns-in-Ended-clause-shows t c =
    body_ended c.args.child.now c.args.labels.now.items c.args.workspace.now c.run_block.new.workspace c.in_ok-body.body
    c.in_ok-body.ensures.shows _ c.in-Ended.is refl refl refl

pub run_subaction-returns-in_ok-handler-in-Aborted-clause-shows : goal.run_subaction-returns-in_ok-handler-in-Aborted-clause-shows
run_subaction-returns-in_ok-handler-in-Aborted-clause-shows t c =
    abort_handled c.args.child.now c.args.labels.now.items c.args.workspace.now c.run_block.new.workspace c.in_ok-body.body
    c.in_ok-body.ensures.shows c.rewind.new.self c.mark-mark.result c.mark-mark.ensures c.in_ok-rewind-in-Aborted.ensures
    c.run_handler.new.workspace c.in-Aborted.reason c.in_ok-handler-in-Aborted.handler c.in_ok-handler-in-Aborted.end _ c.in-Aborted.is
    (rw c.in_ok-body.ensures.labels at c.in_ok-handler-in-Aborted.ensures.shows) refl refl refl

-- ---- a block

pub run_block-returns-clause-shows : goal.run_block-returns-clause-shows
run_block-returns-clause-shows t c =
    block_shows in_place c.args.block.now c.deref.result.now c.args.labels.now.items c.args.workspace.now.state c.in_ok-record.record
    c.args.workspace.now c.run_steps.new.workspace c.deref.ensures.value c.in_ok-record.ensures.shows

pub run_block-returns-clause-labels : goal.run_block-returns-clause-labels
run_block-returns-clause-labels t c =
    labels_left c.args.labels.now.items c.run_steps.new.labels.items c.truncate.new.self.items c.len-seen.result
    c.in_ok-record.ensures.labels (omega (arith, c.args.labels.now.ok.0, c.len-seen.ensures)) c.truncate.ensures.items
