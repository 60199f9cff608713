use Rattle.std.proofs.Common.{true, false, ◌≡◌, ◌++◌, ◌∷◌, [], ◌∙◌, List, length, take, refl, sym, ap, subst, rules, arith}
use Rattle.std.proofs.lemmas.List.{append-nil, take_all}
use Rattle.speculate.proofs.Bodies.{body_ended, handler_can_run, taken_over, passed_on}
use Rattle.meaning.specs.OneThread.{label_if}
use Rattle.meaning.specs.declared.held.Held.{Held}
use Rattle.batch.specs.Running.{StillSeen, CanRunHere, CanTryHere}
use Rattle.meaning.specs.declared.held.Held.TheVariants.{Outcome}
use Rattle.batch.proofs.ViewLemmas.{subaction_view-labelled, block_view-is}
use Rattle.batch.specs.Views.{block_view, subaction_view}
use Rattle.intentions.specs.Levels.{shown_values as state_of_view, opened}
use Rattle.batch.proofs.PartRuns.{part_run-start, part_run-can_step, part_run-more, part_run-aborted, part_run-ended}
use Rattle.batch.proofs.Blocks.{block_shows, labels_left}
use Rattle.batch.proofs.CanRun.{op-can, if-bound, still_same, still_then}
use Rattle.batch.proofs.StepShows.{op-shows, sub-shows, abort-shows, parallel-shows}
use Rattle.batch.proofs.PartTried.{part_tried-start, part_tried-can_try, part_tried-more, part_tried-aborted, part_tried-ended}
use Rattle.speculate.proofs.Siblings.{ran_alone, next_before, net_is_legal, net_has_room, kept_shows, kept_listed, added_listed}
use Rattle.speculate.proofs.Siblings.{each_can_try, one_more, one_longer, joined_halves, left-start, left-more}
use denote.Param.Send.{sendable}
use Rattle.speculate.proofs.Crossing.{runs_cross}
use Rattle.speculate.proofs.Choices.{branch_can_run, branch_is_smaller, branch_shows}
use Rattle.speculate.specs.Ahead.{AreRunAhead}
use Rattle.speculate.specs.Running.{in_view}
use Rattle.speculate.proofs.InView.{ground}
use Rattle.batch.specs.declared.record.Taken.{Taken}
use Rattle.batch.specs.declared.record.Taken.TheVariants.{Op}
use Rattle.speculate.proofs.Puts.{IsPutAt, put_over, put_last}
use Rattle.speculate.proofs.executor.+run.Goals as goal
use Rattle.speculate.proofs.executor.+run.Goals.{run_steps-then-place-len+in-Filled-1, run_steps-then-place-len+in-If-1}
use Rattle.speculate.proofs.executor.+run.Goals.{run_steps-then-place-len+in-Sub+in-Some-1, run_steps-then-place-len+in-Sub+in-None-1}
use Rattle.speculate.proofs.executor.+run.Goals.{run_steps-then-place-len+in-Parallel-1, run_steps-then-place-len+in-Op-1}
use Rattle.speculate.proofs.executor.+run.Goals.{run_steps-else-place-len+in_ok-push}

-- ---- steps one after the other

pub run_steps-loop-place-init : goal.run_steps-loop-place-init
run_steps-loop-place-init g t c = record {
  long = omega arith;
  part = part_run-start ground c.args.steps.now c.args.labels.now.items c.args.view.now c.requires;
}

pub run_steps-returns-in-Aborted-clause-shows : goal.run_steps-returns-in-Aborted-clause-shows
run_steps-returns-in-Aborted-clause-shows g t c =
    part_run-aborted ground c.args.steps.now c.args.labels.now.items c.args.view.now c.loop-place.place
    (take c.loop-place.place c.loop-place.taken.items) c.loop-place.labels.items c.loop-place.view
    c.index-steps-place.result c.in_ok-done.done c.in_ok-done.end c.run_other_step.new.labels.items c.run_other_step.new.view
    c.in-Aborted.field-0 c.record_of.result c.loop-place.invariant.part c.loop-place-test.true c.index-steps-place.is
    c.in_ok-done.ensures.shows c.in-Aborted.is
    (c.record_of.ensures.taken ∙ c.in_ok-put_at.ensures.put ∙ ap (λ ts. ts ++ c.in_ok-done.done ∷ []) c.in_ok-done.ensures.before)
    c.record_of.ensures.outcome

pub run_steps-loop-place-preserved : goal.run_steps-loop-place-preserved
run_steps-loop-place-preserved g t c = record {
  long = c.in_ok-put_at.ensures.long;
  part = rw (c.in_ok-put_at.ensures.put, c.in_ok-done.ensures.before)
      (part_run-more ground c.args.steps.now c.args.labels.now.items c.args.view.now c.loop-place.place
      (take c.loop-place.place c.loop-place.taken.items) c.loop-place.labels.items c.loop-place.view
      c.index-steps-place.result c.in_ok-done.done c.in_ok-done.end c.run_other_step.new.labels.items c.run_other_step.new.view
      c.loop-place.invariant.part c.loop-place-test.true c.index-steps-place.is c.in_ok-done.ensures.shows c.in-Ended.is
      c.in_ok-done.ensures.labels);
}

pub run_steps-loop-place-preserved-in-Op : goal.run_steps-loop-place-preserved-in-Op
run_steps-loop-place-preserved-in-Op g t c =
    let was = c.loop-place.taken in
    let now = c.if-place-len.taken in
    let at = c.loop-place.place in
    let done : Taken = Op c.in_ok-reply.reply in
    let put : IsPutAt was.items at done now.items = elim c.if-place-len.branch [
      | run_steps-then-place-len+in-Filled-1 w ↦ put_over was now at done (omega (arith, w.if-place-len.true, c.len.ensures)) w.taken-is
      | run_steps-then-place-len+in-If-1 w ↦ put_over was now at done (omega (arith, w.if-place-len.true, c.len.ensures)) w.taken-is
      | run_steps-then-place-len+in-Sub+in-Some-1 w ↦ put_over was now at done (omega (arith, w.if-place-len.true, c.len.ensures))
          w.taken-is
      | run_steps-then-place-len+in-Sub+in-None-1 w ↦ put_over was now at done (omega (arith, w.if-place-len.true, c.len.ensures))
          w.taken-is
      | run_steps-then-place-len+in-Parallel-1 w ↦ put_over was now at done (omega (arith, w.if-place-len.true, c.len.ensures)) w.taken-is
      | run_steps-then-place-len+in-Op-1 w ↦ put_over was now at done (omega (arith, w.if-place-len.true, c.len.ensures)) w.taken-is
      | run_steps-else-place-len+in_ok-push w ↦
          put_last was w.push.new.self now at done c.loop-place.invariant.long (omega (arith, w.if-place-len.false, c.len.ensures))
          w.taken-is w.in_ok-push.ensures.items
    ] in
    record {
      long = put.long;
      part = rw put.put
          (part_run-more ground c.args.steps.now c.args.labels.now.items c.args.view.now c.loop-place.place
          (take c.loop-place.place c.loop-place.taken.items) c.loop-place.labels.items c.loop-place.view
          c.index-steps-place.result _ _ c.add_label.new.labels.items c.perform.new.self
          c.loop-place.invariant.part c.loop-place-test.true c.index-steps-place.is
          (op-shows ground c.index-steps-place.result _ _ _ _ _ _ _ _ c.in-Op.is c.in_ok-reply.ensures.reply c.in_ok-reply.ensures.ok
          c.in_ok-add_label.ensures.ok) refl (_, c.in_ok-add_label.ensures.ok));
    }

pub run_steps-returns-clause-shows : goal.run_steps-returns-clause-shows
run_steps-returns-clause-shows g t c =
    let all : c.loop-place.place ≡ length c.args.steps.now = omega (arith, c.loop-place-test.false, c.loop-place.auto.place-end) in
    part_run-ended ground c.args.steps.now c.args.labels.now.items c.args.view.now c.loop-place.place
    (take c.loop-place.place c.loop-place.taken.items) c.loop-place.labels.items c.loop-place.view c.record_of-2.result
    c.loop-place.invariant.part c.loop-place-test.false (c.record_of-2.ensures.taken
    ∙ ap (λ n. take n c.loop-place.taken.items) (sym all)) c.record_of-2.ensures.outcome

-- ---- one step

pub run_other_step-index-requires : goal.run_other_step-index-requires
run_other_step-index-requires g t c = let below = if-bound c.args.step.now c.in-If.label c.in-If.test c.in-If.then c.in-If.otherwise
    c.args.labels.now.items _ c.in-If.is c.requires.can in omega arith

pub run_other_step-run_block-requires : goal.run_other_step-run_block-requires
run_other_step-run_block-requires g t c κs lives =
    let first = λ (h : c.test_holds-holds.result ≡ true). c.branch_of-branch.ensures.first h ∙ c.deref-in-If.ensures in
    let other = λ (h : c.test_holds-holds.result ≡ false). c.branch_of-branch.ensures.other h ∙ c.deref-in-If-2.ensures in
    let smaller = branch_is_smaller c.args.step.now c.in-If.label c.in-If.test c.in-If.then c.in-If.otherwise c.test_holds-holds.result
    c.branch_of-branch.result.now c.in-If.is first other in
    let can = branch_can_run c.args.step.now c.in-If.label c.in-If.test c.in-If.then c.in-If.otherwise c.args.labels.now.items
    (state_of_view c.args.view.now) c.test_holds-holds.result c.branch_of-branch.result.now c.in-If.is c.requires.can first other in
    search rules

pub run_other_step-returns-in_ok-boxed-in-If-clause-shows : goal.run_other_step-returns-in_ok-boxed-in-If-clause-shows
run_other_step-returns-in_ok-boxed-in-If-clause-shows g t c =
    let first = λ (h : c.test_holds-holds.result ≡ true). c.branch_of-branch.ensures.first h ∙ c.deref-in-If.ensures in
    let other = λ (h : c.test_holds-holds.result ≡ false). c.branch_of-branch.ensures.other h ∙ c.deref-in-If-2.ensures in
    let ran = c.in_ok-record-in-If in
    branch_shows c.args.step.now c.in-If.label c.in-If.test c.in-If.then c.in-If.otherwise c.args.labels.now.items
    c.run_block.new.labels.items c.args.view.now c.run_block.new.view c.index.result.now c.test_holds-holds.result
    c.branch_of-branch.result.now
    ran.record c.in_ok-boxed-in-If.field-0 c.in-If.is c.requires.can c.index.ensures c.test_holds-holds.ensures first other
    ran.ensures.shows ran.ensures.labels c.in_ok-boxed-in-If.ensures

pub run_other_step-returns-in_ok-done-in-Sub-clause-shows : goal.run_other_step-returns-in_ok-done-in-Sub-clause-shows
run_other_step-returns-in_ok-done-in-Sub-clause-shows g t c =
    let child = c.in-Sub.child in
    let tried = c.in_ok-tried-in-Sub in
    let made = c.in_ok-done-in-Sub in
    rw made.ensures.end
    (sub-shows ground c.args.step.now child c.args.labels.now.items c.into_step.new.labels.items c.args.view.now c.run_subaction.new.view
    tried.tried made.done c.in-Sub.is (rw c.deref-in-Sub.ensures at tried.ensures.shows)
    (rw (made.ensures.labels, tried.ensures.labels, c.deref-in-Sub-2.ensures, subaction_view-labelled child.value) refl)
    made.ensures.taken)

pub run_other_step-returns-in-Abort-clause-shows : goal.run_other_step-returns-in-Abort-clause-shows
run_other_step-returns-in-Abort-clause-shows g t c =
    abort-shows ground c.args.step.now c.in-Abort.reason c.args.labels.now.items c.args.view.now c.in-Abort.is

pub run_other_step-returns-in_ok-into_taken-in-Parallel-clause-shows : goal.run_other_step-returns-in_ok-into_taken-in-Parallel-clause-shows
run_other_step-returns-in_ok-into_taken-in-Parallel-clause-shows g t c =
    let reached = c.in_ok-reached-in-Parallel in
    let made = c.in_ok-into_taken-in-Parallel in
    rw made.ensures.taken
    (parallel-shows ground c.args.step.now c.in-Parallel.children c.args.labels.now.items c.into_taken.new.labels.items
    reached.reached.outcomes.items c.args.view.now c.run_children.new.view reached.reached.all reached.end c.in-Parallel.is
    (rw c.deref-in-Parallel.ensures.value at reached.ensures.shows)
    (made.ensures.labels ∙ ap (λ ls. ls ++ reached.reached.outcomes.items) reached.ensures.labels))

-- ---- a body, and what takes its abort

pub run_subaction-returns-in_ok-commit-in-Ended-clause-shows : goal.run_subaction-returns-in_ok-commit-in-Ended-clause-shows
run_subaction-returns-in_ok-commit-in-Ended-clause-shows g t c =
    body_ended c.args.child.now c.args.labels.now.items c.args.view.now c.begin.new.self c.run_block.new.view c.in_ok-body.body
    c.in_ok-begin.ensures.ok c.in_ok-body.ensures.shows c.commit.new.self _ c.commit.ensures.committed c.in-Ended.is refl refl refl

pub run_subaction-run_block-requires-in-Ok-after_bounds : goal.run_subaction-run_block-requires-in-Ok-after_bounds
run_subaction-run_block-requires-in-Ok-after_bounds g t c κs lives =
    rw c.in_ok-body.ensures.labels
    (handler_can_run c.args.child.now c.args.labels.now.items c.args.view.now c.begin.new.self c.run_block.new.view c.in_ok-body.body
    c.in_ok-begin.ensures.ok c.in_ok-body.ensures.shows c.undo.new.view (block_view c.in-Ok.block.now) c.in-Aborted.reason
    c.undo.ensures.undone c.requires
    c.in-Ok.ensures.takes)

pub run_subaction-returns-in_ok-done-in-Ok-clause-shows : goal.run_subaction-returns-in_ok-done-in-Ok-clause-shows
run_subaction-returns-in_ok-done-in-Ok-clause-shows g t c =
    taken_over c.args.child.now c.args.labels.now.items c.args.view.now c.begin.new.self c.run_block.new.view c.in_ok-body.body
    c.in_ok-begin.ensures.ok c.in_ok-body.ensures.shows c.undo.new.view c.run_block-in-Ok.new.view (block_view c.in-Ok.block.now)
    c.in-Aborted.reason
    c.in_ok-done-in-Ok.done _ c.undo.ensures.undone c.in-Aborted.is c.in-Ok.ensures.takes
    (rw c.in_ok-body.ensures.labels at c.in_ok-done-in-Ok.ensures.shows) refl c.handled-handler.ensures.handler
    c.handled-handler.ensures.end

pub run_subaction-returns-in-Err-clause-shows : goal.run_subaction-returns-in-Err-clause-shows
run_subaction-returns-in-Err-clause-shows g t c =
    passed_on c.args.child.now c.args.labels.now.items c.args.view.now c.begin.new.self c.run_block.new.view c.in_ok-body.body
    c.in_ok-begin.ensures.ok c.in_ok-body.ensures.shows c.undo.new.view c.in-Aborted.reason c.in-Err.end _ c.undo.ensures.undone
    c.in-Aborted.is c.in-Err.ensures.none
    c.in-Err.ensures.end refl refl refl

-- ---- children that are run ahead

pub run_ahead-join-front-requires-send-A : goal.run_ahead-join-front-requires-send-A
run_ahead-join-front-requires-send-A g t c κs lives = search (sendable, runs_cross) depth 20

pub run_ahead-returns-clause-all : goal.run_ahead-returns-clause-all
run_ahead-returns-clause-all g t c =
    (joined_halves c.args.children.now c.split_at.result.0.now c.split_at.result.1.now c.div_ceil-middle.result
    c.args.fork.now.labels.items c.args.fork.now.state _ _ c.in_ok-both_halves.field-0.items c.split_at.ensures.front
    c.split_at.ensures.back c.join-front.ensures.first c.join-front.ensures.second c.in_ok-both_halves.ensures).0

pub run_ahead-returns-clause-runs : goal.run_ahead-returns-clause-runs
run_ahead-returns-clause-runs g t c =
    (joined_halves c.args.children.now c.split_at.result.0.now c.split_at.result.1.now c.div_ceil-middle.result
    c.args.fork.now.labels.items c.args.fork.now.state _ _ c.in_ok-both_halves.field-0.items c.split_at.ensures.front
    c.split_at.ensures.back c.join-front.ensures.first c.join-front.ensures.second c.in_ok-both_halves.ensures).1

pub run_part-loop-place-preserved : goal.run_part-loop-place-preserved
run_part-loop-place-preserved g t c = record {
  all = rw c.in_ok-push.ensures.items (one_longer c.loop-place.runs.items c.in_ok-run.run' c.loop-place.place c.loop-place.invariant.all);
  runs = rw c.in_ok-push.ensures.items
      (one_more c.args.children.now c.loop-place.place c.args.fork.now.labels.items c.args.fork.now.state c.loop-place.runs.items
      c.index-children-place.result c.in_ok-run.run' c.loop-place-test.true c.index-children-place.is c.loop-place.invariant.all
      c.loop-place.invariant.runs c.in_ok-run.ensures);
}

-- ---- one child after another

pub run_child-keep-requires-clause-summary : goal.run_child-keep-requires-clause-summary
run_child-keep-requires-clause-summary g t c = (c.requires.ahead c.in-Some.run' c.in-Some.is).ahead.1

pub run_child-keep-requires-clause-legal : goal.run_child-keep-requires-clause-legal
run_child-keep-requires-clause-legal g t c = λ commute. net_is_legal (subaction_view c.args.sibling.child.now) c.args.labels.now.items
    c.args.kept.now
    (state_of_view c.args.view.now) c.in-Some.run' (c.requires.ahead c.in-Some.run' c.in-Some.is) commute

pub run_child-keep-requires-clause-room : goal.run_child-keep-requires-clause-room
run_child-keep-requires-clause-room g t c = λ commute. net_has_room (subaction_view c.args.sibling.child.now) c.args.labels.now.items
    c.args.kept.now
    (state_of_view c.args.view.now) c.in-Some.run' (c.requires.ahead c.in-Some.run' c.in-Some.is) commute c.requires.can

pub run_child-returns-in-Some-2-clause-shows : goal.run_child-returns-in-Some-2-clause-shows
run_child-returns-in-Some-2-clause-shows g t c =
    kept_shows (subaction_view c.args.sibling.child.now) c.args.labels.now.items c.args.kept.now c.keep.new.kept c.in-Some.run'
    c.args.view.now
    c.keep.new.view c.in-Some-2.tried (c.requires.ahead c.in-Some.run' c.in-Some.is)
    (c.in_ok-tried.ensures.taken_in c.in-Some-2.tried c.in-Some-2.is)

pub run_child-returns-in-Some-2-clause-kept : goal.run_child-returns-in-Some-2-clause-kept
run_child-returns-in-Some-2-clause-kept g t c = λ run is.
    kept_listed (subaction_view c.args.sibling.child.now) c.args.labels.now.items c.args.kept.now c.keep.new.kept c.in-Some.run'
    c.args.view.now
    c.keep.new.view c.in-Some-2.tried (c.requires.ahead c.in-Some.run' c.in-Some.is)
    (c.in_ok-tried.ensures.taken_in c.in-Some-2.tried c.in-Some-2.is)

pub run_children-run_if_wide-requires-after_bounds : goal.run_children-run_if_wide-requires-after_bounds
run_children-run_if_wide-requires-after_bounds g t c κs lives =
    rw c.deref.ensures.value (each_can_try c.args.children.now c.args.labels.now.items (state_of_view c.args.view.now) c.requires)

pub run_children-loop-place-init : goal.run_children-loop-place-init
run_children-loop-place-init g t c = record {
  same = refl;
  part = rw (c.in_ok-reached.ensures.all, c.in_ok-reached.ensures.outcomes)
      (part_tried-start ground c.args.children.now c.args.labels.now.items c.args.view.now c.requires);
  left = λ some. rw (c.hashed_by-kept.ensures, c.into_iter-ahead.ensures.rest) (left-start c.args.children.now c.args.labels.now.items
      (state_of_view c.args.view.now) c.in_ok-run_if_wide.field-0.items (rw c.deref.ensures.value at c.in_ok-run_if_wide.ensures));
}

pub run_children-returns-in-Aborted-clause-shows : goal.run_children-returns-in-Aborted-clause-shows
run_children-returns-in-Aborted-clause-shows g t c =
    let ends = c.in_ok-end.ensures in
    rw (ends.all, ends.end, ← c.loop-place.invariant.same)
    (part_tried-aborted ground c.args.children.now c.loop-place.labels.items c.args.view.now c.loop-place.place
    c.loop-place.reached.all.items c.loop-place.reached.outcomes.items c.loop-place.view c.index-children-place.result c.in_ok-tried.tried
    c.run_child.new.view c.in-Aborted.field-0
    (c.in_ok-tried.tried.body, c.in_ok-tried.tried.handler) _ c.loop-place.invariant.part c.loop-place-test.true
    c.index-children-place.is c.in_ok-tried.ensures.shows (sym ends.end ∙ c.in-Aborted.is) refl)

pub run_children-loop-place-preserved : goal.run_children-loop-place-preserved
run_children-loop-place-preserved g t c =
    let ends = c.in_ok-end.ensures in
    let more = part_tried-more ground c.args.children.now c.loop-place.labels.items c.args.view.now c.loop-place.place
    c.loop-place.reached.all.items c.loop-place.reached.outcomes.items c.loop-place.view c.index-children-place.result c.in_ok-tried.tried
    c.run_child.new.view
    (c.in_ok-tried.tried.body, c.in_ok-tried.tried.handler) _ c.loop-place.invariant.part c.loop-place-test.true
    c.index-children-place.is c.in_ok-tried.ensures.shows (sym ends.end ∙ c.in-Ended.is) refl
    (ap (λ b. label_if b (Outcome c.in_ok-tried.tried.body.outcome)) (sym (subaction_view-labelled c.index-children-place.result))) in
    record {
      same = rw c.in_ok-tried.ensures.labels c.loop-place.invariant.same;
      part = rw (ends.all, ends.outcomes, c.in_ok-tried.ensures.labels) more;
      left = rw c.in_ok-tried.ensures.labels
          (left-more c.args.children.now c.loop-place.place c.index-children-place.result c.loop-place.labels.items c.loop-place.kept
          c.loop-place.view c.loop-place.ahead c.next-run.new.self c.loop-place.invariant.left c.loop-place-test.true
          c.index-children-place.is
          c.next-run.result c.run_child.new.view c.in_ok-tried.tried c.run_child.new.kept c.next-run.ensures.cases
          c.in_ok-tried.ensures.shows c.in_ok-tried.ensures.kept);
    }

pub run_children-returns-clause-shows : goal.run_children-returns-clause-shows
run_children-returns-clause-shows g t c = rw (← c.loop-place.invariant.same)
    (part_tried-ended ground c.args.children.now c.loop-place.labels.items c.args.view.now c.loop-place.place
    c.loop-place.reached.all.items c.loop-place.reached.outcomes.items c.loop-place.view c.loop-place.invariant.part
    c.loop-place-test.false)

-- ---- a block

pub run_block-returns-clause-shows : goal.run_block-returns-clause-shows
run_block-returns-clause-shows g t c =
    block_shows in_view c.args.block.now c.deref.result.now c.args.labels.now.items (state_of_view c.args.view.now) c.in_ok-record.record
    c.args.view.now c.run_steps.new.view c.deref.ensures.value c.in_ok-record.ensures.shows

pub run_block-returns-clause-labels : goal.run_block-returns-clause-labels
run_block-returns-clause-labels g t c =
    labels_left c.args.labels.now.items c.run_steps.new.labels.items c.forget.new.labels.items c.len-seen.result
    c.in_ok-record.ensures.labels (omega (arith, c.args.labels.now.ok.0, c.len-seen.ensures)) c.forget.ensures

-- ---- labels

-- labels to which others are added are still seen
still_seen_and_more : {held before seen : List Held} (more : List Held) → seen ≡ before ++ more → before ≡ held → StillSeen held seen
still_seen_and_more more added same = (more, added ∙ ap (λ ls. ls ++ more) same)

pub run_steps-returns-in-Aborted-clause-labels : goal.run_steps-returns-in-Aborted-clause-labels
run_steps-returns-in-Aborted-clause-labels g t c = still_then _ _ _ c.loop-place.invariant.part.still c.in_ok-done.ensures.labels

pub run_steps-returns-clause-labels : goal.run_steps-returns-clause-labels
run_steps-returns-clause-labels g t c = c.loop-place.invariant.part.still

pub run_other_step-returns-in_ok-boxed-in-If-clause-labels : goal.run_other_step-returns-in_ok-boxed-in-If-clause-labels
run_other_step-returns-in_ok-boxed-in-If-clause-labels g t c =
    ([], c.in_ok-record-in-If.ensures.labels ∙ sym (append-nil c.args.labels.now.items))

pub run_other_step-returns-in_ok-done-in-Sub-clause-labels : goal.run_other_step-returns-in_ok-done-in-Sub-clause-labels
run_other_step-returns-in_ok-done-in-Sub-clause-labels g t c =
    still_seen_and_more _ c.in_ok-done-in-Sub.ensures.labels c.in_ok-tried-in-Sub.ensures.labels

pub run_other_step-returns-in-Abort-clause-labels : goal.run_other_step-returns-in-Abort-clause-labels
run_other_step-returns-in-Abort-clause-labels g t c = still_same c.args.labels.now.items

pub run_other_step-returns-in_ok-into_taken-in-Parallel-clause-labels :
    goal.run_other_step-returns-in_ok-into_taken-in-Parallel-clause-labels
run_other_step-returns-in_ok-into_taken-in-Parallel-clause-labels g t c =
    still_seen_and_more _ c.in_ok-into_taken-in-Parallel.ensures.labels c.in_ok-reached-in-Parallel.ensures.labels

pub run_subaction-returns-in_ok-commit-in-Ended-clause-labels : goal.run_subaction-returns-in_ok-commit-in-Ended-clause-labels
run_subaction-returns-in_ok-commit-in-Ended-clause-labels g t c = c.in_ok-body.ensures.labels

pub run_subaction-returns-in_ok-done-in-Ok-clause-labels : goal.run_subaction-returns-in_ok-done-in-Ok-clause-labels
run_subaction-returns-in_ok-done-in-Ok-clause-labels g t c = c.in_ok-done-in-Ok.ensures.labels ∙ c.in_ok-body.ensures.labels

pub run_subaction-returns-in-Err-clause-labels : goal.run_subaction-returns-in-Err-clause-labels
run_subaction-returns-in-Err-clause-labels g t c = c.in_ok-body.ensures.labels

pub run_child-returns-in-Some-2-clause-labels : goal.run_child-returns-in-Some-2-clause-labels
run_child-returns-in-Some-2-clause-labels g t c = refl

pub run_children-returns-in-Aborted-clause-labels : goal.run_children-returns-in-Aborted-clause-labels
run_children-returns-in-Aborted-clause-labels g t c = c.in_ok-tried.ensures.labels ∙ c.loop-place.invariant.same

pub run_children-returns-clause-labels : goal.run_children-returns-clause-labels
run_children-returns-clause-labels g t c = c.loop-place.invariant.same

-- ---- a child that is run again

pub run_anew-returns-clause-shows : goal.run_anew-returns-clause-shows
run_anew-returns-clause-shows g t c = c.in_ok-tried.ensures.shows

pub run_anew-returns-clause-kept : goal.run_anew-returns-clause-kept
run_anew-returns-clause-kept g t c =
    added_listed (subaction_view c.args.sibling.child.now) c.args.labels.now.items c.args.view.now c.run_subaction.new.view
    c.in_ok-tried.tried
    c.net-before.result.now c.in_ok-tried.ensures.shows c.net-before.ensures c.args.kept.now c.list_since.new.kept
    c.in_ok-list_since.ensures

pub run_anew-returns-clause-labels : goal.run_anew-returns-clause-labels
run_anew-returns-clause-labels g t c = c.in_ok-tried.ensures.labels

pub run_anew-run_subaction-requires-after_bounds : goal.run_anew-run_subaction-requires-after_bounds
run_anew-run_subaction-requires-after_bounds g t c κs lives = c.requires

-- ---- what is called can run

pub run_block-run_steps-requires-after_bounds : goal.run_block-run_steps-requires-after_bounds
run_block-run_steps-requires-after_bounds g t c κs lives = rw c.deref.ensures.value
    (subst (λ b. CanRunHere b c.args.labels.now.items (state_of_view c.args.view.now)) (block_view-is c.args.block.now) c.requires)

pub run_steps-perform-requires-clause-fits : goal.run_steps-perform-requires-clause-fits
run_steps-perform-requires-clause-fits g t c =
    let can = part_run-can_step ground c.args.steps.now c.args.labels.now.items c.args.view.now c.loop-place.place _
    c.loop-place.labels.items c.loop-place.view c.index-steps-place.result c.loop-place.invariant.part c.loop-place-test.true
    c.index-steps-place.is in
    (op-can c.index-steps-place.result _ _ _ _ _ c.in-Op.is can).fits

pub run_steps-perform-requires-clause-room : goal.run_steps-perform-requires-clause-room
run_steps-perform-requires-clause-room g t c =
    let can = part_run-can_step ground c.args.steps.now c.args.labels.now.items c.args.view.now c.loop-place.place _
    c.loop-place.labels.items c.loop-place.view c.index-steps-place.result c.loop-place.invariant.part c.loop-place-test.true
    c.index-steps-place.is in
    (op-can c.index-steps-place.result _ _ _ _ _ c.in-Op.is can).room

pub run_steps-run_other_step-requires-clause-can : goal.run_steps-run_other_step-requires-clause-can
run_steps-run_other_step-requires-clause-can g t c κs lives =
    part_run-can_step ground c.args.steps.now c.args.labels.now.items c.args.view.now c.loop-place.place _ c.loop-place.labels.items
    c.loop-place.view c.index-steps-place.result c.loop-place.invariant.part c.loop-place-test.true c.index-steps-place.is

pub run_children-run_child-requires-clause-can : goal.run_children-run_child-requires-clause-can
run_children-run_child-requires-clause-can g t c κs lives =
    part_tried-can_try ground c.args.children.now c.loop-place.labels.items c.args.view.now c.loop-place.place
    c.loop-place.reached.all.items c.loop-place.reached.outcomes.items c.loop-place.view c.index-children-place.result
    c.loop-place.invariant.part c.loop-place-test.true
    c.index-children-place.is

pub run_children-run_child-requires-clause-ahead : goal.run_children-run_child-requires-clause-ahead
run_children-run_child-requires-clause-ahead g t c κs lives =
    next_before c.args.children.now c.loop-place.place c.index-children-place.result c.loop-place.labels.items c.loop-place.kept
    c.loop-place.view c.loop-place.ahead c.next-run.new.self c.loop-place.invariant.left c.loop-place-test.true c.index-children-place.is
    c.next-run.result c.next-run.ensures.cases

pub run_child-run_subaction-requires-after_bounds : goal.run_child-run_subaction-requires-after_bounds
run_child-run_subaction-requires-after_bounds g t c κs lives = c.requires.can

pub run_child-run_anew-requires-after_bounds : goal.run_child-run_anew-requires-after_bounds
run_child-run_anew-requires-after_bounds g t c κs lives =
    let view : c.keep.new.view ≡ c.args.view.now = search rules in
    rw view c.requires.can

pub run_part-run_alone-requires-after_bounds : goal.run_part-run_alone-requires-after_bounds
run_part-run_alone-requires-after_bounds g t c κs lives =
    subst (λ x. CanTryHere (subaction_view x) c.args.fork.now.labels.items c.args.fork.now.state) (sym c.index-children-place.is)
    (c.requires.can c.loop-place.place c.index-children-place.result c.loop-place-test.true)

-- ---- a child after its run ahead did not hold, or where there is none

pub run_child-returns-clause-shows : goal.run_child-returns-clause-shows
run_child-returns-clause-shows g t c =
    let view : c.keep.new.view ≡ c.args.view.now = search rules in
    rw view at c.in_ok-run_anew.ensures.shows

pub run_child-returns-clause-kept : goal.run_child-returns-clause-kept
run_child-returns-clause-kept g t c =
    let same : c.keep.new.kept ≡ c.args.kept.now = search rules in
    let view : c.keep.new.view ≡ c.args.view.now = search rules in
    λ run is. rw (same, view) at c.in_ok-run_anew.ensures.kept

pub run_child-returns-clause-labels : goal.run_child-returns-clause-labels
run_child-returns-clause-labels g t c = c.in_ok-run_anew.ensures.labels

pub run_child-returns-in_default-clause-shows : goal.run_child-returns-in_default-clause-shows
run_child-returns-in_default-clause-shows g t c = c.run_subaction.ensures.shows

pub run_child-returns-in_default-clause-labels : goal.run_child-returns-in_default-clause-labels
run_child-returns-in_default-clause-labels g t c = c.run_subaction.ensures.labels

-- ---- runs ahead

pub run_alone-returns : goal.run_alone-returns
run_alone-returns g t c =
    let same : c.in_ok-labels.labels.items ≡ c.args.fork.now.labels.items = search rules in
    let fresh : c.in_ok-view.view ≡ opened c.args.fork.now.state = search rules in
    let made = c.in_ok-of.ensures in
    ran_alone (subaction_view c.args.sibling.child.now) c.args.fork.now.labels.items c.in_ok-labels.labels.items c.args.fork.now.state
    c.in_ok-view.view c.run_subaction.new.view c.in_ok-tried.tried c.in_ok-of.field-0 same fresh c.in_ok-tried.ensures.shows made.tried
    made.entries made.net made.summary

pub run_part-loop-place-init : goal.run_part-loop-place-init
run_part-loop-place-init g t c = record {
  all = rw c.in_ok-runs.ensures.items refl;
  runs = rw c.in_ok-runs.ensures.items tt;
}

pub run_part-returns-clause-all : goal.run_part-returns-clause-all
run_part-returns-clause-all g t c =
    omega (arith, c.loop-place-test.false, c.loop-place.auto.place-end, c.loop-place.invariant.all)

pub run_part-returns-clause-runs : goal.run_part-returns-clause-runs
run_part-returns-clause-runs g t c =
    subst (λ cs. AreRunAhead cs c.args.fork.now.labels.items c.args.fork.now.state c.loop-place.runs.items)
    (take_all c.loop-place.place c.args.children.now (omega (arith, c.loop-place-test.false))) c.loop-place.invariant.runs

pub run_ahead-returns-then-width-lt2-clause-all : goal.run_ahead-returns-then-width-lt2-clause-all
run_ahead-returns-then-width-lt2-clause-all g t c = c.run_part.ensures.all

pub run_ahead-returns-then-width-lt2-clause-runs : goal.run_ahead-returns-then-width-lt2-clause-runs
run_ahead-returns-then-width-lt2-clause-runs g t c = c.run_part.ensures.runs

pub run_if_wide-run_ahead-requires-clause-can : goal.run_if_wide-run_ahead-requires-clause-can
run_if_wide-run_ahead-requires-clause-can g t c κs lives =
    let labels = c.in_ok-fork.ensures.labels c.in-Some.fork c.in-Some.is in
    let state = c.in_ok-fork.ensures.state c.in-Some.fork c.in-Some.is in
    rw (labels, state) c.requires

pub run_if_wide-returns : goal.run_if_wide-returns
run_if_wide-returns g t c =
    let labels = c.in_ok-fork.ensures.labels c.in-Some.fork c.in-Some.is in
    let state = c.in_ok-fork.ensures.state c.in-Some.fork c.in-Some.is in
    rw (labels, state) at c.run_ahead.ensures.runs
