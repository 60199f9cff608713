use Rattle.std.proofs.Common.{◌<◌, ◌≤◌, [], length, sym, ap, subst, arith}
use Rattle.std.specs.Prelude.{option_copied}
use Rattle.objects.specs.Parts.{ArePerformedOn, CanPerformOn}
use Rattle.objects.proofs.PartLemmas.{can-fits, can-room, performed-none}
use Rattle.batch.specs.declared.tree.Step.{size-Step}
use Rattle.batch.specs.declared.tree.Subaction.{size-Subaction}
use Rattle.batch.specs.Views.{block_view, subaction_view}
use Rattle.batch.proofs.SizeLemmas.{among-most, steps-are_smaller, children-are_smaller}
use Rattle.batch.proofs.ViewLemmas.{step_view-Op, step_view-Fill, step_view-Parallel, taken_view-Op, taken_view-Filled, taken_view-Parallel}
use Rattle.batch.proofs.LeftParts.{are_left-start, are_left-can, are_left-more, are_left-end}
use Rattle.batch.proofs.LeftRest.{steps_left-start, steps_left-more, steps_left-no_step, steps_left-end, children_left-start}
use Rattle.batch.proofs.LeftRest.{children_left-more, children_left-no_child, children_left-end, transaction_left-ended}
use Rattle.batch.proofs.LeftRest.{transaction_left-aborted, child_left-handled}
use Rattle.batch.proofs.left.+left.Goals as goal

-- ---- a transaction

pub perform_left-perform_block-requires : goal.perform_left-perform_block-requires
perform_left-perform_block-requires t c =
    let is = transaction_left-ended (block_view c.args.block.now) c.args.done.now c.in-Ended.is in (
      omega (arith, c.decreases),
      subst (CanPerformOn c.args.first c.args.values.now) is c.requires,
    )

pub perform_left-returns-in_ok-perform_block-in-Ended : goal.perform_left-returns-in_ok-perform_block-in-Ended
perform_left-returns-in_ok-perform_block-in-Ended t c =
    rw (transaction_left-ended (block_view c.args.block.now) c.args.done.now c.in-Ended.is) c.in_ok-perform_block-in-Ended.ensures

pub perform_left-returns-in-Aborted : goal.perform_left-returns-in-Aborted
perform_left-returns-in-Aborted t c =
    subst (ArePerformedOn c.args.first c.args.values.now c.args.values.now)
    (sym (transaction_left-aborted (block_view c.args.block.now) c.args.done.now c.in-Aborted.field-0 c.in-Aborted.is))
    (performed-none c.args.first c.args.values.now)

-- ---- steps one after the other

pub perform_block-loop-place-init : goal.perform_block-loop-place-init
perform_block-loop-place-init t c = are_left-start _ _ _ _ c.requires (steps_left-start c.args.block.now c.args.done.now)

pub perform_block-perform_step-requires : goal.perform_block-perform_step-requires
perform_block-perform_step-requires t c =
    let taken = c.args.done.now.taken in
    let lt = rw c.deref-step-items.ensures.value at c.loop-place-test.true in
    let is = rw c.deref-step-items.ensures.value at c.step-item.is in
    let lt' : c.loop-place.place < length taken.items = omega (arith, c.if-place-len.false, c.len.ensures, taken.ok.0) in
    let more = steps_left-more c.loop-place.place _ taken.items c.args.done.now.outcome _ _ lt is lt' c.index.ensures in (
      omega (arith, among-most size-Step _ _ _ lt is, steps-are_smaller c.args.block.now, c.decreases),
      are_left-can _ _ _ _ _ _ _ c.loop-place.invariant more,
    )

pub perform_block-loop-place-preserved : goal.perform_block-loop-place-preserved
perform_block-loop-place-preserved t c =
    let taken = c.args.done.now.taken in
    let lt = rw c.deref-step-items.ensures.value at c.loop-place-test.true in
    let is = rw c.deref-step-items.ensures.value at c.step-item.is in
    let lt' : c.loop-place.place < length taken.items = omega (arith, c.if-place-len.false, c.len.ensures, taken.ok.0) in
    let more = steps_left-more c.loop-place.place _ taken.items c.args.done.now.outcome _ _ lt is lt' c.index.ensures in
    are_left-more _ _ _ _ _ _ _ _ c.loop-place.invariant more c.in_ok-perform_step.ensures

pub perform_block-returns-then-place-len : goal.perform_block-returns-then-place-len
perform_block-returns-then-place-len t c =
    let taken = c.args.done.now.taken in
    let le : length taken.items ≤ c.loop-place.place = omega (arith, c.if-place-len.true, c.len.ensures, taken.ok.0) in
    are_left-end _ _ _ _ _ c.loop-place.invariant (steps_left-end _ _ _ _ le)

pub perform_block-returns : goal.perform_block-returns
perform_block-returns t c =
    let le = rw c.deref-step-items.ensures.value at c.loop-place-test.false in
    are_left-end _ _ _ _ _ c.loop-place.invariant (steps_left-no_step _ _ _ _ le)

-- ---- a subaction

pub perform_child-perform_handler-requires : goal.perform_child-perform_handler-requires
perform_child-perform_handler-requires t c = (
  omega (arith, c.decreases),
  rw (child_left-handled (subaction_view c.args.child.now) c.args.body.now (option_copied c.args.handler) c.in-Some.handler.now
      (ap option_copied c.in-Some.is)) at c.requires,
)

pub perform_child-returns-in-Some : goal.perform_child-returns-in-Some
perform_child-returns-in-Some t c =
    rw (child_left-handled (subaction_view c.args.child.now) c.args.body.now (option_copied c.args.handler) c.in-Some.handler.now
    (ap option_copied c.in-Some.is)) c.perform_handler.ensures

-- ---- children one after the other

pub perform_children-loop-place-init : goal.perform_children-loop-place-init
perform_children-loop-place-init t c = are_left-start _ _ _ _ c.requires (children_left-start c.args.children.now c.args.tried.now)

pub perform_children-perform_child-requires : goal.perform_children-perform_child-requires
perform_children-perform_child-requires t c =
    let more = children_left-more c.loop-place.place c.args.children.now c.args.tried.now _ _ c.loop-place-test.true
    c.index-children-place.is c.if-place-tried.false c.index-tried-place.is in (
      omega (arith, among-most size-Subaction _ _ _ c.loop-place-test.true c.index-children-place.is, c.decreases),
      rw c.as_ref.ensures.value (are_left-can _ _ _ _ _ _ _ c.loop-place.invariant more),
    )

pub perform_children-loop-place-preserved : goal.perform_children-loop-place-preserved
perform_children-loop-place-preserved t c =
    let more = children_left-more c.loop-place.place c.args.children.now c.args.tried.now _ _ c.loop-place-test.true
    c.index-children-place.is c.if-place-tried.false c.index-tried-place.is in
    are_left-more _ _ _ _ _ _ _ _ c.loop-place.invariant more (rw c.as_ref.ensures.value at c.in_ok-perform_child.ensures)

pub perform_children-returns-then-place-tried : goal.perform_children-returns-then-place-tried
perform_children-returns-then-place-tried t c =
    are_left-end _ _ _ _ _ c.loop-place.invariant (children_left-end _ _ _ c.if-place-tried.true)

pub perform_children-returns : goal.perform_children-returns
perform_children-returns t c = are_left-end _ _ _ _ _ c.loop-place.invariant (children_left-no_child _ _ _ c.loop-place-test.false)

-- ---- one step

pub perform_step-perform_on-requires-clause-fits : goal.perform_step-perform_on-requires-clause-fits
perform_step-perform_on-requires-clause-fits t c =
    can-fits c.args.first c.args.values.now _ [] (rw (c.in-Op-Op.is-0, c.in-Op-Op.is-1, step_view-Op, taken_view-Op) at c.requires)

pub perform_step-perform_on-requires-clause-room : goal.perform_step-perform_on-requires-clause-room
perform_step-perform_on-requires-clause-room t c =
    can-room c.args.first c.args.values.now _ [] (rw (c.in-Op-Op.is-0, c.in-Op-Op.is-1, step_view-Op, taken_view-Op) at c.requires)

pub perform_step-perform_on-requires-in-Fill-Filled-clause-fits : goal.perform_step-perform_on-requires-in-Fill-Filled-clause-fits
perform_step-perform_on-requires-in-Fill-Filled-clause-fits t c =
    rw (c.deref.ensures, c.deref-in-Fill-Filled.ensures) (can-fits c.args.first c.args.values.now _ []
    (rw (c.in-Fill-Filled.is-0, c.in-Fill-Filled.is-1, step_view-Fill, taken_view-Filled) at c.requires))

pub perform_step-perform_on-requires-in-Fill-Filled-clause-room : goal.perform_step-perform_on-requires-in-Fill-Filled-clause-room
perform_step-perform_on-requires-in-Fill-Filled-clause-room t c =
    rw (c.deref.ensures, c.deref-in-Fill-Filled.ensures) (can-room c.args.first c.args.values.now _ []
    (rw (c.in-Fill-Filled.is-0, c.in-Fill-Filled.is-1, step_view-Fill, taken_view-Filled) at c.requires))

pub perform_step-perform_children-requires : goal.perform_step-perform_children-requires
perform_step-perform_children-requires t c =
    let can = rw (c.in-Parallel-Parallel.is-0, c.in-Parallel-Parallel.is-1, step_view-Parallel, taken_view-Parallel) at c.requires in
    let smaller = children-are_smaller c.args.step.now c.in-Parallel-Parallel.children c.in-Parallel-Parallel.is-0 in
    rw (c.deref-in-Parallel-Parallel.ensures.value, c.deref-in-Parallel-Parallel-2.ensures.value)
    (omega (arith, smaller, c.decreases), can)

pub perform_step-returns-in_ok-perform_children-in-Parallel-Parallel :
    goal.perform_step-returns-in_ok-perform_children-in-Parallel-Parallel
perform_step-returns-in_ok-perform_children-in-Parallel-Parallel t c =
    rw (c.in-Parallel-Parallel.is-0, c.in-Parallel-Parallel.is-1, step_view-Parallel, taken_view-Parallel)
    (rw (c.deref-in-Parallel-Parallel.ensures.value, c.deref-in-Parallel-Parallel-2.ensures.value)
    at c.in_ok-perform_children-in-Parallel-Parallel.ensures)
