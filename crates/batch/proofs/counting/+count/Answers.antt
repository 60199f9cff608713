use Rattle.std.proofs.Common.{◌≡◌, ◌∙◌, arith, sym}
use Rattle.batch.specs.declared.tree.Step.{size-Step}
use Rattle.batch.specs.declared.tree.Handler.{size-Handler}
use Rattle.batch.specs.declared.tree.Subaction.{size-Subaction}
use Rattle.batch.proofs.SizeLemmas.{among-most, block-is_smaller, handlers-are_smaller, last-is_smaller}
use Rattle.batch.proofs.CountLemmas.{otherwise_operations-Run, otherwise_operations-GoOn, otherwise_operations-Pass, rest_of_steps-start}
use Rattle.batch.proofs.CountLemmas.{rest_of_steps-more, rest_of_steps-end, rest_of_children-start, rest_of_children-more}
use Rattle.batch.proofs.CountLemmas.{rest_of_children-end, rest_of_handlers-start, rest_of_handlers-more, rest_of_handlers-end}
use Rattle.batch.proofs.CountLemmas.{operations_of-parts}
use Rattle.meaning.specs.WellFormed.{operations_of_handlers}
use Rattle.batch.specs.Views.{otherwise_view}
use Rattle.batch.specs.declared.tree.Subaction.{out-Subaction}
use Rattle.batch.proofs.counting.+count.Goals as goal
use Rattle.batch.proofs.counting.+count.Goals.{operations_in_subaction-in-Run, operations_in_subaction-in-GoOn}
use Rattle.batch.proofs.counting.+count.Goals.{operations_in_subaction-in-Pass}

-- ---- steps

pub operations_in_steps-loop-step-init : goal.operations_in_steps-loop-step-init
operations_in_steps-loop-step-init t c = let all = rest_of_steps-start c.args.steps.now in omega (arith, all)

pub operations_in_steps-operations_in_step-count-requires : goal.operations_in_steps-operations_in_step-count-requires
operations_in_steps-operations_in_step-count-requires t c =
    let more = rest_of_steps-more c.loop-step.step-index _ _ c.loop-step-test.true c.step-item.is in (
      omega (arith, among-most size-Step _ _ _ c.loop-step-test.true c.step-item.is, c.decreases),
      omega (arith, more, c.loop-step.invariant, c.requires),
    )

pub operations_in_steps-overflow_add-count : goal.operations_in_steps-overflow_add-count
operations_in_steps-overflow_add-count t c =
    let more = rest_of_steps-more c.loop-step.step-index _ _ c.loop-step-test.true c.step-item.is in
    omega (arith, more, c.loop-step.invariant, c.requires, c.operations_in_step-count.ensures)

pub operations_in_steps-loop-step-preserved : goal.operations_in_steps-loop-step-preserved
operations_in_steps-loop-step-preserved t c =
    let more = rest_of_steps-more c.loop-step.step-index _ _ c.loop-step-test.true c.step-item.is in
    omega (arith, more, c.loop-step.invariant, c.operations_in_step-count.ensures)

pub operations_in_steps-returns : goal.operations_in_steps-returns
operations_in_steps-returns t c = let ended = rest_of_steps-end _ _ c.loop-step-test.false in omega (arith, c.loop-step.invariant, ended)

-- ---- children

pub operations_in_children-loop-child-init : goal.operations_in_children-loop-child-init
operations_in_children-loop-child-init t c = let all = rest_of_children-start c.args.children.now in omega (arith, all)

pub operations_in_children-operations_in_subaction-count-requires : goal.operations_in_children-operations_in_subaction-count-requires
operations_in_children-operations_in_subaction-count-requires t c =
    let more = rest_of_children-more c.loop-child.child-index _ _ c.loop-child-test.true c.child-item.is in (
      omega (arith, among-most size-Subaction _ _ _ c.loop-child-test.true c.child-item.is, c.decreases),
      omega (arith, more, c.loop-child.invariant, c.requires),
    )

pub operations_in_children-overflow_add-count : goal.operations_in_children-overflow_add-count
operations_in_children-overflow_add-count t c =
    let more = rest_of_children-more c.loop-child.child-index _ _ c.loop-child-test.true c.child-item.is in
    omega (arith, more, c.loop-child.invariant, c.requires, c.operations_in_subaction-count.ensures)

pub operations_in_children-loop-child-preserved : goal.operations_in_children-loop-child-preserved
operations_in_children-loop-child-preserved t c =
    let more = rest_of_children-more c.loop-child.child-index _ _ c.loop-child-test.true c.child-item.is in
    omega (arith, more, c.loop-child.invariant, c.operations_in_subaction-count.ensures)

pub operations_in_children-returns : goal.operations_in_children-returns
operations_in_children-returns t c = let ended = rest_of_children-end _ _ c.loop-child-test.false in
    omega (arith, c.loop-child.invariant, ended)

-- ---- handlers

pub operations_in_handlers-loop-handler-init : goal.operations_in_handlers-loop-handler-init
operations_in_handlers-loop-handler-init t c = let all = rest_of_handlers-start c.args.handlers.now in omega (arith, all)

pub operations_in_handlers-operations_in-count-requires : goal.operations_in_handlers-operations_in-count-requires
operations_in_handlers-operations_in-count-requires t c =
    let more = rest_of_handlers-more c.loop-handler.handler-index _ _ c.loop-handler-test.true c.handler-item.is in (
      omega (
        arith,
        block-is_smaller c.handler-item.result,
        among-most size-Handler _ _ _ c.loop-handler-test.true c.handler-item.is,
        c.decreases,
      ),
      omega (arith, more, c.loop-handler.invariant, c.requires),
    )

pub operations_in_handlers-overflow_add-count : goal.operations_in_handlers-overflow_add-count
operations_in_handlers-overflow_add-count t c =
    let more = rest_of_handlers-more c.loop-handler.handler-index _ _ c.loop-handler-test.true c.handler-item.is in
    omega (arith, more, c.loop-handler.invariant, c.requires, c.operations_in-count.ensures)

pub operations_in_handlers-loop-handler-preserved : goal.operations_in_handlers-loop-handler-preserved
operations_in_handlers-loop-handler-preserved t c =
    let more = rest_of_handlers-more c.loop-handler.handler-index _ _ c.loop-handler-test.true c.handler-item.is in
    omega (arith, more, c.loop-handler.invariant, c.operations_in-count.ensures)

pub operations_in_handlers-returns : goal.operations_in_handlers-returns
operations_in_handlers-returns t c = let ended = rest_of_handlers-end _ _ c.loop-handler-test.false in
    omega (arith, c.loop-handler.invariant, ended)

-- ---- a subaction

pub operations_in_subaction-operations_in_handlers-by_reason-requires :
    goal.operations_in_subaction-operations_in_handlers-by_reason-requires
operations_in_subaction-operations_in_handlers-by_reason-requires t c =
    let parts = operations_of-parts c.args.child.now in
    let smaller = handlers-are_smaller c.args.child.now in
    rw c.deref.ensures.value (omega (arith, smaller, c.decreases), omega (arith, parts, c.requires))

pub operations_in_subaction-operations_in-last-requires : goal.operations_in_subaction-operations_in-last-requires
operations_in_subaction-operations_in-last-requires t c =
    let parts = operations_of-parts c.args.child.now in
    let some = otherwise_operations-Run c.args.child.now c.in-Run.block c.in-Run.is in
    let smaller = last-is_smaller c.args.child.now c.in-Run.block c.in-Run.is in
    (omega (arith, smaller, c.decreases), omega (arith, parts, some, c.requires))

pub operations_in_subaction-overflow_add-result : goal.operations_in_subaction-overflow_add-result
operations_in_subaction-overflow_add-result t c =
    let parts = operations_of-parts c.args.child.now in
    let first = rw c.deref.ensures.value at c.operations_in_handlers-by_reason.ensures in
    omega (arith, parts, first, c.requires, c.operations_in-body.ensures)

pub operations_in_subaction-overflow_add-result-2 : goal.operations_in_subaction-overflow_add-result-2
operations_in_subaction-overflow_add-result-2 t c =
    let parts = operations_of-parts c.args.child.now in
    let first = rw c.deref.ensures.value at c.operations_in_handlers-by_reason.ensures in
    let last : c.match-child.last ≡ operations_of_handlers (otherwise_view (out-Subaction c.args.child.now).otherwise) =
    elim c.match-child.branch [
      | operations_in_subaction-in-Run w ↦
          w.last-is ∙ w.operations_in-last.ensures ∙ sym (otherwise_operations-Run _ w.in-Run.block w.in-Run.is)
      | operations_in_subaction-in-GoOn w ↦ w.last-is ∙ sym (otherwise_operations-GoOn _ w.in-GoOn.is)
      | operations_in_subaction-in-Pass w ↦ w.last-is ∙ sym (otherwise_operations-Pass _ w.in-Pass.is)
    ] in
    omega (arith, parts, first, last, c.requires, c.operations_in-body.ensures)

pub operations_in_subaction-returns : goal.operations_in_subaction-returns
operations_in_subaction-returns t c =
    let parts = operations_of-parts c.args.child.now in
    let first = rw c.deref.ensures.value at c.operations_in_handlers-by_reason.ensures in
    let last : c.match-child.last ≡ operations_of_handlers (otherwise_view (out-Subaction c.args.child.now).otherwise) =
    elim c.match-child.branch [
      | operations_in_subaction-in-Run w ↦
          w.last-is ∙ w.operations_in-last.ensures ∙ sym (otherwise_operations-Run _ w.in-Run.block w.in-Run.is)
      | operations_in_subaction-in-GoOn w ↦ w.last-is ∙ sym (otherwise_operations-GoOn _ w.in-GoOn.is)
      | operations_in_subaction-in-Pass w ↦ w.last-is ∙ sym (otherwise_operations-Pass _ w.in-Pass.is)
    ] in
    omega (arith, parts, first, last, c.operations_in-body.ensures)
