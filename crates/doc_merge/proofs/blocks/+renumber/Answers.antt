use Rattle.std.proofs.Common.{map, refl, rules, arith, ◌∙◌, ap, sym}
use Rattle.std.proofs.lemmas.List.{length-map}
use Rattle.batch.specs.Views.{block_view, filling_view, handler_view, step_view, subaction_view}
use Rattle.doc_merge.specs.Renumbered.{new_number, renumbered, renumbered_member, renumbered_step, renumbered_tried}
use Rattle.doc_merge.proofs.Mapped.{mapped_whole, view_more}
use Rattle.doc_merge.proofs.RenumberedBlocks.{fill_again, if_again, parallel_again, steps_again, sub_again, subaction_again}
use Rattle.batch.specs.Views.{steps_of}
use Rattle.batch.specs.declared.tree.Step.{the_lemmas}
use Rattle.batch.proofs.ViewLemmas.{block_view-is, step_view-Op, step_view-Abort}
use Rattle.doc_merge.proofs.blocks.+renumber.Goals as goal
use Rattle.doc_merge.proofs.blocks.+renumber.Goals.{renumber_step-in-Op, renumber_step-in-Fill, renumber_step-in-If, renumber_step-in-Sub}
use Rattle.doc_merge.proofs.blocks.+renumber.Goals.{renumber_step-in-Abort, renumber_step-in-Parallel}

pub renumber_children-loop-place-init : goal.renumber_children-loop-place-init
renumber_children-loop-place-init t c = (search rules, refl)

pub renumber_children-loop-place-preserved : goal.renumber_children-loop-place-preserved
renumber_children-loop-place-preserved t c =
    let change = renumbered_tried (new_number c.args.numbers.now.items.items) (new_number c.args.numbers.now.reasons.items) in (
      search rules,
      view_more subaction_view change c.loop-place.children.items (map subaction_view c.args.children.now.items) c.loop-place.place
          c.index_mut.result.now
          c.renumber_subaction.new.child (search rules) (search rules) c.loop-place.invariant.1 c.renumber_subaction.ensures,
    )

pub renumber_children-returns : goal.renumber_children-returns
renumber_children-returns t c =
    let change = renumbered_tried (new_number c.args.numbers.now.items.items) (new_number c.args.numbers.now.reasons.items) in
    c.loop-place.invariant.1 ∙ mapped_whole change c.loop-place.place (map subaction_view c.args.children.now.items)
    (omega (arith, length-map c.args.children.now.items subaction_view, c.loop-place-test.false, c.len-place-end.ensures))

pub renumber_handlers-loop-place-init : goal.renumber_handlers-loop-place-init
renumber_handlers-loop-place-init t c = (search rules, refl)

pub renumber_handlers-loop-place-preserved : goal.renumber_handlers-loop-place-preserved
renumber_handlers-loop-place-preserved t c =
    let change = renumbered_member (new_number c.args.numbers.now.items.items) (new_number c.args.numbers.now.reasons.items) in (
      search rules,
      view_more handler_view change c.loop-place.handlers.items (map handler_view c.args.handlers.now.items) c.loop-place.place
          c.index_mut.result.now
          c.renumber_handler.new.handler (search rules) (search rules) c.loop-place.invariant.1 c.renumber_handler.ensures,
    )

pub renumber_handlers-returns : goal.renumber_handlers-returns
renumber_handlers-returns t c =
    let change = renumbered_member (new_number c.args.numbers.now.items.items) (new_number c.args.numbers.now.reasons.items) in
    c.loop-place.invariant.1 ∙ mapped_whole change c.loop-place.place (map handler_view c.args.handlers.now.items)
    (omega (arith, length-map c.args.handlers.now.items handler_view, c.loop-place-test.false, c.len-place-end.ensures))

pub renumber_steps-loop-place-init : goal.renumber_steps-loop-place-init
renumber_steps-loop-place-init t c = (search rules, refl)

pub renumber_steps-loop-place-preserved : goal.renumber_steps-loop-place-preserved
renumber_steps-loop-place-preserved t c =
    let change = renumbered_step (new_number c.args.numbers.now.items.items) (new_number c.args.numbers.now.reasons.items) in (
      search rules,
      view_more step_view change c.loop-place.steps.items (map step_view c.args.steps.now.items) c.loop-place.place c.index_mut.result.now
          c.renumber_step.new.step (search rules) (search rules) c.loop-place.invariant.1 c.renumber_step.ensures,
    )

pub renumber_steps-returns : goal.renumber_steps-returns
renumber_steps-returns t c =
    let change = renumbered_step (new_number c.args.numbers.now.items.items) (new_number c.args.numbers.now.reasons.items) in
    c.loop-place.invariant.1 ∙ mapped_whole change c.loop-place.place (map step_view c.args.steps.now.items)
    (omega (arith, length-map c.args.steps.now.items step_view, c.loop-place-test.false, c.len-place-end.ensures))

pub renumber_block-returns : goal.renumber_block-returns
renumber_block-returns t c =
    let items = new_number c.args.numbers.now.items.items in
    let reasons = new_number c.args.numbers.now.reasons.items in
    block_view-is _ ∙ ap steps_of c.renumber_steps.ensures ∙ steps_again items reasons (map step_view c.args.block.now.steps.items)
    ∙ ap (renumbered items reasons) (sym (block_view-is c.args.block.now))

pub renumber_subaction-returns : goal.renumber_subaction-returns
renumber_subaction-returns t c =
    let items = new_number c.args.numbers.now.items.items in
    let reasons = new_number c.args.numbers.now.reasons.items in
    subaction_again items reasons c.args.child.now _ (search (rules, the_lemmas)) (search (rules, the_lemmas))
    (search (rules, the_lemmas)) (search (rules, the_lemmas))

pub renumber_step-returns : goal.renumber_step-returns
renumber_step-returns t c =
    let items = new_number c.args.numbers.now.items.items in
    let reasons = new_number c.args.numbers.now.reasons.items in
    elim c.match-replace.branch [
      | renumber_step-in-Op w ↦ search (rules, step_view-Op)
      | renumber_step-in-Fill w ↦ ap step_view w.t-19-is
          ∙ fill_again items reasons w.in-Fill.filling _
          (w.renumber_filling.ensures ∙ ap (λ f. renumbered_step items reasons (filling_view f)) w.deref_mut.ensures.value)
          ∙ ap (λ s. renumbered_step items reasons (step_view s)) (sym w.in-Fill.is ∙ c.replace.ensures.value)
      | renumber_step-in-If w ↦ ap step_view w.t-19-is
          ∙ if_again items reasons w.in-If.label w.in-If.test _ w.in-If.then w.in-If.otherwise _ _ w.renumbered_test.ensures
          (w.renumber_block.ensures ∙ ap (λ b. renumbered items reasons (block_view b)) w.deref_mut-in-If.ensures.value)
          (w.renumber_block-in-If.ensures ∙ ap (λ b. renumbered items reasons (block_view b)) w.deref_mut-in-If-2.ensures.value)
          ∙ ap (λ s. renumbered_step items reasons (step_view s)) (sym w.in-If.is ∙ c.replace.ensures.value)
      | renumber_step-in-Sub w ↦ ap step_view w.t-19-is
          ∙ sub_again items reasons w.in-Sub.child _
          (w.renumber_subaction.ensures ∙ ap (λ s. renumbered_tried items reasons (subaction_view s)) w.deref_mut-in-Sub.ensures.value)
          ∙ ap (λ s. renumbered_step items reasons (step_view s)) (sym w.in-Sub.is ∙ c.replace.ensures.value)
      | renumber_step-in-Abort w ↦ search (rules, step_view-Abort)
      | renumber_step-in-Parallel w ↦ ap step_view w.t-19-is
          ∙ parallel_again items reasons w.in-Parallel.children _ w.renumber_children.ensures
          ∙ ap (λ s. renumbered_step items reasons (step_view s)) (sym w.in-Parallel.is ∙ c.replace.ensures.value)
    ]
