use Rattle.batch.specs.Views.{block_view, record_view, children_view, all_tried_view}
use Rattle.batch.specs.Left.{left, left_by_children}
use Rattle.batch.proofs.LeftParts.{AreLeft}
use Rattle.batch.proofs.LeftRest.{steps_left, children_left}
use Rattle.batch.proofs.left.+left.Given as goal

abbrev pub invariant-perform_block-loop-place : goal.invariant-perform_block-loop-place
invariant-perform_block-loop-place l =
    AreLeft l.first l.fn.values l.values (left (block_view l.fn.block) (record_view l.fn.done))
    (steps_left l.place l.block.steps.items l.done.taken.items l.done.outcome)

abbrev pub invariant-perform_children-loop-place : goal.invariant-perform_children-loop-place
invariant-perform_children-loop-place l =
    AreLeft l.first l.fn.values l.values (left_by_children (children_view l.fn.children) (all_tried_view l.fn.tried))
    (children_left l.place l.children l.tried)
