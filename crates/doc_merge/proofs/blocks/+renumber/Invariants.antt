use Rattle.std.proofs.Common.{◌≡◌, map}
use Rattle.batch.specs.Views.{handler_view, step_view, subaction_view}
use Rattle.doc_merge.specs.Renumbered.{new_number, renumbered_member, renumbered_step, renumbered_tried}
use Rattle.doc_merge.proofs.Mapped.{mapped_to}
use Rattle.doc_merge.proofs.blocks.+renumber.Given as goal

abbrev pub invariant-renumber_children-loop-place : goal.invariant-renumber_children-loop-place
invariant-renumber_children-loop-place l = goal.unvisited-renumber_children-loop-place l
    × (map subaction_view l.children.items ≡ mapped_to (renumbered_tried
    (new_number l.numbers.items.items) (new_number l.numbers.reasons.items)) l.place (map subaction_view l.initial.children.items))

abbrev pub invariant-renumber_handlers-loop-place : goal.invariant-renumber_handlers-loop-place
invariant-renumber_handlers-loop-place l = goal.unvisited-renumber_handlers-loop-place l
    × (map handler_view l.handlers.items ≡ mapped_to (renumbered_member
    (new_number l.numbers.items.items) (new_number l.numbers.reasons.items)) l.place (map handler_view l.initial.handlers.items))

abbrev pub invariant-renumber_steps-loop-place : goal.invariant-renumber_steps-loop-place
invariant-renumber_steps-loop-place l = goal.unvisited-renumber_steps-loop-place l
    × (map step_view l.steps.items ≡ mapped_to (renumbered_step
    (new_number l.numbers.items.items) (new_number l.numbers.reasons.items)) l.place (map step_view l.initial.steps.items))
