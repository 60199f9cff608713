-- The first blocks are renumbered, and the others are as they were.
use Rattle.std.proofs.Common.{◌≡◌, map}
use Rattle.batch.specs.Views.{block_view}
use Rattle.doc_merge.specs.Renumbered.{new_number, renumbered}
use Rattle.doc_merge.proofs.Mapped.{mapped_to}
use Rattle.doc_merge.proofs.parts.renumber_blocks.Given as goal

abbrev pub invariant-loop-place : goal.invariant-loop-place
invariant-loop-place l =
    map block_view l.blocks.items ≡ mapped_to (renumbered (new_number l.numbers.items.items) (new_number l.numbers.reasons.items)) l.place
    (map block_view l.initial.blocks.items)
