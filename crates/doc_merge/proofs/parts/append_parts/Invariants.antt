use Rattle.std.proofs.Common.{◌≡◌, ◌++◌, map}
use Rattle.batch.specs.Views.{block_view}
use Rattle.doc_merge.specs.Parts.{blocks_in}
use Rattle.doc_merge.proofs.parts.append_parts.Given as goal

-- the blocks so far, and those of the ranges that are left
abbrev pub invariant-loop-part : goal.invariant-loop-part
invariant-loop-part l = map block_view l.blocks.items ++ blocks_in l.part-iterator.rest.items ≡ blocks_in l.fn.parts.items
