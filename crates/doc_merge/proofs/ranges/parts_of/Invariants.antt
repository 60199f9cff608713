-- The parts so far, and then those of what is left, are all.
use Rattle.std.proofs.Common.{◌≡◌, List, ◌++◌, drop, length, map}
use Rattle.doc_merge.specs.Parts.{AreParts}
use Rattle.doc_merge.specs.declared.parts.Part.{Part}
use Rattle.doc_merge.proofs.ranges.parts_of.Given as goal

abbrev pub invariant-loop-blocks : goal.invariant-loop-blocks
invariant-loop-blocks l =
    ((more : List Part) → AreParts (map (λ one. one.items) l.blocks-iterator.rest.items) (map (λ one. one.items) l.items.rest.items)
    (map (λ one. one.items) l.reasons.rest.items) more
    → AreParts (map (λ one. one.items) l.fn.transactions.items) (drop 1 (map (λ one. one.items) l.fn.items.items))
    (drop 1 (map (λ one. one.items) l.fn.reasons.items)) (l.parts.items ++ more))
    × (length l.items.rest.items ≡ length l.blocks-iterator.rest.items)
    × (length l.reasons.rest.items ≡ length l.blocks-iterator.rest.items)
