use Rattle.std.proofs.Common.{map, refl, rules, arith, ◌∙◌}
use Rattle.std.proofs.lemmas.List.{length-map}
use Rattle.batch.specs.Views.{block_view}
use Rattle.doc_merge.specs.Renumbered.{new_number, renumbered}
use Rattle.doc_merge.proofs.Mapped.{mapped_whole, view_more}
use Rattle.doc_merge.proofs.parts.renumber_blocks.Goals as goal

pub loop-place-init : goal.loop-place-init
loop-place-init c = refl

pub loop-place-preserved : goal.loop-place-preserved
loop-place-preserved c =
    let change = renumbered (new_number c.args.numbers.now.items.items) (new_number c.args.numbers.now.reasons.items) in
    view_more block_view change c.loop-place.blocks.items (map block_view c.args.blocks.now.items) c.loop-place.place c.index_mut.result.now
    c.renumber_block.new.block (search rules) (search rules) c.loop-place.invariant c.renumber_block.ensures

pub returns : goal.returns
returns c =
    let change = renumbered (new_number c.args.numbers.now.items.items) (new_number c.args.numbers.now.reasons.items) in
    c.loop-place.invariant ∙ mapped_whole change c.loop-place.place (map block_view c.args.blocks.now.items)
    (omega (arith, length-map c.args.blocks.now.items block_view, c.loop-place-test.false, c.len-place-end.ensures))
