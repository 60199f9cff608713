use Rattle.std.proofs.Common.{◌≡◌, length, map, sym, ap, ◌∙◌, rules}
use Rattle.batch.specs.Views.{block_view}
use Rattle.doc_merge.specs.Parts.{renumbered_part}
use Rattle.doc_merge.proofs.PartLemmas.{all_renumbered}
use Rattle.doc_merge.proofs.parts.renumber_parts.Goals as goal

pub returns : goal.returns
returns g c =
    let new = c.for_each_mut.new.s in
    let size : length new ≡ length c.args.parts.now = search rules in
    all_renumbered c.args.parts.now new size (λ i d below.
    let change = (c.for_each_mut.ensures i d below).1 in
    ap (λ part. map block_view part.blocks.items) (sym change.left) ∙ change.call ∙ ap renumbered_part change.argument_is)
