use Rattle.std.proofs.Common.{◌≡◌, [], map, sym, ◌∙◌, rules}
use Rattle.batch.specs.Views.{block_view}
use Rattle.doc_merge.specs.Renumbered.{new_number, renumbered}
use Rattle.doc_merge.proofs.Unchanged.{blocks_stay}
use Rattle.doc_merge.proofs.parts.renumber_part.Goals as goal

pub returns-else-not-are_none : goal.returns-else-not-are_none
returns-else-not-are_none c =
    let part = c.args.part.now in
    let blocks = map block_view part.blocks.items in
    let items : part.numbers.items.items ≡ [] = search rules in
    let reasons : part.numbers.reasons.items ≡ [] = search rules in
    sym ((λ i. map (renumbered (new_number (items i)) (new_number (reasons i))) blocks) ∙ blocks_stay blocks)
