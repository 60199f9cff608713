use Rattle.std.proofs.Common.{◌≡◌, [], drop, length, map, refl, subst, sym, ap, ◌∙◌, arith, rules}
use Rattle.std.proofs.lemmas.List.{length-map}
use Rattle.batch.specs.Names.{texts_of}
use Rattle.batch.specs.Views.{block_view}
use Rattle.doc_tokens.specs.Ranges.{reached}
use Rattle.doc_tree.specs.Scope.{numbers_of, setting_of}
use Rattle.doc_merge.specs.Parts.{AreCounted, AreParts, blocks_in, items_of, reasons_of, renumbered_parts}
use Rattle.doc_merge.specs.RangeReads.{AreMerged}
use Rattle.doc_merge.specs.Tables.{AreNumbered, all_merged}
use Rattle.doc_merge.proofs.OwnNumbers.{merged_alone}
use Rattle.doc_merge.proofs.PartLemmas.{in_place}
use Rattle.doc_merge.proofs.RangesTogether.{counted_size, head_numbered, ranges_together, reach, together}
use Rattle.doc_merge.proofs.Together.{numbered_size}
use Rattle.doc_merge.proofs.ranges.merge_ranges.Goals as goal

pub parts_of-requires-clause-items : goal.parts_of-requires-clause-items
parts_of-requires-clause-items g c =
    let split = c.in_ok-split.split in
    let all = c.in_ok-items.items in
    omega (
      arith,
      numbered_size [] _ _ c.in_ok-items.ensures.numbers,
      length-map split.items.items (λ table. texts_of table.keys),
      length-map all.numbers.items (λ one. one.items),
      ap length c.in_ok-split.ensures.items,
      length-map c.args.reads.items items_of,
      ap length c.in_ok-split.ensures.transactions,
      length-map split.transactions.items (λ one. one.items),
      length-map c.args.reads.items (λ read. read.transactions.items),
    )

pub parts_of-requires-clause-reasons : goal.parts_of-requires-clause-reasons
parts_of-requires-clause-reasons g c =
    let split = c.in_ok-split.split in
    let all = c.in_ok-reasons.reasons in
    omega (
      arith,
      numbered_size [] _ _ c.in_ok-reasons.ensures.numbers,
      length-map split.reasons.items (λ table. texts_of table.keys),
      length-map all.numbers.items (λ one. one.items),
      ap length c.in_ok-split.ensures.reasons,
      length-map c.args.reads.items reasons_of,
      ap length c.in_ok-split.ensures.transactions,
      length-map split.transactions.items (λ one. one.items),
      length-map c.args.reads.items (λ read. read.transactions.items),
    )

pub returns-clause-read : goal.returns-clause-read
returns-clause-read g c =
    let reads = c.args.reads.items in
    let setting = setting_of c.args.declared.now in
    let numbers = numbers_of c.args.state.numbering in
    let items = c.in_ok-items.items in
    let reasons = c.in_ok-reasons.reasons in
    let is = map (λ one. one.items) items.numbers.items in
    let rs = map (λ one. one.items) reasons.numbers.items in
    let numbered = subst (λ ts. AreNumbered [] ts is) c.in_ok-split.ensures.items c.in_ok-items.ensures.numbers in
    let reasoned = subst (λ ts. AreNumbered [] ts rs) c.in_ok-split.ensures.reasons c.in_ok-reasons.ensures.numbers in
    let own_items = merged_alone c.args.state.numbering.items.keys c.len.ensures.unique in
    let own_reasons = merged_alone c.args.state.numbering.reasons.keys c.len-2.ensures.unique in
    let parts = c.in_ok-parts.parts in
    let new = c.renumber_parts.new.parts in
    let old : c.deref_mut.result.now ≡ parts.items = search rules in
    let kept = in_place parts.len parts.items new (search rules) in
    let blocks = c.in_ok-transactions.ensures ∙ ap blocks_in kept ∙ c.renumber_parts.ensures ∙ ap renumbered_parts old in
    let are = subst (λ bs. AreParts bs (drop 1 is) (drop 1 rs) parts.items) c.in_ok-split.ensures.transactions c.in_ok-parts.ensures in
    let all : c.deref.result.now ≡ reads = search rules in
    let counted = subst (λ rds. AreCounted setting.version 0 c.args.state.counts rds c.count_ranges.new.counts) all
    c.in_ok-count_ranges.ensures in
    let through = ranges_together setting reads 0 c.args.state.counts c.count_ranges.new.counts numbers [] (drop 1 is) (drop 1 rs)
    parts.items refl counted
    (head_numbered numbers.items (map items_of reads) is own_items numbered)
    (head_numbered numbers.reasons (map reasons_of reads) rs own_reasons reasoned) are in
    let named : together numbers reads ≡ record { items = texts_of items.texts.items; reasons = texts_of reasons.texts.items } = λ i.
    record {
      items = sym (c.in_ok-items.ensures.texts ∙ ap (all_merged []) c.in_ok-split.ensures.items
          ∙ ap (λ t. all_merged t (map items_of reads)) own_items) i;
      reasons = sym (c.in_ok-reasons.ensures.texts ∙ ap (all_merged []) c.in_ok-split.ensures.reasons
          ∙ ap (λ t. all_merged t (map reasons_of reads)) own_reasons) i;
    } in
    subst (AreMerged setting reads (reached c.args.state []))
    (λ i. reach c.count_ranges.new.counts (named i) (sym blocks i)) through

pub returns-clause-few : goal.returns-clause-few
returns-clause-few g c =
    let parts = c.in_ok-parts.parts in
    let new = c.renumber_parts.new.parts in
    let old : c.deref_mut.result.now ≡ parts.items = search rules in
    let kept = in_place parts.len parts.items new (search rules) in
    let blocks = c.in_ok-transactions.ensures ∙ ap blocks_in kept ∙ c.renumber_parts.ensures ∙ ap renumbered_parts old in
    let is = drop 1 (map (λ one. one.items) c.in_ok-items.items.numbers.items) in
    let rs = drop 1 (map (λ one. one.items) c.in_ok-reasons.reasons.numbers.items) in
    let are = subst (λ bs. AreParts bs is rs parts.items) c.in_ok-split.ensures.transactions c.in_ok-parts.ensures in
    let all : c.deref.result.now ≡ c.args.reads.items = search rules in
    let counted = subst (λ rds. AreCounted c.args.declared.now.version 0 c.args.state.counts rds c.count_ranges.new.counts) all
    c.in_ok-count_ranges.ensures in
    let few = counted_size c.args.declared.now.version c.args.reads.items 0 c.args.state.counts c.count_ranges.new.counts is rs parts.items
    counted are (omega arith) in
    omega (arith, few, ap length blocks, length-map c.in_ok-transactions.transactions.items block_view)
