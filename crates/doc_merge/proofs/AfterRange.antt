-- A range that was read alone is one that is read after others.
use Rattle.std.proofs.Common.{◌≡◌, ◌≤◌, ◌+◌, List, ◌++◌, length, map, sym, subst, ap, ◌∙◌, append_assoc, arith}
use Rattle.std.proofs.lemmas.List.{length-append, length-map}
use Rattle.json.specs.Token.{Token}
use Rattle.serde_json.specs.Data.{no_items}
use Rattle.serde_json.specs.Events.{items_len}
use Rattle.meaning.specs.Trees.{Block}
use Rattle.doc_rules.specs.Limits.{limits_of}
use Rattle.doc_tree.specs.Places.{seek, transactions_placed}
use Rattle.doc_tree.specs.Scope.{Numbers, Setting, no_numbers}
use Rattle.doc_tree.specs.Spelled.{blocks_of}
use Rattle.doc_tree.proofs.ListLemmas.{in_front, in_front_none}
use Rattle.doc_tokens.specs.Ranges.{AreRead, Reached, behind}
use Rattle.doc_merge.specs.AfterRange.{after_range, nothing_read, numbers_after}
use Rattle.doc_merge.specs.declared.tables.TheConstants.{MOST_TEXTS}
use Rattle.doc_merge.specs.ReadAfter.{IsReadAfter}
use Rattle.doc_merge.specs.Renumbered.{new_number, numbers_in, renumbered}
use Rattle.doc_merge.proofs.Counting.{counts_add_up}
use Rattle.doc_merge.proofs.InFront.{blocks_in_front, length_in_front, met_in_front}
use Rattle.doc_merge.proofs.ReadAfter.{read_after}

-- the blocks of a range by the numbers of these texts
moved : Numbers → Numbers → List Block → List Block
moved all alone blocks = map (renumbered (new_number (numbers_in all.items alone.items))
    (new_number (numbers_in all.reasons alone.reasons)))
    blocks

-- what is read after other texts, from what is read alone
after_is : (base numbers : Numbers) (blocks : List Block) (alone after : List Block × Numbers) → alone ≡ (blocks, numbers)
    → IsReadAfter base alone after → after ≡ (moved (numbers_after base numbers) numbers blocks, numbers_after base numbers)
unfolding moved
after_is base numbers blocks alone after is read =
    let law = subst (λ x. IsReadAfter base x after) is read in
    let texts : after.1 ≡ numbers_after base numbers = λ i. record { items = law.items i; reasons = law.reasons i } in
    let all = law.transactions ∙ ap (λ later. moved later numbers blocks) texts in
    λ i. (all i, texts i)

module _ (setting : Setting) (old new : List Token) (base alone : Reached) (read : AreRead setting old new nothing_read alone) where
  -- The range counts no more than the limits leave, and no more texts than there are numbers.
  pub range_after : base.counts.operations + alone.counts.operations ≤ (limits_of setting.version).operations
      → base.counts.nodes + alone.counts.nodes ≤ (limits_of setting.version).nodes
      → length alone.numbers.items ≤ MOST_TEXTS → length alone.numbers.reasons ≤ MOST_TEXTS
      → AreRead setting old new base (after_range base alone)
  unfolding moved
  range_after few_operations few_nodes few_items few_reasons =
      let es = read.before no_items in
      let n = length base.blocks in
      let after = after_range base alone in
      let blocks = moved after.numbers alone.numbers alone.blocks in
      let first = read.spelled no_items ∙ in_front_none alone.blocks alone.numbers in
      let items = subst (λ (x : List Block × Numbers). length x.1.items ≤ MOST_TEXTS) (sym first) few_items in
      let reasons = subst (λ (x : List Block × Numbers). length x.1.reasons ≤ MOST_TEXTS) (sym first) few_reasons in
      let spelled = after_is base.numbers alone.numbers alone.blocks (blocks_of setting no_numbers es) (blocks_of setting base.numbers es)
      first (read_after setting base.numbers es items reasons) in
      let met = counts_add_up setting n base.counts es alone.counts (few_operations, few_nodes) (read.met no_items) in
      let as_many = read.counted no_items in
      let all : length (base.blocks ++ blocks) ≡ n + length blocks = length-append base.blocks blocks in
      let each : length blocks ≡ length alone.blocks = length-map alone.blocks _ in
      let places : n + items_len es ≡ length (base.blocks ++ blocks) = omega (arith, as_many, all, each) in
      record {
        before = read.before;
        front = read.front;
        reads = read.reads;
        met = λ ds. ap (λ ts. seek base.counts (transactions_placed setting n ts)) (read.front ds)
            ∙ met_in_front setting n es ds base.counts after.counts met
            ∙ ap (λ k. seek after.counts (transactions_placed setting k ds)) places;
        spelled = λ ds.
            (let rest = blocks_of setting after.numbers ds in
            ap (λ ts. behind base.blocks (blocks_of setting base.numbers ts)) (read.front ds)
            ∙ ap (behind base.blocks) (blocks_in_front setting base.numbers es ds)
            ∙ ap (λ (x : List Block × Numbers). behind base.blocks (in_front x.0 (blocks_of setting x.1 ds))) spelled
            ∙ ap (λ bs. (bs, rest.1)) (sym (append_assoc base.blocks blocks rest.0)));
        counted = λ ds. omega (arith, ap items_len (read.front ds), length_in_front es ds, places);
        whole = read.whole;
      }
