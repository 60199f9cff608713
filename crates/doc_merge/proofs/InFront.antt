-- Transactions in front of others.
use Rattle.std.proofs.Common.{◌≡◌, ℕ, suc, ◌+◌, List, [], ◌∷◌, Result, Ok, Err, refl, ap, ◌∙◌, arith}
use Rattle.serde_json.specs.Data.{Items, no_items, item}
use Rattle.serde_json.specs.Events.{items_len}
use Rattle.meaning.specs.Trees.{Block}
use Rattle.meaning.specs.declared.limits.TheConstants.{MAX_DEPTH}
use Rattle.doc_tree.specs.Places.{Found, below, go_on, item_at, seek, transaction_placed, transactions_placed}
use Rattle.doc_tree.specs.Scope.{Numbers, Setting}
use Rattle.doc_tree.specs.Spelled.{block_of, blocks_of}
use Rattle.doc_tree.specs.declared.counts.Counts.{Counts}
use Rattle.doc_tree.proofs.PlaceLemmas.{part_met}
use Rattle.doc_tree.proofs.ListLemmas as lists
use Rattle.doc_tokens.specs.Ranges.{in_front}

-- as many as both
pub length_in_front : (es ds : Items) → items_len (in_front es ds) ≡ items_len es + items_len ds
length_in_front no_items ds = omega arith
length_in_front (item e es) ds = omega (arith, length_in_front es ds)

module _ (setting : Setting) where
  -- the blocks of the first, and then those of the others
  pub blocks_in_front : (numbers : Numbers) (es ds : Items) → blocks_of setting numbers (in_front es ds)
      ≡ lists.in_front (blocks_of setting numbers es).0 (blocks_of setting (blocks_of setting numbers es).1 ds)
  blocks_in_front numbers no_items ds = refl
  blocks_in_front numbers (item e es) ds =
      let here = block_of setting MAX_DEPTH [] numbers e in
      ap (λ (rest : List Block × Numbers). (here.0 ∷ rest.0, rest.1)) (blocks_in_front here.1 es ds)

  -- where the demands of the first are met, those of the others decide
  pub met_in_front : (i : ℕ) (es ds : Items) (c next : Counts) → seek c (transactions_placed setting i es) ≡ Ok next
      → seek c (transactions_placed setting i (in_front es ds)) ≡ seek next (transactions_placed setting (i + items_len es) ds)
  met_in_front i no_items ds c next met =
      let same : c ≡ next = cc in
      let number : i ≡ i + 0 = omega arith in
      ap (λ from. seek from (transactions_placed setting i ds)) same ∙ ap (λ n. seek next (transactions_placed setting n ds)) number
  met_in_front i (item e es) ds c next met =
      by (seek c (transaction_placed (i + 1) setting e)) refl (λ middle. met_in_front (i + 1) es ds middle next) met
    where
      by : (r : Result Counts Found) → seek c (transaction_placed (i + 1) setting e) ≡ r
          → ((middle : Counts) → seek middle (transactions_placed setting (i + 1) es) ≡ Ok next
          → seek middle (transactions_placed setting (i + 1) (in_front es ds))
          ≡ seek next (transactions_placed setting (i + 1 + items_len es) ds))
          → go_on (below (item_at i) r) (λ middle. seek middle (transactions_placed setting (i + 1) es)) ≡ Ok next
          → seek c (transactions_placed setting i (item e (in_front es ds)))
          ≡ seek next (transactions_placed setting (i + suc (items_len es)) ds)
      by (Ok middle) here later rest =
          let number : i + 1 + items_len es ≡ i + suc (items_len es) = omega arith in
          part_met c middle (item_at i) (transaction_placed (i + 1) setting e) (transactions_placed setting (i + 1) (in_front es ds)) here
          ∙ later middle rest ∙ ap (λ n. seek next (transactions_placed setting n ds)) number
      by (Err found) here later rest = cc
