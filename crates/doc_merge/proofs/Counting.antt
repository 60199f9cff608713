-- What transactions count is added to what was counted before them.
use Rattle.std.specs.Prelude.{nat_lt}
use Rattle.std.proofs.Common.{◌≡◌, ℕ, zero, suc, ◌+◌, ◌≤◌, Bool, true, false, List, [], ◌∷◌, ◌++◌, Result, Ok}
use Rattle.std.proofs.Common.{Err, refl, sym, ap, ◌∙◌, arith}
use Rattle.std.proofs.lemmas.Bool.{lt-ltb}
use Rattle.serde_json.specs.Data.{Items, no_items, item}
use Rattle.meaning.specs.declared.limits.TheConstants.{MAX_DEPTH}
use Rattle.doc_tree.specs.Demand.{Demand, and_then, check, holds, in_transaction, limited, no_counts}
use Rattle.doc_tree.specs.Demand.{one_more_node, one_more_operation, one_more_start}
use Rattle.doc_rules.specs.Limits.{limits_of}
use Rattle.doc_rules.specs.declared.rule.CountRule.TheVariants.{Nodes, Operations}
use Rattle.doc_tree.specs.Places.{Found, seek, transactions_placed}
use Rattle.doc_tree.specs.Scope.{Setting}
use Rattle.doc_tree.specs.declared.counts.Counts.{Counts}
use Rattle.doc_tree.proofs.Checks.{check_met, check_parts}
use Rattle.doc_tree.proofs.Demands.{block_asked, told, told_first, transactions_asked, transactions_same}
use Rattle.doc_tree.proofs.MetLemmas.{passed}
use Rattle.doc_merge.specs.AfterRange.{counts_after, number_after}
use Rattle.doc_merge.proofs.InBlock.{InBlock, block_in}

-- the number of a transaction after n others
number_is : (n last number : ℕ) → 1 ≤ number → number_after n last number ≡ n + number
number_is n last zero some = absurd (omega (arith, some))
number_is n last (suc number) some = refl

-- The counts after n transactions with counts `base`.
module _ (n : ℕ) (base : Counts) (version : ℕ) where
  -- what is reached is within the limits with what was counted before
  abbrev Within : Counts → Type 0
  Within next = (base.operations + next.operations ≤ (limits_of version).operations)
      × (base.nodes + next.nodes ≤ (limits_of version).nodes)

  -- the list is met after what was counted before
  abbrev MetAfter : List Demand → Counts → Counts → Type 0
  MetAfter ds c next = check (counts_after n base c) ds ≡ Ok (counts_after n base next)

  operation_after : (c next : Counts) (ds : List Demand) (other : ℕ) → other ≡ version → Within next
      → ((c' : Counts) → check c' ds ≡ Ok next → MetAfter ds c' next)
      → check c (one_more_operation other ∷ ds) ≡ Ok next → MetAfter (one_more_operation other ∷ ds) c next
  operation_after c next ds other is within later met = by (nat_lt c.operations (limits_of other).operations) met
    where
      by : (b : Bool)
          → and_then (limited b (Operations other) c (record c { operations = c.operations + 1 })) (λ x. check x ds) ≡ Ok next
          → MetAfter (one_more_operation other ∷ ds) c next
      by true rest =
          let counted : Counts = record c { operations = c.operations + 1 } in
          let after = counts_after n base c in
          let more : Counts = record after { operations = after.operations + 1 } in
          let most = ap (λ v. (limits_of v).operations) is in
          let reached = (passed ds counted next rest).operations in
          let few : suc (base.operations + c.operations) ≤ (limits_of other).operations = omega (arith, within.0, most, reached) in
          let sum : base.operations + c.operations + 1 ≡ base.operations + (c.operations + 1) = omega arith in
          ap (λ t. and_then (limited t (Operations other) after more) (λ x. check x ds))
          (lt-ltb (base.operations + c.operations) (limits_of other).operations few)
          ∙ ap (λ k. check (record after { operations = k }) ds) sum ∙ later counted rest
      by false rest = cc

  node_after : (c next : Counts) (ds : List Demand) (other : ℕ) → other ≡ version → Within next
      → ((c' : Counts) → check c' ds ≡ Ok next → MetAfter ds c' next)
      → check c (one_more_node other ∷ ds) ≡ Ok next → MetAfter (one_more_node other ∷ ds) c next
  node_after c next ds other is within later met = by (nat_lt c.nodes (limits_of other).nodes) met
    where
      by : (b : Bool) → and_then (limited b (Nodes other) c (record c { nodes = c.nodes + 1 })) (λ x. check x ds) ≡ Ok next
          → MetAfter (one_more_node other ∷ ds) c next
      by true rest =
          let counted : Counts = record c { nodes = c.nodes + 1 } in
          let after = counts_after n base c in
          let more : Counts = record after { nodes = after.nodes + 1 } in
          let most = ap (λ v. (limits_of v).nodes) is in
          let reached = (passed ds counted next rest).nodes in
          let few : suc (base.nodes + c.nodes) ≤ (limits_of other).nodes = omega (arith, within.1, most, reached) in
          let sum : base.nodes + c.nodes + 1 ≡ base.nodes + (c.nodes + 1) = omega arith in
          ap (λ t. and_then (limited t (Nodes other) after more) (λ x. check x ds))
          (lt-ltb (base.nodes + c.nodes) (limits_of other).nodes few)
          ∙ ap (λ k. check (record after { nodes = k }) ds) sum ∙ later counted rest
      by false rest = cc

  -- what a block asks is met after what was counted before
  block_after : (ds : List Demand) (c next : Counts) → InBlock version ds → Within next → check c ds ≡ Ok next → MetAfter ds c next
  block_after [] c next asked within met = let same : c ≡ next = cc in ap (λ x. Ok (counts_after n base x)) same
  block_after (holds true rule ∷ ds) c next asked within met = block_after ds c next asked within met
  block_after (holds false rule ∷ ds) c next asked within met = cc
  block_after (one_more_start other ∷ ds) c next asked within met = absurd asked
  block_after (one_more_operation other ∷ ds) c next asked within met =
      operation_after c next ds other asked.0 within (λ c'. block_after ds c' next asked.1 within) met
  block_after (one_more_node other ∷ ds) c next asked within met =
      node_after c next ds other asked.0 within (λ c'. block_after ds c' next asked.1 within) met
  block_after (in_transaction i ∷ ds) c next asked within met = absurd asked

-- what was found of the demands with their places
found_met : (r : Result Counts Found) (next : Counts) → told r ≡ Ok next → r ≡ Ok next
found_met (Ok c) next is = let same : c ≡ next = cc in ap (λ x. Ok x) same
found_met (Err found) next is = cc

module _ (setting : Setting) (n : ℕ) (base : Counts) where
  -- so are transactions, the first of which is number i alone, and number j after the others
  asked_after : (i j : ℕ) (ds : Items) (c next : Counts) → 1 ≤ i → n + i ≡ j → Within n base setting.version next
      → check c (transactions_asked i setting ds) ≡ Ok next
      → MetAfter n base setting.version (transactions_asked j setting ds) c next
  asked_after i j no_items c next some is within met = block_after n base setting.version [] c next tt within met
  asked_after i j (item d ds) c next some is within met =
      let version = setting.version in
      let block = block_asked setting MAX_DEPTH [] d in
      let begun : Counts = record c { transaction = i } in
      let rest = transactions_asked (i + 1) setting ds in
      let parts = check_parts begun next block rest met in
      let middle = parts.0 in
      let counted = passed rest middle next parts.2 in
      let mid : Within n base version middle = (
        omega (arith, within.0, counted.operations),
        omega (arith, within.1, counted.nodes),
      ) in
      let number = number_is n base.transaction i some ∙ is in
      let after = counts_after n base c in
      let later = transactions_asked (j + 1) setting ds in
      ap (λ k. check (record after { transaction = k }) (block ++ later)) (sym number)
      ∙ check_met (counts_after n base begun) (counts_after n base middle) block later
      (block_after n base version block begun middle (block_in setting MAX_DEPTH [] d) mid parts.1)
      ∙ asked_after (i + 1) (j + 1) ds middle next (omega arith) (omega (arith, is)) within parts.2

  -- what transactions count alone is added to what was counted before them
  pub counts_add_up : (ds : Items) (next : Counts) → Within n base setting.version next
      → seek no_counts (transactions_placed setting 0 ds) ≡ Ok next
      → seek base (transactions_placed setting n ds) ≡ Ok (counts_after n base next)
  counts_add_up ds next within met =
      let first = transactions_placed setting 0 ds in
      let later = transactions_placed setting n ds in
      let alone = ap (check no_counts) (sym (transactions_same setting 0 ds)) ∙ sym (told_first no_counts first) ∙ ap told met in
      let operations : base.operations ≡ base.operations + 0 = omega arith in
      let nodes : base.nodes ≡ base.nodes + 0 = omega arith in
      let begun : base ≡ counts_after n base no_counts = λ i. record base { operations = operations i; nodes = nodes i } in
      found_met (seek base later) (counts_after n base next)
      (told_first base later ∙ ap (check base) (transactions_same setting n ds)
      ∙ ap (λ c. check c (transactions_asked (n + 1) setting ds)) begun
      ∙ asked_after 1 (n + 1) ds no_counts next (omega arith) refl within alone)
