use Rattle.std.proofs.Common.{◌≡◌, suc, List, [], ◌∷◌, ◌++◌, Some, None, decimal, map, length}
use Rattle.std.proofs.Common.{refl, sym, subst, ap, ap₂, ◌∙◌, ◌+◌, ◌-◌, arith, rules}
use Rattle.std.proofs.lemmas.List.{length-append, map-append}
use Rattle.json.specs.Json.{after_end_array, value}
use Rattle.json.proofs.Grammar.{after_end_array-shorter}
use Rattle.serde_json.specs.Data.{array, item, no_items}
use Rattle.serde_json.specs.Find.{get_item}
use Rattle.serde_json.specs.Read.{converted, of_json}
use Rattle.meaning.specs.Trees as tree
use Rattle.meaning.specs.declared.limits.TheConstants.{MAX_DEPTH}
use Rattle.batch.specs.Views.{step_view, steps_of}
use Rattle.batch.specs.declared.tree.Block.{roll-Block}
use Rattle.batch.proofs.ViewLemmas.{block_view-is}
use Rattle.doc_tree.specs.Asked.{scope_after}
use Rattle.doc_tree.specs.Places.{block_placed, item_at, seek, step_placed, steps_placed}
use Rattle.doc_tree.specs.Scope.{Numbers, Scope, numbers_of, scope_of, setting_of}
use Rattle.doc_tree.specs.Spelled.{block_of, spelled_map, steps_spelled}
use Rattle.doc_tree.proofs.Checks.{passed_on}
use Rattle.doc_tree.proofs.BlockLemmas.{block_asks, block_spells}
use Rattle.doc_tree.proofs.ListLemmas.{in_front, in_front_none, in_front_push}
use Rattle.doc_tree.proofs.PlaceLemmas.{part_met, part_unmet}
use Rattle.doc_tokens.specs.Pulled.{ReadsValue}
use Rattle.doc_tokens.proofs.PassLemmas.{items_ended, items_on, items_refused}
use Rattle.doc_tokens.proofs.PulledLemmas.{reads_shorter}
use Rattle.lang.specs.Found.{IsBelow, IsFirstIn}
use Rattle.lang.proofs.MisreadLemmas.{item_first}
use Rattle.lang.proofs.SinglyLemmas.{matched_err, matched_ok, only_memory}
use Rattle.lang.proofs.singly.each_step.Goals as goal

pub loop-alloc-init : goal.loop-alloc-init
loop-alloc-init c =
    let none : c.new-steps.result.items ≡ [] = c.new-steps.ensures.items in
    let setting = setting_of c.args.declared.now in
    let unseen = c.requires in (
      λ ds. ds,
      λ all rest writes. (all, refl, writes),
      λ ds. ap₂ (λ (s : Scope) (vs : List _). seek c.args.state.now.counts
          (steps_placed (block_placed setting (MAX_DEPTH - 1)) setting s (length vs) ds)) (sym unseen) (sym none),
      λ ds. ap₂ (λ (s : Scope) (vs : List _). in_front (map step_view vs)
          (steps_spelled (block_of setting (MAX_DEPTH - 1)) setting s (numbers_of c.args.state.now.numbering) ds)) (sym unseen) (sym none),
      λ k ds. ap (λ n. get_item n ds) (omega (arith, ap length none)),
      omega arith,
    )

pub loop-alloc-smaller : goal.loop-alloc-smaller
loop-alloc-smaller c =
    let going : (after_end_array c.loop-alloc.reader ≡ None) × (c.take_end_array.new.self ≡ c.loop-alloc.reader) = grind arith in
    let done = c.in_ok-step.ensures.ok in
    let less = reads_shorter 124 _ done.0 _ done.1 in
    omega (arith, less, ap length going.1)

pub loop-alloc-preserved : goal.loop-alloc-preserved
loop-alloc-preserved c =
    let l = c.loop-alloc in
    let setting = setting_of c.args.declared.now in
    let places = block_placed setting (MAX_DEPTH - 1) in
    let block = block_of setting (MAX_DEPTH - 1) in
    let here = scope_of l.state.labels.entries in
    let going : (after_end_array l.reader ≡ None) × (c.take_end_array.new.self ≡ l.reader) = grind arith in
    let answer = c.in_ok-step.ensures.ok in
    let d = answer.0 in
    let mid = c.one_step.new.reader in
    let counts = c.one_step.new.state.counts in
    let after = numbers_of c.one_step.new.state.numbering in
    let next = scope_of c.one_step.new.state.labels.entries in
    let read = map step_view l.steps.items in
    let x = c.in-Ok.step in
    let done = matched_ok c.in_ok-step.field-0 x _ _ c.in-Ok.is answer.2 in
    let pushed : c.push.new.self.items ≡ l.steps.items ++ x ∷ [] = grind (arith, rules) in
    let index = length l.steps.items in
    let after_it : length c.push.new.self.items ≡ index + 1 = ap length pushed ∙ length-append l.steps.items (x ∷ []) in
    let first = subst (λ ts. ReadsValue 124 ts d mid) going.1 answer.1 in (
      λ ds. l.invariant.0 (item d ds),
      λ all rest writes.
          let now = l.invariant.1 all rest writes in
          let next = items_on 124 l.reader now.0 rest now.2 d mid going.0 (first 124 (omega arith)) in
          (next.0, now.1 ∙ ap l.invariant.0 next.1, next.2),
      λ ds. l.invariant.2 (item d ds)
          ∙ part_met l.state.counts counts (item_at index) (step_placed places setting here d)
          (steps_placed places setting (scope_after setting here d) (index + 1) ds) done.0
          ∙ ap₂ (λ (s : Scope) i. seek counts (steps_placed places setting s i ds)) (sym done.2) (sym after_it),
      λ ds. l.invariant.3 (item d ds)
          ∙ ap₂ (λ (s : Scope) (p : tree.Step × Numbers). in_front read
          (p.0 ∷ (steps_spelled block setting s p.1 ds).0, (steps_spelled block setting s p.1 ds).1)) (sym done.2) (sym done.1)
          ∙ sym (in_front_push read (step_view x) (steps_spelled block setting next after ds))
          ∙ ap (λ ys. in_front ys (steps_spelled block setting next after ds))
          (sym (map-append step_view l.steps.items (x ∷ [])) ∙ ap (map step_view) (sym pushed)),
      λ k ds. ap (λ n. get_item n (l.invariant.0 (item d ds))) (omega (arith, after_it)) ∙ l.invariant.4 (suc k) (item d ds),
      omega (arith, reads_shorter 124 l.reader d mid first, l.invariant.5),
    )

pub returns-in_err-step-clause-err : goal.returns-in_err-step-clause-err
returns-in_err-step-clause-err c =
    let l = c.loop-alloc in
    let going : (after_end_array l.reader ≡ None) × (c.take_end_array.new.self ≡ l.reader) = grind arith in
    let e = c.in_err-step.field-0.0 in
    passed_on c.from_residual.result _ e c.from_residual.ensures.1 (λ all rest writes.
    let now = l.invariant.1 all rest writes in
    only_memory e (converted of_json (value 124 c.take_end_array.new.self))
    (λ none. items_refused 124 l.reader now.0 rest now.2 going.0 (ap (λ ts. converted of_json (value 124 ts)) (sym going.1) ∙ none))
    c.in_err-step.ensures.err)

pub returns-in-Err-clause-ok : goal.returns-in-Err-clause-ok
returns-in-Err-clause-ok c whole rest writes =
    let l = c.loop-alloc in
    let start = c.args.state.now.counts in
    let setting = setting_of c.args.declared.now in
    let places = block_placed setting (MAX_DEPTH - 1) in
    let here = scope_of l.state.labels.entries in
    let going : (after_end_array l.reader ≡ None) × (c.take_end_array.new.self ≡ l.reader) = grind arith in
    let answer = c.in_ok-step.ensures.ok in
    let d = answer.0 in
    let mid = c.one_step.new.reader in
    let e = c.in-Err.inner in
    let failed = matched_err c.in_ok-step.field-0 e _ _ c.in-Err.is answer.2 in
    let index = length l.steps.items in
    let first = subst (λ ts. ReadsValue 124 ts d mid) going.1 answer.1 in
    let now = l.invariant.1 whole rest writes in
    let next = items_on 124 l.reader now.0 rest now.2 d mid going.0 (first 124 (omega arith)) in
    let ds = next.0 in
    let all = l.invariant.0 (item d ds) in
    let same : whole ≡ all = now.1 ∙ ap l.invariant.0 next.1 in
    let part = step_placed places setting here d in
    let later = steps_placed places setting (scope_after setting here d) (index + 1) ds in
    let counted : c.len.result ≡ index = grind (arith, rules) in
    let misread = c.in_ok-misread-in-Err.misread in
    let seen : IsBelow (decimal index) e misread = subst (λ i. IsBelow (decimal i) e misread) counted c.in_ok-misread-in-Err.ensures in
    subst (λ x. IsFirstIn start (block_placed setting MAX_DEPTH [] (array x)) (array x) misread) (sym same)
    (item_first all index d (omega (arith, counted)) (ap (λ n. get_item n all) (omega arith) ∙ l.invariant.4 0 (item d ds)) l.state.counts
    start part (block_placed setting MAX_DEPTH [] (array all)) e misread
    (λ found is. ap (seek start) (block_asks setting [] (array all) (MAX_DEPTH - 1) MAX_DEPTH all (omega arith) refl)
    ∙ l.invariant.2 (item d ds) ∙ part_unmet l.state.counts found (item_at index) part later is) failed seen)

pub returns-in-Err-clause-left : goal.returns-in-Err-clause-left
returns-in-Err-clause-left c =
    let l = c.loop-alloc in
    let going : (after_end_array l.reader ≡ None) × (c.take_end_array.new.self ≡ l.reader) = grind arith in
    let answer = c.in_ok-step.ensures.ok in
    omega (arith, reads_shorter 124 _ answer.0 _ answer.1, ap length going.1, l.invariant.5)

pub returns-clause-ok : goal.returns-clause-ok
returns-clause-ok c whole rest writes =
    let l = c.loop-alloc in
    let start = c.args.state.now.counts in
    let setting = setting_of c.args.declared.now in
    let first = numbers_of c.args.state.now.numbering in
    let numbers = numbers_of l.state.numbering in
    let closed : after_end_array l.reader ≡ Some c.take_end_array.new.self = grind arith in
    let now = l.invariant.1 whole rest writes in
    let ended = items_ended 124 l.reader now.0 rest now.2 c.take_end_array.new.self closed in
    let all = l.invariant.0 no_items in
    let same : whole ≡ all = now.1 ∙ ap l.invariant.0 ended.0 in
    let kept : c.shrink_to_fit.new.self.items ≡ l.steps.items = grind (arith, rules) in
    let shown = block_view-is (roll-Block (record { steps = c.shrink_to_fit.new.self })) in (
      ended.1,
      ap (λ x. seek start (block_placed setting MAX_DEPTH [] (array x))) same
          ∙ ap (seek start) (block_asks setting [] (array all) (MAX_DEPTH - 1) MAX_DEPTH all (omega arith) refl) ∙ l.invariant.2 no_items,
      ap (λ (b : tree.Block). (b, numbers)) shown
          ∙ ap (λ (vs : List _). (steps_of (map step_view vs), numbers)) kept
          ∙ ap (spelled_map steps_of) (sym (l.invariant.3 no_items ∙ in_front_none (map step_view l.steps.items) numbers))
          ∙ sym (block_spells setting [] (array all) (MAX_DEPTH - 1) MAX_DEPTH first all (omega arith) refl)
          ∙ ap (λ x. block_of setting MAX_DEPTH [] first (array x)) (sym same),
    )

pub returns-clause-scope : goal.returns-clause-scope
returns-clause-scope c = c.leave_block.ensures [] (scope_of c.loop-alloc.state.labels.entries, refl) refl

pub returns-clause-left : goal.returns-clause-left
returns-clause-left c =
    let l = c.loop-alloc in
    let closed : after_end_array l.reader ≡ Some c.take_end_array.new.self = grind arith in
    omega (arith, after_end_array-shorter l.reader c.take_end_array.new.self closed, l.invariant.5)
