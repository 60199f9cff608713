use Rattle.std.proofs.Common.{◌≡◌, List, [], ◌∷◌, ◌++◌, Some, None, decimal, map, length, refl, sym, subst, ap, ◌∙◌, ◌+◌, arith, rules}
use Rattle.std.proofs.lemmas.List.{map-append}
use Rattle.json.specs.Json.{after_end_array, value}
use Rattle.serde_json.specs.Read.{converted, of_json}
use Rattle.batch.specs.Views.{block_view}
use Rattle.doc_tree.specs.Scope.{numbers_of, setting_of}
use Rattle.doc_tree.proofs.Checks.{passed_on}
use Rattle.doc_tokens.specs.Pulled.{WritesItems}
use Rattle.doc_tokens.proofs.PassLemmas.{items_ended, items_split}
use Rattle.lang.specs.Found.{IsBelow}
use Rattle.lang.proofs.EachTransaction.{TransactionsLeft, transaction_fault, transactions_begin, transactions_done, transactions_more}
use Rattle.lang.proofs.EachTransaction.{transactions_next}
use Rattle.lang.proofs.SinglyLemmas.{matched_err, matched_ok, told_ok}
use Rattle.lang.proofs.singly.each_transaction.Goals as goal

pub loop-alloc-init : goal.loop-alloc-init
loop-alloc-init c =
    let setting = setting_of c.args.declared.now in
    let start = c.args.state.now.counts in
    let numbers = numbers_of c.args.state.now.numbering in
    let none : c.new-blocks.result.items ≡ [] = c.new-blocks.ensures.items in (
      λ all rest writes. (
        all,
        writes,
        subst (λ (vs : List _). TransactionsLeft setting start start numbers numbers (map block_view vs) 0 all all) (sym none)
            (transactions_begin setting start numbers all),
      ),
      c.requires.labels,
      omega arith,
    )

pub loop-alloc-smaller : goal.loop-alloc-smaller
loop-alloc-smaller c =
    let going : (after_end_array c.loop-alloc.reader ≡ None) × (c.take_end_array.new.self ≡ c.loop-alloc.reader) = grind arith in
    omega (arith, c.in_ok-block.ensures.left, ap length going.1)

pub loop-alloc-preserved : goal.loop-alloc-preserved
loop-alloc-preserved c =
    let l = c.loop-alloc in
    let setting = setting_of c.args.declared.now in
    let start = c.args.state.now.counts in
    let numbers = numbers_of c.args.state.now.numbering in
    let here = numbers_of l.state.numbering in
    let going : (after_end_array l.reader ≡ None) × (c.take_end_array.new.self ≡ l.reader) = grind arith in
    let counts = c.one_transaction.new.state.counts in
    let after = numbers_of c.one_transaction.new.state.numbering in
    let read = map block_view l.blocks.items in
    let x = c.in-Ok.block in
    let pushed : c.push.new.self.items ≡ l.blocks.items ++ x ∷ [] = grind (arith, rules) in
    let shown : map block_view c.push.new.self.items ≡ read ++ block_view x ∷ [] =
    ap (map block_view) pushed ∙ map-append block_view l.blocks.items (x ∷ []) in
    let told = told_ok c.in_ok-block.field-0 x _ c.in-Ok.is c.in_ok-block.ensures.scope in (
      λ all rest writes.
          let now = l.invariant.0 all rest writes in
          let next = items_split 125 l.reader now.0 rest now.1 going.0 in
          let d = next.0 in
          let read_here = ap (λ ts. converted of_json (value 125 ts)) going.1 ∙ next.3 in
          let done = matched_ok c.in_ok-block.field-0 x _ _ c.in-Ok.is (c.in_ok-block.ensures.ok d next.1 read_here) in (
            next.2,
            subst (λ ts. WritesItems 125 ts next.2 rest) (sym done.0) next.5,
            transactions_next setting start numbers all l.state.counts here read l.number now.0 next.2 d next.4 now.2 counts after
                (block_view x) (map block_view c.push.new.self.items) (l.number + 1) done.1 done.2 shown refl,
          ),
      told,
      omega (arith, c.if-number-limits.false, ap (λ limits. limits.transactions) c.of-limits.ensures),
    )

pub returns-in_err-block-clause-err : goal.returns-in_err-block-clause-err
returns-in_err-block-clause-err c =
    let l = c.loop-alloc in
    let going : (after_end_array l.reader ≡ None) × (c.take_end_array.new.self ≡ l.reader) = grind arith in
    let e = c.in_err-block.field-0.0 in
    passed_on c.from_residual.result _ e c.from_residual.ensures.1 (λ all rest writes few.
    let now = l.invariant.0 all rest writes in
    let next = items_split 125 l.reader now.0 rest now.1 going.0 in
    c.in_err-block.ensures.err next.0 next.1 (ap (λ ts. converted of_json (value 125 ts)) going.1 ∙ next.3))

pub returns-then-number-limits-clause-err : goal.returns-then-number-limits-clause-err
returns-then-number-limits-clause-err c all rest writes few =
    let l = c.loop-alloc in
    let going : (after_end_array l.reader ≡ None) × (c.take_end_array.new.self ≡ l.reader) = grind arith in
    let now = l.invariant.0 all rest writes in
    let next = items_split 125 l.reader now.0 rest now.1 going.0 in
    let more = transactions_more (setting_of c.args.declared.now) c.args.state.now.counts (numbers_of c.args.state.now.numbering) all
    l.state.counts (numbers_of l.state.numbering) (map block_view l.blocks.items) l.number now.0 next.2 next.0 next.4 now.2 in
    absurd (omega (arith, few, more, c.if-number-limits.true, ap (λ limits. limits.transactions) c.of-limits.ensures))

pub returns-in-Err-clause-ok : goal.returns-in-Err-clause-ok
returns-in-Err-clause-ok c all rest writes =
    let l = c.loop-alloc in
    let going : (after_end_array l.reader ≡ None) × (c.take_end_array.new.self ≡ l.reader) = grind arith in
    let e = c.in-Err.inner in
    let misread = c.in_ok-misread-in-Err.misread in
    let now = l.invariant.0 all rest writes in
    let next = items_split 125 l.reader now.0 rest now.1 going.0 in
    let read_here = ap (λ ts. converted of_json (value 125 ts)) going.1 ∙ next.3 in
    let failed = matched_err c.in_ok-block.field-0 e _ _ c.in-Err.is (c.in_ok-block.ensures.ok next.0 next.1 read_here) in
    let seen : IsBelow (decimal l.number) e misread =
    subst (λ i. IsBelow (decimal i) e misread) (omega arith) c.in_ok-misread-in-Err.ensures in
    transaction_fault (setting_of c.args.declared.now) c.args.state.now.counts (numbers_of c.args.state.now.numbering) all
    l.state.counts (numbers_of l.state.numbering) (map block_view l.blocks.items) l.number now.0 next.2 next.0 next.4 now.2 e misread
    (omega arith) failed seen

pub returns-clause-ok : goal.returns-clause-ok
returns-clause-ok c all rest writes =
    let l = c.loop-alloc in
    let closed : after_end_array l.reader ≡ Some c.take_end_array.new.self = grind arith in
    let now = l.invariant.0 all rest writes in
    transactions_done (setting_of c.args.declared.now) c.args.state.now.counts (numbers_of c.args.state.now.numbering) all l.state.counts
    (numbers_of l.state.numbering) (map block_view l.blocks.items) l.number now.0
    (items_ended 125 l.reader now.0 rest now.1 c.take_end_array.new.self closed).0 now.2
