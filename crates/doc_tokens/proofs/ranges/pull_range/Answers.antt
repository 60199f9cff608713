use Rattle.std.proofs.Common.{◌≡◌, [], ◌∷◌, Some, map, sym, subst, ap, ◌∙◌, arith, rules}
use Rattle.json.specs.Json.{after_end_array}
use Rattle.json.specs.Token.{begin_array, end_array, end_object}
use Rattle.json.proofs.Grammar.{closed_array}
use Rattle.batch.specs.Views.{block_view}
use Rattle.doc_tree.specs.Scope.{setting_of}
use Rattle.doc_tokens.specs.Ranges.{AreRead, left_by, reached}
use Rattle.doc_tokens.proofs.PulledLemmas.{IfOk_then}
use Rattle.doc_tokens.proofs.RangeLemmas.{both_read, none_read}
use Rattle.doc_tokens.proofs.ranges.pull_range.Goals as goal

pub loop-alloc-init : goal.loop-alloc-init
loop-alloc-init c = (
  none_read (setting_of c.args.declared.now) _ _,
  c.in_ok-push_transaction.ensures.labels,
  c.in_ok-push_transaction.ensures.few,
)

pub loop-alloc-preserved : goal.loop-alloc-preserved
loop-alloc-preserved c =
    let setting = setting_of c.args.declared.now in
    let l = c.loop-alloc in
    let pushed = c.in_ok-push_transaction-in-Some-BeginArray.ensures in
    let q = reached l.state (map block_view l.transactions.items) in
    let new = c.push_transaction-in-Some-BeginArray.new in
    let r = reached new.state (map block_view new.transactions.items) in
    let begun : l.reader ≡ begin_array ∷ c.next.new.self = grind (arith, rules) in (
      both_read setting _ l.reader new.reader _ q r l.invariant.0
          (subst (λ ts. AreRead setting ts new.reader q r) (sym begun) pushed.read),
      pushed.labels,
      pushed.few,
    )

pub returns-in-None-clause-read : goal.returns-in-None-clause-read
returns-in-None-clause-read c =
    let setting = setting_of c.args.declared.now in
    let l = c.loop-alloc in
    let new = c.push_transaction.new in
    let p = reached c.args.state.now (map block_view c.args.transactions.now.items) in
    let q = reached new.state (map block_view new.transactions.items) in
    let r = reached l.state (map block_view l.transactions.items) in
    let begun : c.args.reader.now ≡ begin_array ∷ c.pull_begin_array.new.reader = grind (arith, rules) in
    let ended : l.reader ≡ [] = grind (arith, rules) in
    both_read setting c.args.reader.now new.reader [] p q r
    (subst (λ ts. AreRead setting ts new.reader p q) (sym begun) c.in_ok-push_transaction.ensures.read)
    (subst (λ ts. AreRead setting new.reader ts q r) ended l.invariant.0)

pub returns-clause-read : goal.returns-clause-read
returns-clause-read c =
    let setting = setting_of c.args.declared.now in
    let l = c.loop-alloc in
    let new = c.push_transaction.new in
    let p = reached c.args.state.now (map block_view c.args.transactions.now.items) in
    let q = reached new.state (map block_view new.transactions.items) in
    let r = reached l.state (map block_view l.transactions.items) in
    let begun : c.args.reader.now ≡ begin_array ∷ c.pull_begin_array.new.reader = grind (arith, rules) in
    let taken : after_end_array l.reader ≡ Some c.take_end_array.new.self = grind arith in
    let closed = closed_array l.reader c.take_end_array.new.self taken in
    IfOk_then c.pull_document_end.result c.pull_document_end.ensures
    (λ end w. subst (λ e. AreRead setting c.args.reader.now (left_by e) p r) (sym w.1)
    (both_read setting c.args.reader.now new.reader (end_array ∷ end_object ∷ []) p q r
    (subst (λ ts. AreRead setting ts new.reader p q) (sym begun) c.in_ok-push_transaction.ensures.read)
    (subst (λ ts. AreRead setting new.reader ts q r) (closed ∙ ap (λ ts. end_array ∷ ts) w.0) l.invariant.0)))
