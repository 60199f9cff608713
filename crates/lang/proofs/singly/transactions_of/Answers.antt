use Rattle.std.specs.Prelude.{codes}
use Rattle.std.proofs.Common.{◌≤◌, ap, subst, sym}
use Rattle.serde_json.specs.Data.{array}
use Rattle.serde_json.specs.Events.{items_len}
use Rattle.doc_rules.specs.Limits.{limits_of}
use Rattle.doc_tree.specs.Asked.{transactions_in}
use Rattle.doc_tree.specs.Places.{member_named, placed}
use Rattle.doc_tree.specs.Demand.{no_counts}
use Rattle.doc_tree.proofs.Checks.{passed_on}
use Rattle.doc_tokens.specs.Passed.{HasMembers}
use Rattle.lang.proofs.AskedLemmas.{transactions}
use Rattle.lang.proofs.MisreadLemmas.{first_below}
use Rattle.lang.proofs.SinglyLemmas.{every_err, faultless_known, few_known, matched_err, matched_ok, transactions_failed}
use Rattle.lang.proofs.SinglyLemmas.{transactions_pointed}
use Rattle.lang.proofs.SinglyLemmas.{transactions_there}
use Rattle.lang.proofs.singly.transactions_of.Goals as goal

pub returns-in_err-pass_to_list-clause-err : goal.returns-in_err-pass_to_list-clause-err
returns-in_err-pass_to_list-clause-err c = every_err c.from_residual-in_err-pass_to_list.result _ (λ stop d known set.
    absurd (c.in_err-pass_to_list.ensures.err known.members (transactions_in d)
    (subst (λ ts. HasMembers (codes "transactions") c.args.notes.now.transactions_times ts known.members) (sym c.in_ok-reader.ensures.ok)
    known.transactions) (transactions_there c.args.text.now c.args.notes.now d known)))

pub returns-in_err-transactions-clause-err : goal.returns-in_err-transactions-clause-err
returns-in_err-transactions-clause-err c =
    let e = c.in_err-transactions.field-0.0 in
    passed_on c.from_residual-in_err-transactions.result _ e c.from_residual-in_err-transactions.ensures.1 (λ d known set.
    let inside = c.in_ok-pass_to_list.ensures.ok known.members (transactions_in d)
    (subst (λ ts. HasMembers (codes "transactions") c.args.notes.now.transactions_times ts known.members) (sym c.in_ok-reader.ensures.ok)
    known.transactions) (transactions_there c.args.text.now c.args.notes.now d known) in
    c.in_err-transactions.ensures.err (transactions_in d) inside.0 inside.1
    (subst (λ v. items_len (transactions_in d) ≤ (limits_of v).transactions) (sym (ap (λ s. s.version) set))
    (few_known c.args.text.now c.args.notes.now d known).1))

pub returns-in-Ok-clause-ok : goal.returns-in-Ok-clause-ok
returns-in-Ok-clause-ok c d known set met =
    let inside = c.in_ok-pass_to_list.ensures.ok known.members (transactions_in d)
    (subst (λ ts. HasMembers (codes "transactions") c.args.notes.now.transactions_times ts known.members) (sym c.in_ok-reader.ensures.ok)
    known.transactions) (transactions_there c.args.text.now c.args.notes.now d known) in
    let done = matched_ok c.in_ok-transactions.field-0 c.in-Ok.transactions _ _ c.in-Ok.is
    (c.in_ok-transactions.ensures.ok (transactions_in d) inside.0 inside.1) in
    let here = rw set at done in
    (faultless_known c.args.text.now c.args.notes.now d known c.args.state.now.counts _ met here.0, here.1)

pub returns-clause-ok : goal.returns-clause-ok
returns-clause-ok c d known set met =
    let inside = c.in_ok-pass_to_list.ensures.ok known.members (transactions_in d)
    (subst (λ ts. HasMembers (codes "transactions") c.args.notes.now.transactions_times ts known.members) (sym c.in_ok-reader.ensures.ok)
    known.transactions) (transactions_there c.args.text.now c.args.notes.now d known) in
    let e = c.in-Err.inner in
    let failed = matched_err c.in_ok-transactions.field-0 e _ _ c.in-Err.is
    (c.in_ok-transactions.ensures.ok (transactions_in d) inside.0 inside.1) in
    first_below (member_named (codes "transactions")) d (array (transactions_in d))
    (transactions_pointed c.args.text.now c.args.notes.now d known) c.args.state.now.counts no_counts (transactions d no_counts) (placed
    d) e
    c.in_ok-misread-in-Err.misread (transactions_failed c.args.text.now c.args.notes.now d known c.args.state.now.counts met)
    (rw set at failed) c.in_ok-misread-in-Err.ensures
