use Rattle.std.proofs.Common.{map, refl}
use Rattle.batch.specs.Views.{block_view}
use Rattle.doc_tree.specs.Asked.{objects_in, setting_in, transactions_in, version_in}
use Rattle.doc_tree.specs.Scope.{numbers_of}
use Rattle.doc_tree.proofs.Checks.{passed_on}
use Rattle.doc_tokens.proofs.DocumentLemmas.{same_parts}
use Rattle.lang.proofs.SinglyLemmas.{matched_err, matched_ok}
use Rattle.lang.proofs.singly.each_part.Goals as goal

pub returns-in_err-declared-clause-err : goal.returns-in_err-declared-clause-err
returns-in_err-declared-clause-err c =
    passed_on c.from_residual.result _ c.in_err-declared.field-0.0 c.from_residual.ensures.1 c.in_err-declared.ensures.err

pub returns-in-Err-clause-ok : goal.returns-in-Err-clause-ok
returns-in-Err-clause-ok c d known =
    matched_err c.in_ok-declared.field-0 c.in-Err.misread _ _ c.in-Err.is (c.in_ok-declared.ensures.ok d known)

pub returns-in_err-transactions-clause-err : goal.returns-in_err-transactions-clause-err
returns-in_err-transactions-clause-err c =
    let e = c.in_err-transactions.field-0.0 in
    passed_on c.from_residual-in_err-transactions.result _ e c.from_residual-in_err-transactions.ensures.1 (λ d known.
    let done = matched_ok c.in_ok-declared.field-0 c.in-Ok.declared _ _ c.in-Ok.is (c.in_ok-declared.ensures.ok d known) in
    c.in_err-transactions.ensures.err d known done.1)

pub returns-in-Ok-2-clause-ok : goal.returns-in-Ok-2-clause-ok
returns-in-Ok-2-clause-ok c d known =
    let done = matched_ok c.in_ok-declared.field-0 c.in-Ok.declared _ _ c.in-Ok.is (c.in_ok-declared.ensures.ok d known) in
    let read = matched_ok c.in_ok-transactions.field-0 c.in-Ok-2.transactions _ _ c.in-Ok-2.is
    (c.in_ok-transactions.ensures.ok d known done.1 done.0) in (
      read.0,
      done.1,
      same_parts d (numbers_of c.args.state.now.numbering) (numbers_of c.objects_of.new.state.numbering)
          (numbers_of c.transactions_of.new.state.numbering) (version_in d) (objects_in d) (transactions_in d) (setting_in d)
          c.in-Ok.declared.objects (map block_view c.in-Ok-2.transactions.items) refl refl refl refl done.2 read.1,
    )

pub returns-in-Err-2-clause-ok : goal.returns-in-Err-2-clause-ok
returns-in-Err-2-clause-ok c d known =
    let done = matched_ok c.in_ok-declared.field-0 c.in-Ok.declared _ _ c.in-Ok.is (c.in_ok-declared.ensures.ok d known) in
    matched_err c.in_ok-transactions.field-0 c.in-Err-2.misread _ _ c.in-Err-2.is
    (c.in_ok-transactions.ensures.ok d known done.1 done.0)
