use Rattle.serde_json.specs.View.{view}
use Rattle.batch.specs.Names.{texts_of}
use Rattle.doc_tree.specs.Answer.{IsFirst}
use Rattle.doc_tree.specs.Asked.{pair_asked}
use Rattle.doc_tree.proofs.Checks.{passed_on}
use Rattle.doc_tree.proofs.HeadLemmas.{pair_names_failed}
use Rattle.doc_tree.proofs.starts.check_pair.Goals as goal

pub returns-in_err-key-clause-first : goal.returns-in_err-key-clause-first
returns-in_err-key-clause-first c =
    let version = c.args.version in
    let earlier = texts_of c.args.earlier.now.keys in
    let d = view c.args.value.now in
    let start = c.args.counts.now in
    let e = c.in_err-key.field-0.0 in
    passed_on c.from_residual.result (IsFirst start (pair_asked version earlier d)) e c.from_residual.ensures.1
    (λ other. pair_names_failed version earlier d start e (c.in_err-key.ensures.first other))
