use Rattle.serde_json.specs.View.{view}
use Rattle.doc_tree.specs.Answer.{IsFirst}
use Rattle.doc_tree.specs.Heads.{operation_head_asked}
use Rattle.doc_tree.specs.Scope.{setting_of}
use Rattle.doc_tree.proofs.Checks.{passed_on}
use Rattle.doc_tree.proofs.HeadLemmas.{operation_count_failed}
use Rattle.doc_tree.proofs.operations.head_of.Goals as goal

pub returns-in_err-one_more_operation-clause-first : goal.returns-in_err-one_more_operation-clause-first
returns-in_err-one_more_operation-clause-first c =
    let setting = setting_of c.args.declared.now in
    let d = view c.args.step.now in
    let start = c.args.counts.now in
    let e = c.in_err-one_more_operation.field-0.0 in
    passed_on c.from_residual-in_err-one_more_operation.result (IsFirst start (operation_head_asked setting d)) e
    c.from_residual-in_err-one_more_operation.ensures.1
    (λ other. operation_count_failed setting d start e c.in_ok-shape.ensures.met (c.in_err-one_more_operation.ensures other))
