use Rattle.serde_json.specs.View.{view}
use Rattle.doc_tree.specs.Answer.{IsFirst}
use Rattle.doc_tree.specs.Asked.{operation_asked}
use Rattle.doc_tree.specs.Scope.{scope_of, setting_of}
use Rattle.doc_tree.proofs.Checks.{passed_on}
use Rattle.doc_tree.proofs.HeadLemmas.{arguments_failed, operation_head_failed, operation_label_failed, operation_parts_met, refusal_failed}
use Rattle.doc_tree.proofs.operations.read_operation.Goals as goal

pub returns-in_err-head-clause-first : goal.returns-in_err-head-clause-first
returns-in_err-head-clause-first c =
    let setting = setting_of c.args.declared.now in
    let scope = scope_of c.args.state.now.labels.entries in
    let d = view c.args.step.now in
    let start = c.args.state.now.counts in
    let e = c.in_err-head.field-0.0 in
    passed_on c.from_residual.result (IsFirst start (operation_asked setting scope d)) e c.from_residual.ensures.1
    (λ other. operation_head_failed setting scope d start e (c.in_err-head.ensures.first other))

pub returns-in_err-template-clause-first : goal.returns-in_err-template-clause-first
returns-in_err-template-clause-first c =
    let setting = setting_of c.args.declared.now in
    let scope = scope_of c.args.state.now.labels.entries in
    let d = view c.args.step.now in
    let start = c.args.state.now.counts in
    let head = c.in_ok-head.ensures in
    let e = c.in_err-template.field-0.0 in
    passed_on c.from_residual-in_err-template.result (IsFirst start (operation_asked setting scope d)) e
    c.from_residual-in_err-template.ensures.1
    (λ other. arguments_failed setting scope d start c.head_of.new.counts e head.met
    (rw (head.verb, head.op) at (c.in_err-template.ensures.first other)))

pub returns-in_err-refusal-clause-first : goal.returns-in_err-refusal-clause-first
returns-in_err-refusal-clause-first c =
    let setting = setting_of c.args.declared.now in
    let scope = scope_of c.args.state.now.labels.entries in
    let d = view c.args.step.now in
    let start = c.args.state.now.counts in
    let head = c.in_ok-head.ensures in
    let next = c.head_of.new.counts in
    let e = c.in_err-refusal.field-0.0 in
    passed_on c.from_residual-in_err-refusal.result (IsFirst start (operation_asked setting scope d)) e
    c.from_residual-in_err-refusal.ensures.1
    (λ other. refusal_failed setting scope d start next next e head.met
    (rw (head.verb, head.op) at c.in_ok-template.ensures.met) (c.in_err-refusal.ensures.first other))

pub returns-in_err-add_new_label-clause-first : goal.returns-in_err-add_new_label-clause-first
returns-in_err-add_new_label-clause-first c =
    let setting = setting_of c.args.declared.now in
    let scope = scope_of c.args.state.now.labels.entries in
    let d = view c.args.step.now in
    let start = c.args.state.now.counts in
    let head = c.in_ok-head.ensures in
    let next = c.head_of.new.counts in
    let then = c.read_refusal.new.state.counts in
    let refusal = c.in_ok-refusal.ensures in
    let e = c.in_err-add_new_label.field-0.0 in
    passed_on c.from_residual-in_err-add_new_label.result (IsFirst start (operation_asked setting scope d)) e
    c.from_residual-in_err-add_new_label.ensures.1
    (λ other. operation_label_failed setting scope d start next next then e head.met
    (rw (head.verb, head.op) at c.in_ok-template.ensures.met) refusal.met
    (rw (head.label, refusal.labels) at (c.in_err-add_new_label.ensures.first other)))

pub returns-clause-met : goal.returns-clause-met
returns-clause-met c =
    let head = c.in_ok-head.ensures in
    let next = c.head_of.new.counts in
    let then = c.read_refusal.new.state.counts in
    let refusal = c.in_ok-refusal.ensures in
    operation_parts_met (setting_of c.args.declared.now) (scope_of c.args.state.now.labels.entries) (view c.args.step.now)
    c.args.state.now.counts next next then then head.met (rw (head.verb, head.op) at c.in_ok-template.ensures.met)
    refusal.met (rw (head.label, refusal.labels) at c.in_ok-add_new_label.ensures.met)
