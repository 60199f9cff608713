use Rattle.serde_json.specs.View.{view}
use Rattle.doc_tree.specs.Answer.{IsFirst}
use Rattle.doc_tree.specs.Heads.{if_head_asked}
use Rattle.doc_tree.specs.Scope.{scope_of}
use Rattle.doc_tree.proofs.Checks.{passed_on}
use Rattle.doc_tree.proofs.HeadLemmas.{if_head_met, if_label_failed, if_node_failed, if_shape_failed, if_test_failed}
use Rattle.doc_tree.proofs.heads.if_head.Goals as goal

pub returns-in_err-shape-clause-first : goal.returns-in_err-shape-clause-first
returns-in_err-shape-clause-first c =
    let version = c.args.version in
    let scope = scope_of c.args.state.now.labels.entries in
    let d = view c.args.step.now in
    let start = c.args.state.now.counts in
    let e = c.in_err-shape.field-0.0 in
    passed_on c.from_residual.result (IsFirst start (if_head_asked version scope d)) e c.from_residual.ensures.1
    (λ other. if_shape_failed version scope d start e (c.in_err-shape.ensures.first other))

pub returns-in_err-one_more_node-clause-first : goal.returns-in_err-one_more_node-clause-first
returns-in_err-one_more_node-clause-first c =
    let version = c.args.version in
    let scope = scope_of c.args.state.now.labels.entries in
    let d = view c.args.step.now in
    let start = c.args.state.now.counts in
    let e = c.in_err-one_more_node.field-0.0 in
    passed_on c.from_residual-in_err-one_more_node.result (IsFirst start (if_head_asked version scope d)) e
    c.from_residual-in_err-one_more_node.ensures.1
    (λ other. if_node_failed version scope d start e c.in_ok-shape.ensures.met (c.in_err-one_more_node.ensures other))

pub returns-in_err-label-clause-first : goal.returns-in_err-label-clause-first
returns-in_err-label-clause-first c =
    let version = c.args.version in
    let scope = scope_of c.args.state.now.labels.entries in
    let d = view c.args.step.now in
    let start = c.args.state.now.counts in
    let e = c.in_err-label.field-0.0 in
    passed_on c.from_residual-in_err-label.result (IsFirst start (if_head_asked version scope d)) e c.from_residual-in_err-label.ensures.1
    (λ other. if_label_failed version scope d start c.one_more_node.new.self e c.in_ok-shape.ensures.met c.in_ok-one_more_node.ensures
    (rw c.in_ok-shape.ensures.label at (c.in_err-label.ensures.first other)))

pub returns-in_err-test-clause-first : goal.returns-in_err-test-clause-first
returns-in_err-test-clause-first c =
    let version = c.args.version in
    let scope = scope_of c.args.state.now.labels.entries in
    let d = view c.args.step.now in
    let start = c.args.state.now.counts in
    let e = c.in_err-test.field-0.0 in
    let label = c.in_ok-shape.ensures.label in
    passed_on c.from_residual-in_err-test.result (IsFirst start (if_head_asked version scope d)) e c.from_residual-in_err-test.ensures.1
    (λ other. if_test_failed version scope d start c.one_more_node.new.self e c.in_ok-shape.ensures.met c.in_ok-one_more_node.ensures
    (rw label at c.in_ok-label.ensures.met) (rw (c.in_ok-label.ensures.subject, label) at (c.in_err-test.ensures.first other)))

pub returns-clause-met : goal.returns-clause-met
returns-clause-met c =
    let label = c.in_ok-shape.ensures.label in
    if_head_met c.args.version (scope_of c.args.state.now.labels.entries) (view c.args.step.now) c.args.state.now.counts
    c.one_more_node.new.self c.in_ok-shape.ensures.met c.in_ok-one_more_node.ensures (rw label at c.in_ok-label.ensures.met)
    (rw (c.in_ok-label.ensures.subject, label) at c.in_ok-test.ensures.met)
