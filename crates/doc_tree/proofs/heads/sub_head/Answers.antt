use Rattle.serde_json.specs.View.{view}
use Rattle.doc_tree.specs.Answer.{IsFirst}
use Rattle.doc_tree.specs.Heads.{sub_head_asked}
use Rattle.doc_tree.specs.Scope.{scope_of}
use Rattle.doc_tree.proofs.Checks.{passed_on}
use Rattle.doc_tree.proofs.HeadLemmas.{sub_head_met, sub_label_failed, sub_node_failed, sub_shape_failed}
use Rattle.doc_tree.proofs.heads.sub_head.Goals as goal

pub returns-in_err-shape-clause-first : goal.returns-in_err-shape-clause-first
returns-in_err-shape-clause-first c =
    let scope = scope_of c.args.labels.now.entries in
    let d = view c.args.step.now in
    let start = c.args.counts.now in
    let e = c.in_err-shape.field-0.0 in
    passed_on c.from_residual.result (IsFirst start (sub_head_asked c.args.version scope _ d)) e c.from_residual.ensures.1
    (λ other. sub_shape_failed c.args.version scope _ d start e (c.in_err-shape.ensures.first other))

pub returns-in_err-one_more_node-clause-first : goal.returns-in_err-one_more_node-clause-first
returns-in_err-one_more_node-clause-first c =
    let scope = scope_of c.args.labels.now.entries in
    let d = view c.args.step.now in
    let start = c.args.counts.now in
    let e = c.in_err-one_more_node.field-0.0 in
    passed_on c.from_residual-in_err-one_more_node.result (IsFirst start (sub_head_asked c.args.version scope _ d)) e
    c.from_residual-in_err-one_more_node.ensures.1
    (λ other. sub_node_failed c.args.version scope _ d start e c.in_ok-shape.ensures.met (c.in_err-one_more_node.ensures other))

pub returns-in_err-check_label-clause-first : goal.returns-in_err-check_label-clause-first
returns-in_err-check_label-clause-first c =
    let scope = scope_of c.args.labels.now.entries in
    let d = view c.args.step.now in
    let start = c.args.counts.now in
    let e = c.in_err-check_label.field-0.0 in
    passed_on c.from_residual-in_err-check_label.result (IsFirst start (sub_head_asked c.args.version scope _ d)) e
    c.from_residual-in_err-check_label.ensures.1
    (λ other. sub_label_failed c.args.version scope _ d start c.one_more_node.new.self e c.in_ok-shape.ensures.met
    c.in_ok-one_more_node.ensures (rw c.in_ok-shape.ensures.label at (c.in_err-check_label.ensures other)))

pub returns-clause-met : goal.returns-clause-met
returns-clause-met c =
    sub_head_met c.args.version (scope_of c.args.labels.now.entries) _ (view c.args.step.now) c.args.counts.now c.one_more_node.new.self
    c.in_ok-shape.ensures.met c.in_ok-one_more_node.ensures (rw c.in_ok-shape.ensures.label at c.in_ok-check_label.ensures)
