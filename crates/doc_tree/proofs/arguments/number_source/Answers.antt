use Rattle.serde_json.specs.View.{view}
use Rattle.doc_rules.specs.Subjects.{fits_number}
use Rattle.doc_rules.specs.declared.rule.OperandPlace.TheVariants.{Third}
use Rattle.doc_rules.specs.declared.rule.SourceRule.TheVariants.{Number}
use Rattle.doc_tree.specs.Answer.{IsFirst}
use Rattle.doc_tree.specs.Asked.{source_asked}
use Rattle.doc_tree.specs.Scope.{scope_of}
use Rattle.doc_tree.proofs.Checks.{passed_on}
use Rattle.doc_tree.proofs.arguments.number_source.Goals as goal

pub returns-in_err-number-clause-first : goal.returns-in_err-number-clause-first
returns-in_err-number-clause-first c =
    let seen = c.args.seen.now in
    let asked = source_asked (scope_of seen.labels.now.entries) fits_number Number Third (view c.args.op.now) in
    passed_on c.from_residual.result (IsFirst seen.counts.now asked) c.in_err-number.field-0.0 c.from_residual.ensures.1
    (c.in_err-number.ensures.first fits_number Number)
