use Rattle.std.proofs.Common.{◌≡◌, false, ap, refl, sym, ◌∙◌}
use Rattle.serde_json.specs.View.{view}
use Rattle.doc_tree.specs.Asked.{is_source}
use Rattle.doc_tree.specs.Spelled.{or_zero, template_of}
use Rattle.doc_tree.proofs.AmountLemmas.{amount_of-value}
use Rattle.doc_tree.proofs.arguments.read_amount_call.Goals as goal

pub returns-in-Some-clause-value : goal.returns-in-Some-clause-value
unfolding template_of
returns-in-Some-clause-value c numbers =
    let given : is_source c.args.seen.now.version 2 (view c.args.op.now) ≡ false = sym c.is_source.ensures ∙ c.if-is_source.false in
    rw (given, c.call.ensures, amount_of-value c.in-Some.amount _ (ap or_zero c.in-Some.ensures)) refl
