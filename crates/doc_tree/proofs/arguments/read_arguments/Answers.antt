use Rattle.doc_tree.specs.Scope.{numbers_of}
use Rattle.doc_tree.proofs.Checks.{then_ok}
use Rattle.doc_tree.proofs.arguments.read_arguments.Goals as goal

pub returns-in-OfAmount-clause-value : goal.returns-in-OfAmount-clause-value
returns-in-OfAmount-clause-value c = rw c.in-OfAmount.is
    (then_ok c.read_amount_call.result _ _ c.read_amount_call.ensures.value (λ _ each. each (numbers_of c.args.numbering.now)))
