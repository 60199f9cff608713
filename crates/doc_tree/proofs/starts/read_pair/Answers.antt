use Rattle.std.proofs.Common.{◌∙◌, ap₂}
use Rattle.doc_tree.specs.Scope.{numbers_of}
use Rattle.doc_tree.specs.Spelled.{items_of}
use Rattle.doc_tree.proofs.starts.read_pair.Goals as goal

pub returns-clause-pair : goal.returns-clause-pair
returns-clause-pair c =
    let names = c.in_ok-key_name.ensures in
    c.in_ok-pair.ensures.value ∙ ap₂ (λ x y. items_of x y (numbers_of c.args.numbering.now)) names.key names.value
