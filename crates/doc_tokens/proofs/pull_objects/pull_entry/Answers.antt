use Rattle.std.proofs.Common.{◌≡◌, ◌∷◌, [], arith, rules}
use Rattle.doc_tree.specs.Answer.{IsMet}
use Rattle.doc_tree.specs.Demand.{one_more_start}
use Rattle.doc_tree.specs.Scope.{numbers_of, with_item}
use Rattle.doc_tree.specs.Spelled.{item_of}
use Rattle.doc_tokens.proofs.pull_objects.pull_entry.Goals as goal

pub returns : goal.returns
returns c =
    let s = c.in_ok-name.name.now in
    let named = c.in_ok-name.ensures in
    let numbers = numbers_of c.args.numbering.now in
    let counted : IsMet c.args.counts.now (one_more_start c.args.version ∷ []) c.one_more_start.new.self = grind (arith, rules) in
    let value : c.in_ok-item.item ≡ item_of s numbers = grind (arith, rules) in
    let joined : numbers_of c.item_of.new.numbering ≡ with_item s numbers = grind (arith, rules) in
    (s, named.0, named.1, counted, value, joined)
