use Rattle.std.proofs.Common.{◌≡◌, ◌∷◌, [], ap, ◌∙◌, arith, rules}
use Rattle.doc_tree.specs.Answer.{IsMet}
use Rattle.doc_tree.specs.Demand.{one_more_start}
use Rattle.doc_tree.specs.Scope.{Numbers, numbers_of, with_item}
use Rattle.doc_tree.specs.Spelled.{item_of}
use Rattle.doc_tokens.proofs.pull_objects.pull_pair.Goals as goal

pub returns : goal.returns
returns c =
    let k = c.in_ok-key_name.key_name.now in
    let s = c.in_ok-key_name.bound_name.now in
    let named = c.in_ok-key_name.ensures in
    let numbers = numbers_of c.args.numbering.now in
    let mid = numbers_of c.item_of.new.numbering in
    let counted : IsMet c.args.counts.now (one_more_start c.args.version ∷ []) c.one_more_start.new.self = grind (arith, rules) in
    let first : c.in_ok-key.key ≡ item_of k numbers = grind (arith, rules) in
    let second : c.in_ok-bound.bound ≡ item_of s mid = grind (arith, rules) in
    let between : mid ≡ with_item k numbers = grind (arith, rules) in
    let after : numbers_of c.item_of-2.new.numbering ≡ with_item s mid = grind (arith, rules) in (
      k,
      s,
      named.0,
      named.1,
      named.2,
      counted,
      first,
      second ∙ ap (λ (n : Numbers). item_of s n) between,
      after ∙ ap (λ (n : Numbers). with_item s n) between,
    )
