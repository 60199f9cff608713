use Rattle.std.proofs.Common.{◌≡◌, ◌∷◌, ap, ◌∙◌, arith, rules}
use Rattle.json.specs.Token as token
use Rattle.doc_tokens.proofs.pull_objects.pull_pair_names.Goals as goal

pub returns : goal.returns
returns c =
    let k = c.in_ok-key.key.now in
    let s = c.in_ok-item.item.now in
    let first = c.in_ok-key.ensures in
    let second = c.in_ok-item.ensures in
    let begun : c.args.reader.now ≡ token.begin_array ∷ c.pull_begin_array.new.reader = grind (arith, rules) in
    let ended : c.pull_name-2.new.reader ≡ token.end_array ∷ c.pull_end_array.new.reader = grind (arith, rules) in (
      begun ∙ ap (λ ts. token.begin_array ∷ ts)
          (first.0 ∙ ap (λ ts. token.string k ∷ ts) (second.0 ∙ ap (λ ts. token.string s ∷ ts) ended)),
      first.1,
      second.1,
    )
