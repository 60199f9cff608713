use Rattle.std.proofs.Common.{◌≡◌, sym, subst, ap, ◌∙◌, arith, rules}
use Rattle.std.specs.Prelude.{codes}
use Rattle.doc_tokens.specs.Pulled.{ReadsValue, first_key}
use Rattle.doc_tokens.specs.PulledObjects.{IsOpenedAs, declaration}
use Rattle.doc_tokens.proofs.pull_objects.open_object.Goals as goal

pub returns-in-Common : goal.returns-in-Common
returns-in-Common c start rest reads =
    let now = c.pull_some_key.new.reader in
    let keyed : c.in_ok-key.key.now ≡ codes "kind" = grind (arith, rules) in
    let begun : c.args.reader.now ≡ first_key c.in_ok-key.key.now now = grind (arith, rules) in
    let opened = subst (IsOpenedAs (codes "kind") (codes "name") (first_key (codes "kind") now) c.open_texts-in-kind.new.reader)
    c.in-Common.is c.in_ok-kind-in-kind.ensures in
    subst (λ ts. ReadsValue 125 ts (declaration c.in-Common.name.now c.in-Common.kind.now start) rest)
    (sym (begun ∙ ap (λ k. first_key k now) keyed)) (opened start rest reads)
