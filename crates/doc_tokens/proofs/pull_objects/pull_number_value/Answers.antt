use Rattle.std.proofs.Common.{◌≡◌, ◌∷◌, sym, subst, arith, rules}
use Rattle.json.specs.Token.{Token}
use Rattle.serde_json.specs.Data.{number}
use Rattle.doc_tokens.specs.Pulled.{ReadsValue}
use Rattle.doc_tokens.proofs.PulledLemmas.{IfOk_then, reads_number}
use Rattle.doc_tokens.proofs.pull_objects.pull_number_value.Goals as goal

pub returns-in-Some-Number : goal.returns-in-Some-Number
returns-in-Some-Number c =
    let new = c.next.new.self in
    let s = c.in-Some-Number.text.now in
    let tokens : c.args.reader.now ≡ Token.number s ∷ new = grind (arith, rules) in
    IfOk_then c.number_value.result c.number_value.ensures.ok
    (λ v w. subst (λ d. ReadsValue 0 c.args.reader.now d new) (sym w.2)
    (subst (λ ts. ReadsValue 0 ts (number w.0) new) (sym tokens) (reads_number 0 s w.0 new w.1)))
