use Rattle.std.proofs.Common.{◌≡◌, ◌∷◌, refl, arith, rules, sym, subst}
use Rattle.json.specs.Token.{Token}
use Rattle.doc_tokens.specs.Pulled.{ReadsMembers}
use Rattle.doc_tokens.proofs.PulledLemmas.{reads_no_members}
use Rattle.doc_tokens.proofs.pull.pull_else.Goals as goal

pub returns-in-Some-EndObject : goal.returns-in-Some-EndObject
returns-in-Some-EndObject c =
    let new = c.next.new.self in
    let all : c.args.reader.now ≡ Token.end_object ∷ new = grind (arith, rules) in (
      refl,
      λ found. subst (λ ts. ReadsMembers 0 found ts found new) (sym all) (reads_no_members 0 found _ new refl),
    )
