use Rattle.std.proofs.Common.{◌≡◌, ◌∷◌, option_map, refl, ap, arith, rules}
use Rattle.std.specs.Prelude.{codes}
use Rattle.json.specs.Reads.{token_of}
use Rattle.json.specs.Token.{Token}
use Rattle.serde_json.specs.Data.{string, put}
use Rattle.doc_tokens.specs.Pulled.{with_abort}
use Rattle.doc_tokens.proofs.PulledLemmas.{reads_member, reads_no_members, reads_string}
use Rattle.doc_tokens.proofs.pull.pull_operation_rest.Goals as goal

pub returns-in-EndObject : goal.returns-in-EndObject
returns-in-EndObject c =
    let ended : token_of c.args.first ≡ Token.end_object = ap token_of c.in-EndObject.is in
    (refl, λ found. rw ended (reads_no_members 0 found _ c.args.reader.now refl))

pub returns-in_ok-abort-in-Key-as : goal.returns-in_ok-abort-in-Key-as
returns-in_ok-abort-in-Key-as c =
    let new = c.pull_else.new.reader in
    let mid = c.pull_text.new.reader in
    let s = c.in_ok-label-in-Key-as.label.now in
    let told = option_map (λ reason. option_map (λ text. text.now) reason) c.in_ok-abort-in-Key-as.abort in
    let given = c.in_ok-abort-in-Key-as.ensures in
    let named : token_of c.args.first ≡ Token.key (codes "as") = grind (arith, rules) in
    let all : c.args.reader.now ≡ Token.string s ∷ mid = grind (arith, rules) in (
      given.0,
      λ found. rw (all, named)
          (reads_member 0 found (codes "as") _ _ mid new (string s) (with_abort told (put (codes "as") (string s) found))
          refl (omega arith) (reads_string 0 s _) (given.1 (put (codes "as") (string s) found))),
    )
