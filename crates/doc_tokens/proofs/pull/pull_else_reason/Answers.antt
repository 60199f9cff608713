use Rattle.std.proofs.Common.{◌≡◌, ◌∷◌, true, refl, arith, rules, sym, subst}
use Rattle.std.specs.Prelude.{codes}
use Rattle.json.specs.Token.{Token}
use Rattle.serde_json.specs.Data.{boolean, put, string}
use Rattle.doc_tree.specs.Asked.{has_fills}
use Rattle.doc_tokens.specs.Pulled.{ReadsMembers}
use Rattle.doc_tokens.proofs.PulledLemmas.{reads_boolean, reads_member, reads_no_members, reads_string}
use Rattle.doc_tokens.proofs.pull.pull_else_reason.Goals as goal

pub returns-in_ok-pull_end_object-in-Some-Bool-true : goal.returns-in_ok-pull_end_object-in-Some-Bool-true
returns-in_ok-pull_end_object-in-Some-Bool-true c =
    let new = c.pull_end_object.new.reader in
    let all : c.args.reader.now ≡ Token.boolean true ∷ Token.end_object ∷ new = grind (arith, rules) in
    let fills : has_fills c.args.version ≡ true = grind (arith, rules) in (
      fills,
      λ found. subst (λ ts. ReadsMembers 0 found (Token.key (codes "else") ∷ ts) (put (codes "else") (boolean true) found) new) (sym all)
          (reads_member 0 found (codes "else") _ _ (Token.end_object ∷ new) new (boolean true) (put (codes "else") (boolean true) found)
          refl (omega arith) (reads_boolean 0 true _) (reads_no_members 0 (put (codes "else") (boolean true) found) _ new refl)),
    )

pub returns-in_ok-pull_end_object-in-Some-String : goal.returns-in_ok-pull_end_object-in-Some-String
returns-in_ok-pull_end_object-in-Some-String c =
    let new = c.pull_end_object-in-Some-String.new.reader in
    let s = c.in-Some-String.reason.now in
    let all : c.args.reader.now ≡ Token.string s ∷ Token.end_object ∷ new = grind (arith, rules) in
    let fills : has_fills c.args.version ≡ true = grind (arith, rules) in (
      fills,
      λ found. subst (λ ts. ReadsMembers 0 found (Token.key (codes "else") ∷ ts) (put (codes "else") (string s) found) new) (sym all)
          (reads_member 0 found (codes "else") _ _ (Token.end_object ∷ new) new (string s) (put (codes "else") (string s) found) refl
          (omega arith) (reads_string 0 s _) (reads_no_members 0 (put (codes "else") (string s) found) _ new refl)),
    )
