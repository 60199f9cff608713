use Rattle.std.proofs.Common.{◌≡◌, ◌≤◌, ◌∷◌, None, Some, true, refl, sym, subst, arith, le-leb, rules}
use Rattle.std.specs.Prelude.{codes}
use Rattle.json.specs.Token.{Token}
use Rattle.serde_json.specs.Data.{boolean, member, no_members, string}
use Rattle.doc_tokens.specs.Pulled.{ReadsValue, abort_step}
use Rattle.doc_tokens.proofs.PulledLemmas.{reads_boolean, reads_member, reads_no_members, reads_object, reads_string}
use Rattle.doc_tokens.proofs.pull_blocks.pull_reason.Goals as goal

pub returns-in_ok-pull_end_object-in-Some-Bool-true : goal.returns-in_ok-pull_end_object-in-Some-Bool-true
returns-in_ok-pull_end_object-in-Some-Bool-true c =
    let new = c.pull_end_object.new.reader in
    let old = c.args.reader.now in
    let all : old ≡ Token.boolean true ∷ Token.end_object ∷ new = grind (arith, rules) in
    let ms = member (codes "abort") (boolean true) no_members in (
      subst (λ ts. ReadsValue 1 (Token.begin_object ∷ Token.key (codes "abort") ∷ ts) (abort_step None) new) (sym all)
          (reads_object 0 _ ms new (reads_member 0 no_members (codes "abort") _ _ (Token.end_object ∷ new) new (boolean true) ms refl
          (omega arith) (reads_boolean 0 true _) (reads_no_members 0 ms _ new refl))),
      refl,
    )

pub returns-in_ok-pull_end_object-in-Some-String : goal.returns-in_ok-pull_end_object-in-Some-String
returns-in_ok-pull_end_object-in-Some-String c =
    let new = c.pull_end_object-in-Some-String.new.reader in
    let old = c.args.reader.now in
    let s = c.in-Some-String.reason.now in
    let all : old ≡ Token.string s ∷ Token.end_object ∷ new = grind (arith, rules) in
    let late : 3 ≤ c.args.version = omega arith in
    let ms = member (codes "abort") (string s) no_members in (
      subst (λ ts. ReadsValue 1 (Token.begin_object ∷ Token.key (codes "abort") ∷ ts) (abort_step (Some s)) new) (sym all)
          (reads_object 0 _ ms new (reads_member 0 no_members (codes "abort") _ _ (Token.end_object ∷ new) new (string s) ms refl
          (omega arith) (reads_string 0 s _) (reads_no_members 0 ms _ new refl))),
      rw (le-leb _ _ late) refl,
    )
