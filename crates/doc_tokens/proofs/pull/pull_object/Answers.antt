use Rattle.std.proofs.Common.{◌≡◌, ◌∷◌, sym, subst, ap, ◌+◌, suc, arith}
use Rattle.json.specs.Token.{Token}
use Rattle.serde_json.specs.Data.{no_members, object}
use Rattle.serde_json.specs.View.{members_view}
use Rattle.doc_tokens.specs.Pulled.{ReadsMembers, ReadsValue}
use Rattle.doc_tokens.proofs.PulledLemmas.{IfOk_then, reads_deeper, reads_object}
use Rattle.doc_tokens.proofs.pull.pull_object.Goals as goal

pub returns : goal.returns
returns c =
    let k = c.args.depth in
    let old = Token.key c.args.name.now ∷ c.args.reader.now in
    let new = c.pull_more_members.new.reader in
    let none : members_view c.new.result.entries ≡ no_members = ap members_view c.new.ensures.empty in
    IfOk_then c.pull_more_members.result c.pull_more_members.ensures
    (λ value done. subst (λ d. ReadsValue (k + 1) (Token.begin_object ∷ old) d new) (sym done.1)
    (reads_deeper (suc k) (k + 1) _ (object done.0) new (omega arith)
    (reads_object k old done.0 new (subst (λ found. ReadsMembers k found old done.0 new) none done.2))))
