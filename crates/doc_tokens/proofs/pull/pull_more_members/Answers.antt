use Rattle.std.proofs.Common.{◌≡◌, ◌∷◌, refl, subst, ap, ◌∙◌, string_bytes, string_cmp, arith, rules}
use Rattle.std.specs.BTreeMap.{insert_entry}
use Rattle.json.specs.Token.{Token}
use Rattle.serde_json.specs.Data.{put}
use Rattle.serde_json.specs.View.{members_view, view}
use Rattle.serde_json.proofs.Views.{view-Object, members_view-insert_entry}
use Rattle.doc_tokens.specs.Pulled.{ReadsMembers}
use Rattle.doc_tokens.proofs.PulledLemmas.{reads_member}
use Rattle.doc_tokens.proofs.pull.pull_more_members.Goals as goal

pub returns : goal.returns
returns c =
    let k = c.args.depth in
    let name = c.args.name.now in
    let v = c.in_ok-member.member in
    let mid = c.pull_value.new.reader in
    let new = c.pull_members.new.reader in
    let found = c.in_ok-pull_members.field-0 in
    let ms = members_view found.entries in
    let before = c.args.before.entries in
    let copied : string_bytes c.in_ok-key.key ≡ name = grind (arith, rules) in
    let entries : c.insert.new.self.entries ≡ insert_entry string_cmp before c.in_ok-key.key v = grind (arith, rules) in
    let inserted : members_view c.insert.new.self.entries ≡ put name (view v) (members_view before) =
    ap members_view entries ∙ members_view-insert_entry before c.in_ok-key.key v ∙ ap (λ n. put n (view v) (members_view before)) copied in
    let rest = subst (λ found. ReadsMembers k found mid ms new) inserted c.in_ok-pull_members.ensures.ok in (
      ms,
      view-Object found,
      reads_member k (members_view before) name (Token.key name ∷ c.args.reader.now) c.args.reader.now mid new (view v) ms refl
          (omega arith) c.in_ok-member.ensures.ok rest,
    )
