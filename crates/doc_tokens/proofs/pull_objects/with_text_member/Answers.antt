use Rattle.std.proofs.Common.{◌≡◌, ap, ap₂, ◌∙◌, string_bytes, string_cmp, arith, rules}
use Rattle.std.specs.BTreeMap.{insert_entry}
use Rattle.serde_json.specs.Data.{put, string}
use Rattle.serde_json.specs.View.{members_view, view}
use Rattle.serde_json.specs.declared.value.Value.{String, the_lemmas}
use Rattle.serde_json.proofs.Views.{members_view-insert_entry}
use Rattle.doc_tokens.proofs.pull_objects.with_text_member.Goals as goal

pub returns : goal.returns
returns c =
    let found = c.args.found.entries in
    let k = c.in_ok-key.key in
    let t = c.in_ok-text.text in
    let keyed : string_bytes k ≡ c.args.key.now = grind (arith, rules) in
    let copied : string_bytes t ≡ c.args.text.now = grind (arith, rules) in
    let seen : view (String t) ≡ string (string_bytes t) = search (rules, the_lemmas) in
    let entries : c.insert.new.self.entries ≡ insert_entry string_cmp found k (String t) = grind (arith, rules) in
    ap members_view entries ∙ members_view-insert_entry found k (String t)
    ∙ ap₂ (λ name d. put name d (members_view found)) keyed (seen ∙ ap string copied)
