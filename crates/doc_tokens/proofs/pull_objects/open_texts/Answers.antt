use Rattle.std.proofs.Common.{◌≡◌, ◌∷◌, sym, subst, ap, ◌∙◌, arith, rules}
use Rattle.std.specs.Prelude.{codes}
use Rattle.json.specs.Token.{Token}
use Rattle.serde_json.specs.Data.{no_members, put, string}
use Rattle.serde_json.specs.View.{members_view, view}
use Rattle.doc_tokens.specs.Pulled.{ReadsMembers, ReadsValue, first_key}
use Rattle.doc_tokens.specs.PulledObjects.{begun_by}
use Rattle.doc_tokens.proofs.ObjectLemmas.{both_read, common_read, first_read}
use Rattle.doc_tokens.proofs.pull_objects.open_texts.Goals as goal

pub returns-then-ne : goal.returns-then-ne
returns-then-ne c =
    let a = c.args.first.now in
    let s = c.in_ok-text.text.now in
    let old = Token.key c.in_ok-key.key.now ∷ c.pull_some_key.new.reader in
    let new = c.pull_more_members.new.reader in
    let done = c.in_ok-value.ensures in
    let begun : c.args.reader.now ≡ Token.string s ∷ old = grind (arith, rules) in
    let found : members_view c.in_ok-one.one.entries ≡ put a (string s) no_members = c.in_ok-one.ensures
    ∙ ap (λ es. put a (string s) (members_view es)) c.new.ensures.empty in
    subst (λ ts. ReadsValue 125 (first_key a ts) (view c.in_ok-value.value) new) (sym begun)
    (subst (λ d. ReadsValue 125 (first_key a (Token.string s ∷ old)) d new) (sym done.1)
    (first_read a s old new done.0 (subst (λ ms. ReadsMembers 124 ms old done.0 new) found done.2)))

pub returns-then-ne-2 : goal.returns-then-ne-2
returns-then-ne-2 c =
    let a = c.args.first.now in
    let b = c.args.second.now in
    let s = c.in_ok-text.text.now in
    let t = c.in_ok-other.other.now in
    let old = Token.key c.in_ok-key-2.key.now ∷ c.pull_some_key-2.new.reader in
    let new = c.pull_more_members-then-ne-2.new.reader in
    let done = c.in_ok-value-2.ensures in
    let second : c.in_ok-key.key.now ≡ b = grind (arith, rules) in
    let begun : c.args.reader.now ≡ Token.string s ∷ Token.key c.in_ok-key.key.now ∷ Token.string t ∷ old = grind (arith, rules) in
    let all : c.args.reader.now ≡ Token.string s ∷ Token.key b ∷ Token.string t ∷ old = begun
    ∙ ap (λ k. Token.string s ∷ Token.key k ∷ Token.string t ∷ old) second in
    let one : members_view c.in_ok-one-2.one.entries ≡ put a (string s) no_members = c.in_ok-one-2.ensures
    ∙ ap (λ es. put a (string s) (members_view es)) c.new-then-ne-2.ensures.empty in
    let found : members_view c.in_ok-both.both.entries ≡ put b (string t) (put a (string s) no_members) = c.in_ok-both.ensures
    ∙ ap (put b (string t)) one in
    subst (λ ts. ReadsValue 125 (first_key a ts) (view c.in_ok-value-2.value) new) (sym all)
    (subst (λ d. ReadsValue 125 (first_key a (Token.string s ∷ Token.key b ∷ Token.string t ∷ old)) d new) (sym done.1)
    (both_read a b s t old new done.0 (subst (λ ms. ReadsMembers 124 ms old done.0 new) found done.2)))

pub returns : goal.returns
returns c start rest reads =
    let a = c.args.first.now in
    let b = c.args.second.now in
    let s = c.in_ok-text.text.now in
    let t = c.in_ok-other.other.now in
    let now = c.pull_some_key-2.new.reader in
    let second : c.in_ok-key.key.now ≡ b = grind (arith, rules) in
    let third : c.in_ok-key-2.key.now ≡ codes "start" = grind (arith, rules) in
    let begun : c.args.reader.now ≡ Token.string s ∷ Token.key c.in_ok-key.key.now ∷ Token.string t ∷ Token.key c.in_ok-key-2.key.now ∷ now
    = grind (arith, rules) in
    let all : c.args.reader.now ≡ Token.string s ∷ Token.key b ∷ Token.string t ∷ Token.key (codes "start") ∷ now = begun
    ∙ (λ i. Token.string s ∷ Token.key (second i) ∷ Token.string t ∷ Token.key (third i) ∷ now) in
    subst (λ ts. ReadsValue 125 (first_key a ts) (begun_by a b s t start) rest) (sym all) (common_read a b s t start now rest reads)
