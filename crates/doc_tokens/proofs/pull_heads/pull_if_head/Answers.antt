use Rattle.std.specs.Prelude.{codes}
use Rattle.std.proofs.Common.{◌≡◌, [], ◌∷◌, refl, subst, sym, arith, rules}
use Rattle.json.specs.Token.{Token}
use Rattle.serde_json.specs.Data.{no_members, member, put, string}
use Rattle.doc_tree.specs.Answer.{IsMet}
use Rattle.doc_tree.specs.Asked.{seen_asked, subject_of, test_asked}
use Rattle.doc_tree.specs.Demand.{one_more_node}
use Rattle.doc_tokens.specs.Pulled.{ReadsMembers, if_step, test_key}
use Rattle.doc_tree.specs.Scope.{label_number, numbers_of, scope_of}
use Rattle.doc_tree.specs.Spelled.{test_of}
use Rattle.doc_tokens.proofs.PulledLemmas.{reads_member, reads_string}
use Rattle.doc_tokens.proofs.pull_heads.pull_if_head.Goals as goal

pub returns : goal.returns
returns c =
    let scope = scope_of c.args.state.now.labels.entries in
    let start = c.args.state.now.counts in
    let counted = c.one_more_node.new.self in
    let numbers = numbers_of c.args.state.now.numbering in
    let tested = numbers_of c.pull_test.new.numbering in
    let old = c.args.reader.now in
    let r1 = c.pull_text.new.reader in
    let r2 = c.pull_test.new.reader in
    let r3 = c.pull_key.new.reader in
    let s = c.in_ok-name.name.now in
    let test = c.in_ok-test.ensures in
    let key = test.0 in
    let v = test.1 in
    let m1 = member (codes "if") (string s) no_members in
    let named : old ≡ Token.string s ∷ r1 = grind (arith, rules) in
    let keyed : r2 ≡ Token.key (codes "then") ∷ r3 = grind (arith, rules) in
    let one : IsMet start (one_more_node c.args.version ∷ []) counted = grind (arith, rules) in
    let seen : IsMet counted (seen_asked scope s) counted = grind (arith, rules) in
    let number : c.in_ok-label.label ≡ label_number s scope = grind (arith, rules) in
    let subject : c.in_ok-label.subject ≡ subject_of s scope = grind (arith, rules) in (
      s,
      key,
      v,
      λ k ms new later. subst (λ ts. ReadsMembers k no_members (Token.key (codes "if") ∷ ts) ms new) (sym named)
          (reads_member k no_members (codes "if") (Token.key (codes "if") ∷ Token.string s ∷ r1) (Token.string s ∷ r1) r1 new
          (string s) ms refl (omega arith) (reads_string k s r1)
          (test.2 k m1 ms new (subst (λ ts. ReadsMembers k (put (test_key key) v m1) ts ms new) (sym keyed) later))),
      one,
      seen,
      λ first second. subst (λ x. IsMet counted (test_asked c.args.version x (if_step s key v first second)) counted) subject
          (test.3 s first second counted),
      λ first second. subst (λ x. (c.in_ok-test.test, tested) ≡ test_of x numbers (if_step s key v first second)) subject
          (test.4 s first second),
      number,
      refl,
    )
