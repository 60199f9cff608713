use Rattle.std.proofs.Common.{◌≡◌, ℕ, ◌+◌, Bool, List, String, Global, Some, drop, not, string_bytes, arith, sym, ap, subst, refl, ◌∙◌}
use Rattle.std.proofs.Common.{true, false, HashMap}
use Rattle.std.specs.Prelude.{slice_get}
use Rattle.std.proofs.lemmas.Bool.{and_parts}
use Rattle.doc_rules.specs.declared.subject.Subject.{Subject}
use Rattle.doc_tree.specs.declared.hashing.NameHashing.{NameHashing}
use Rattle.doc_tree.specs.Scope.{AreUnseen, Extends, Scope, is_named, scope_of, with_label, with_labels}
use Rattle.doc_tree.proofs.LabelLemmas.{extends_twice, labels_from, unseen_before, unseen_one, with_label_extends}
use Rattle.doc_tree.proofs.labels.add_labels.Goals as goal
use Rattle.doc_tree.proofs.labels.add_labels.Goals.{in-Some+in_ok-all_new, in_default}

-- one label more
one_more : (es : List (String Global × Subject)) (i : ℕ) (k : String Global) (a : Subject) (start here next : Scope)
    → start ≡ with_labels (scope_of (drop i es)) here → Some (k, a) ≡ slice_get es i
    → next ≡ with_label (Some (string_bytes k)) a here → start ≡ with_labels (scope_of (drop (i + 1) es)) next
one_more es i k a start here next invariant at added =
    invariant ∙ ap (λ rest. with_labels (scope_of rest) here) (labels_from es i (k, a) at)
    ∙ ap (with_labels (scope_of (drop (i + 1) es))) (sym added)

-- what is found new is not seen
is_new : (seen new : Bool) → new ≡ not seen → new ≡ true → seen ≡ false
is_new true new is e = cc
is_new false new is e = refl

pub loop-index-preserved : goal.loop-index-preserved
loop-index-preserved c =
    let es = c.args.added.now.entries in
    let l = c.loop-index in
    let start = scope_of c.args.labels.now.entries in
    let here = scope_of l.labels.entries in
    let next = scope_of c.match-get_index.labels.entries in
    elim c.match-get_index.branch [
      | in-Some+in_ok-all_new w ↦
          let k = w.in-Some.name.now in
          let a = w.in-Some.subject.now in
          let name = string_bytes k in
          let shown : next ≡ with_label (Some name) a here =
          ap (λ (m : HashMap (String Global) Subject NameHashing). scope_of m.entries) w.labels-is
          ∙ w.in_ok-all_new.ensures.labels ∙ ap (λ n. with_label (Some n) a here) w.as_str.ensures.value in
          let told : w.in_ok-all_new.field-0 ≡ not (is_named name here) = w.in_ok-all_new.ensures.new
          ∙ ap (λ n. not (is_named n here)) w.as_str.ensures.value in
          record {
            added = one_more es l.index k a _ here next l.invariant.added w.in-Some.ensures.entry shown;
            extends = extends_twice start here next l.invariant.extends
                (subst (Extends here) (sym shown) (with_label_extends (Some name) a here));
            new = λ all later.
                let both : (l.all_new ≡ true) × (w.in_ok-all_new.field-0 ≡ true) = and_parts _ _ (sym w.all_new-is ∙ all) in
                let unseen : is_named name start ≡ false = unseen_before name start here l.invariant.extends (is_new _ _ told both.1) in
                l.invariant.new both.0 (subst (λ (xs : List (String Global × Subject)). AreUnseen (scope_of xs) start)
                (sym (labels_from es l.index (k, a) w.in-Some.ensures.entry))
                (unseen_one name a (scope_of (drop (l.index + 1) es)) start unseen later));
          }
      | in_default w ↦ let none : false ≡ true = w.in_default.ensures.found.1
          (omega (arith, c.len-index-end.ensures.len, c.loop-index-test.true)) in cc
    ]
