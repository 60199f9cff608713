use Rattle.std.proofs.Common.{rules, arith, ◌≡◌, true, false, not, None, ap, sym, ◌∙◌, is_some}
use Rattle.std.specs.String.{string_eq}
use Rattle.indexmap.specs.IndexMap.{get}
use Rattle.doc_tree.specs.Scope.{is_named, scope_of}
use Rattle.doc_tree.proofs.LabelLemmas.{is_named-get, scope_of-insert, scope_of-same}
use Rattle.doc_tree.proofs.labels.insert_label.Goals as goal

pub returns-in-Occupied-clause-new : goal.returns-in-Occupied-clause-new
returns-in-Occupied-clause-new c =
    let m = c.args.labels.now in
    let k = c.in_ok-from_str.field-0 in
    let there : is_some (get string_eq m k) ≡ true = grind (arith, rules) in
    ap not (sym (is_named-get m k c.args.name.now c.in_ok-from_str.ensures.ok ∙ there))

pub returns-in-Occupied-clause-labels : goal.returns-in-Occupied-clause-labels
returns-in-Occupied-clause-labels c =
    let m = c.args.labels.now in
    let k = c.in_ok-from_str.field-0 in
    let there : is_some (get string_eq m k) ≡ true = grind (arith, rules) in
    scope_of-same m k c.args.subject c.args.name.now c.in_ok-from_str.ensures.ok there _ (grind (arith, rules))

pub returns-in-Vacant-clause-new : goal.returns-in-Vacant-clause-new
returns-in-Vacant-clause-new c =
    let m = c.args.labels.now in
    let k = c.in_ok-from_str.field-0 in
    let absent : get string_eq m k ≡ None = grind (arith, rules) in
    ap not (sym (is_named-get m k c.args.name.now c.in_ok-from_str.ensures.ok ∙ ap is_some absent))

pub returns-in-Vacant-clause-labels : goal.returns-in-Vacant-clause-labels
returns-in-Vacant-clause-labels c =
    let m = c.args.labels.now in
    let k = c.in_ok-from_str.field-0 in
    let a = c.args.subject in
    let absent : get string_eq m k ≡ None = grind (arith, rules) in
    let new : is_named c.args.name.now (scope_of m.entries) ≡ false = is_named-get m k c.args.name.now c.in_ok-from_str.ensures.ok
    ∙ ap is_some absent in
    ap scope_of (grind (arith, rules)) ∙ scope_of-insert m k a c.args.name.now c.in_ok-from_str.ensures.ok new
