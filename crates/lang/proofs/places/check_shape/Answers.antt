use Rattle.std.proofs.Common.{◌≡◌, ◌∙◌, ℕ, List, Some, Err, length, sym, ap, ap₂}
use Rattle.std.specs.Prelude.{codes, is_some, nat_le, unwrap_or}
use Rattle.serde_json.specs.Data.{Data}
use Rattle.serde_json.specs.Events.{items_len}
use Rattle.serde_json.specs.View.{items_view, view}
use Rattle.serde_json.specs.declared.value.Value.{Value}
use Rattle.serde_json.proofs.Views.{items_len-items_view}
use Rattle.doc_rules.specs.declared.rule.CountRule.TheVariants as counted
use Rattle.doc_rules.specs.declared.rule.Rule.TheVariants.{Few}
use Rattle.doc_tree.specs.Answer.{IsFirst}
use Rattle.doc_tree.specs.Demand.{broken_at}
use Rattle.doc_tree.specs.Asked.{document_shape_asked, objects_in, or_no_items, transactions_in, version_in, version_of}
use Rattle.doc_rules.specs.Limits.{limits_of}
use Rattle.doc_rules.specs.declared.limits.Limits.{Limits}
use Rattle.doc_rules.specs.Forms.{member_names}
use Rattle.doc_rules.specs.declared.form.Form.TheVariants as form
use Rattle.doc_tree.specs.Look.{has_only, list_member}
use Rattle.doc_tree.proofs.Checks.{passed_on}
use Rattle.lang.proofs.ShapeLemmas.{many_objects, many_transactions, no_objects, no_transactions, no_version, other_part, shape_met}
use Rattle.lang.proofs.places.check_shape.Goals as goal

-- the members that are looked for are those of the form
abbrev of_form : {names : List (List ℕ)} (d : Data) → names ≡ member_names form.Document
    → has_only (member_names form.Document) d ≡ has_only names d
of_form d known = ap (λ n. has_only n d) (sym known)

pub returns-in_err-demand-clause-first : goal.returns-in_err-demand-clause-first
returns-in_err-demand-clause-first c =
    let start = c.args.counts.now in
    let d = view c.args.value.now in
    let failed = c.in_err-demand.ensures in
    passed_on c.from_residual.result (IsFirst start (document_shape_asked d)) c.in_err-demand.field-0.0 c.from_residual.ensures.1
    (λ other. other_part start d (of_form _ c.members.ensures ∙ sym c.has_only.ensures ∙ failed.0) ∙ ap Err (sym failed.1))

pub returns-in_default-clause-first : goal.returns-in_default-clause-first
returns-in_default-clause-first c other =
    no_version c.args.counts.now (view c.args.value.now) (of_form _ c.members.ensures ∙ sym c.has_only.ensures ∙ c.in_ok-demand.ensures)
    (ap is_some (sym c.in_default.ensures)) ∙ ap Err (sym c.broken.ensures)

pub returns-in_default-list_member-clause-first : goal.returns-in_default-list_member-clause-first
returns-in_default-list_member-clause-first c other =
    no_objects c.args.counts.now (view c.args.value.now) (of_form _ c.members.ensures ∙ sym c.has_only.ensures ∙ c.in_ok-demand.ensures)
    (ap is_some (sym c.in-Some.ensures)) (ap is_some (sym c.in_default-list_member.ensures))
    ∙ ap Err (sym c.broken-in_default-list_member.ensures)

pub returns-in_default-list_member-2-clause-first : goal.returns-in_default-list_member-2-clause-first
returns-in_default-list_member-2-clause-first c other =
    no_transactions c.args.counts.now (view c.args.value.now)
    (of_form _ c.members.ensures ∙ sym c.has_only.ensures ∙ c.in_ok-demand.ensures)
    (ap is_some (sym c.in-Some.ensures)) (ap is_some (sym c.in-Some-list_member.ensures))
    (ap is_some (sym c.in_default-list_member-2.ensures)) ∙ ap Err (sym c.broken-in_default-list_member-2.ensures)

-- the limits of a version are those of the document that has it
abbrev limits_known : (version : ℕ) (limits : Limits) (d : Data) → Some version ≡ version_of d → limits ≡ limits_of version
    → limits ≡ limits_of (version_in d)
limits_known version limits d has is = is ∙ ap (λ o. limits_of (unwrap_or o 1)) has

-- how many objects there are
abbrev objects_counted : (n : ℕ) (limits : Limits) (d : Data) (list : List Value) → limits ≡ limits_of (version_in d)
    → Some (items_view list) ≡ list_member (codes "objects") d → n ≡ length list
    → nat_le (items_len (objects_in d)) (limits_of (version_in d)).objects ≡ nat_le n limits.objects
objects_counted n limits d list known is count =
    ap₂ nat_le (ap (λ o. items_len (or_no_items o)) (sym is) ∙ items_len-items_view list ∙ sym count) (ap (λ l. l.objects) (sym known))

-- how many transactions there are
abbrev transactions_counted : (n : ℕ) (limits : Limits) (d : Data) (list : List Value) → limits ≡ limits_of (version_in d)
    → Some (items_view list) ≡ list_member (codes "transactions") d → n ≡ length list
    → nat_le (items_len (transactions_in d)) (limits_of (version_in d)).transactions ≡ nat_le n limits.transactions
transactions_counted n limits d list known is count =
    ap₂ nat_le (ap (λ o. items_len (or_no_items o)) (sym is) ∙ items_len-items_view list ∙ sym count)
    (ap (λ l. l.transactions) (sym known))

pub returns-in_err-demand-2-clause-first : goal.returns-in_err-demand-2-clause-first
returns-in_err-demand-2-clause-first c =
    let start = c.args.counts.now in
    let d = view c.args.value.now in
    let known = limits_known _ _ d c.in-Some.ensures c.of-limits.ensures in
    let versioned = ap (λ version. unwrap_or version 1) c.in-Some.ensures in
    let failed = c.in_err-demand-2.ensures in
    passed_on c.from_residual-in_err-demand-2.result (IsFirst start (document_shape_asked d)) c.in_err-demand-2.field-0.0
    c.from_residual-in_err-demand-2.ensures.1
    (λ other. many_objects start d (of_form _ c.members.ensures ∙ sym c.has_only.ensures ∙ c.in_ok-demand.ensures)
    (ap is_some (sym c.in-Some.ensures))
    (ap is_some (sym c.in-Some-list_member.ensures)) (ap is_some (sym c.in-Some-list_member-2.ensures))
    (objects_counted _ _ d _ known c.in-Some-list_member.ensures (c.len.ensures ∙ c.in-Some-list_member.objects.now.ok.0)
    ∙ failed.0) ∙ ap (λ v. Err (broken_at (Few (counted.Objects v)) start)) (sym versioned) ∙ ap Err (sym failed.1))

pub returns-in_err-demand-3-clause-first : goal.returns-in_err-demand-3-clause-first
returns-in_err-demand-3-clause-first c =
    let start = c.args.counts.now in
    let d = view c.args.value.now in
    let known = limits_known _ _ d c.in-Some.ensures c.of-limits.ensures in
    let versioned = ap (λ version. unwrap_or version 1) c.in-Some.ensures in
    let failed = c.in_err-demand-3.ensures in
    passed_on c.from_residual-in_err-demand-3.result (IsFirst start (document_shape_asked d)) c.in_err-demand-3.field-0.0
    c.from_residual-in_err-demand-3.ensures.1
    (λ other. many_transactions start d (of_form _ c.members.ensures ∙ sym c.has_only.ensures ∙ c.in_ok-demand.ensures)
    (ap is_some (sym c.in-Some.ensures))
    (ap is_some (sym c.in-Some-list_member.ensures)) (ap is_some (sym c.in-Some-list_member-2.ensures))
    (objects_counted _ _ d _ known c.in-Some-list_member.ensures (c.len.ensures ∙ c.in-Some-list_member.objects.now.ok.0)
    ∙ c.in_ok-demand-2.ensures)
    (transactions_counted _ _ d _ known c.in-Some-list_member-2.ensures (c.len-2.ensures ∙ c.in-Some-list_member-2.transactions.now.ok.0)
    ∙ failed.0) ∙ ap (λ v. Err (broken_at (Few (counted.Transactions v)) start)) (sym versioned) ∙ ap Err (sym failed.1))

pub returns-clause-met : goal.returns-clause-met
returns-clause-met c =
    let d = view c.args.value.now in
    let known = limits_known _ _ d c.in-Some.ensures c.of-limits.ensures in
    shape_met c.args.counts.now d (of_form _ c.members.ensures ∙ sym c.has_only.ensures ∙ c.in_ok-demand.ensures)
    (ap is_some (sym c.in-Some.ensures))
    (ap is_some (sym c.in-Some-list_member.ensures)) (ap is_some (sym c.in-Some-list_member-2.ensures))
    (objects_counted _ _ d _ known c.in-Some-list_member.ensures (c.len.ensures ∙ c.in-Some-list_member.objects.now.ok.0)
    ∙ c.in_ok-demand-2.ensures)
    (transactions_counted _ _ d _ known c.in-Some-list_member-2.ensures (c.len-2.ensures ∙ c.in-Some-list_member-2.transactions.now.ok.0)
    ∙ c.in_ok-demand-3.ensures)
