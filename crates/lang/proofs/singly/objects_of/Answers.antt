use Rattle.std.specs.Prelude.{codes}
use Rattle.std.proofs.Common.{◌≤◌, subst, sym, ◌∙◌}
use Rattle.serde_json.specs.Data.{array}
use Rattle.serde_json.specs.Events.{items_len}
use Rattle.doc_rules.specs.Limits.{limits_of}
use Rattle.doc_tree.specs.Asked.{objects_in}
use Rattle.doc_tree.specs.Places.{member_named, placed}
use Rattle.doc_tree.specs.Demand.{no_counts}
use Rattle.doc_tree.proofs.Checks.{passed_on}
use Rattle.doc_tokens.specs.Passed.{HasMembers}
use Rattle.lang.proofs.AskedLemmas.{objects}
use Rattle.lang.proofs.MisreadLemmas.{first_below}
use Rattle.lang.proofs.SinglyLemmas.{every_err, few_known, matched_err, matched_ok, objects_failed, objects_pointed, objects_there}
use Rattle.lang.proofs.singly.objects_of.Goals as goal

pub returns-in_err-pass_to_list-clause-err : goal.returns-in_err-pass_to_list-clause-err
returns-in_err-pass_to_list-clause-err c = every_err c.from_residual-in_err-pass_to_list.result _ (λ stop d known.
    absurd (c.in_err-pass_to_list.ensures.err known.members (objects_in d)
    (subst (λ ts. HasMembers (codes "objects") c.args.notes.now.objects_times ts known.members) (sym c.in_ok-reader.ensures.ok)
    known.objects)
    (objects_there c.args.text.now c.args.notes.now d known)))

pub returns-in_err-declared-clause-err : goal.returns-in_err-declared-clause-err
returns-in_err-declared-clause-err c =
    let e = c.in_err-declared.field-0.0 in
    passed_on c.from_residual-in_err-declared.result _ e c.from_residual-in_err-declared.ensures.1 (λ d known.
    let inside = c.in_ok-pass_to_list.ensures.ok known.members (objects_in d)
    (subst (λ ts. HasMembers (codes "objects") c.args.notes.now.objects_times ts known.members) (sym c.in_ok-reader.ensures.ok)
    known.objects)
    (objects_there c.args.text.now c.args.notes.now d known) in
    c.in_err-declared.ensures.err (objects_in d) inside.0 inside.1
    (subst (λ v. items_len (objects_in d) ≤ (limits_of v).objects) (sym (c.version_or_first-version.ensures ∙ known.version))
    (few_known c.args.text.now c.args.notes.now d known).0))

pub returns-in-Ok-clause-ok : goal.returns-in-Ok-clause-ok
returns-in-Ok-clause-ok c d known =
    let inside = c.in_ok-pass_to_list.ensures.ok known.members (objects_in d)
    (subst (λ ts. HasMembers (codes "objects") c.args.notes.now.objects_times ts known.members) (sym c.in_ok-reader.ensures.ok)
    known.objects)
    (objects_there c.args.text.now c.args.notes.now d known) in
    let version = c.version_or_first-version.ensures ∙ known.version in
    let done = matched_ok c.in_ok-declared.field-0 c.in-Ok.declared _ _ c.in-Ok.is
    (c.in_ok-declared.ensures.ok (objects_in d) inside.0 inside.1) in
    (rw (version, c.requires) at done)

pub returns-clause-ok : goal.returns-clause-ok
returns-clause-ok c d known =
    let inside = c.in_ok-pass_to_list.ensures.ok known.members (objects_in d)
    (subst (λ ts. HasMembers (codes "objects") c.args.notes.now.objects_times ts known.members) (sym c.in_ok-reader.ensures.ok)
    known.objects)
    (objects_there c.args.text.now c.args.notes.now d known) in
    let version = c.version_or_first-version.ensures ∙ known.version in
    let e = c.in-Err.inner in
    let failed = matched_err c.in_ok-declared.field-0 e _ _ c.in-Err.is (c.in_ok-declared.ensures.ok (objects_in d) inside.0 inside.1) in
    first_below (member_named (codes "objects")) d (array (objects_in d)) (objects_pointed c.args.text.now c.args.notes.now d known)
    no_counts
    no_counts (objects d no_counts) (placed d) e c.in_ok-misread-in-Err.misread
    (objects_failed c.args.text.now c.args.notes.now d known) (rw (version, c.requires) at failed) c.in_ok-misread-in-Err.ensures
