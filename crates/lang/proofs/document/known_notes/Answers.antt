use Rattle.std.proofs.Common.{◌≡◌, ◌≢◌, ◌<◌, Some, Err, [], length, sym, subst, ap, ◌∙◌, arith}
use Rattle.json.specs.Lex.{tokens}
use Rattle.serde_json.specs.Data.{object}
use Rattle.doc_tree.specs.Asked.{document_shape_asked}
use Rattle.doc_tree.specs.Demand.{check, no_counts}
use Rattle.doc_tree.specs.Places.{fault_in, here}
use Rattle.doc_tree.proofs.Checks.{passed_on}
use Rattle.faults.specs.Faults.{memory_fault, wrong_outside}
use Rattle.faults.specs.declared.fault.Wrong.TheVariants.{Shape}
use Rattle.doc_tokens.specs.Passed.{AreNoted}
use Rattle.doc_tokens.specs.Pulled.{ReadsValue}
use Rattle.doc_tokens.proofs.CountLemmas.{has_objects, has_transactions}
use Rattle.doc_tokens.proofs.LengthLemmas.{tokens_within}
use Rattle.doc_tokens.proofs.NoteLemmas.{noted_shape, noted_version_in}
use Rattle.doc_tokens.proofs.PulledLemmas.{pick}
use Rattle.lang.specs.Reading.{spelled_by, value_of}
use Rattle.lang.proofs.RefusedLemmas.{no_object_shape, not_met, refused_for, shape_first}
use Rattle.lang.proofs.SinglyLemmas.{matched_none, matched_some, nothing_read, told_some}
use Rattle.lang.proofs.document.known_notes.Goals as goal

pub returns-in_default-clause-shape : goal.returns-in_default-clause-shape
returns-in_default-clause-shape c other d is met =
    nothing_read d (sym (matched_none c.in_ok-noted.field-0 _ _ c.in_default.is c.in_ok-noted.ensures) ∙ is)

pub returns-in_default-noted-clause-fault : goal.returns-in_default-noted-clause-fault
returns-in_default-noted-clause-fault c other =
    let given = matched_some c.in_ok-noted.field-0 c.in-Some.noted _ _ c.in-Some.is c.in_ok-noted.ensures in
    let d = given.0 in
    let none = subst (λ notes. AreNoted notes d) c.in_default-noted.is given.2 in
    refused_for c.args.bytes.now d _ given.1 (shape_first d _ (no_object_shape d none)) ∙ ap Err (sym c.outside-in_default-noted.ensures)

pub returns-in_default-noted-clause-shape : goal.returns-in_default-noted-clause-shape
returns-in_default-noted-clause-shape c other d is met =
    let given = matched_some c.in_ok-noted.field-0 c.in-Some.noted _ _ c.in-Some.is c.in_ok-noted.ensures in
    let same : given.0 ≡ d = ap (pick d) (sym given.1 ∙ is) in
    let none = subst (λ notes. AreNoted notes given.0) c.in_default-noted.is given.2 in
    not_met d no_counts (wrong_outside Shape)
    (subst (λ x. fault_in (here (check no_counts (document_shape_asked x))) ≡ Some (wrong_outside Shape)) same (no_object_shape given.0
    none))
    met

pub returns-in_err-check_notes-clause-fault : goal.returns-in_err-check_notes-clause-fault
returns-in_err-check_notes-clause-fault c =
    let bytes = c.args.bytes.now in
    let given = matched_some c.in_ok-noted.field-0 c.in-Some.noted _ _ c.in-Some.is c.in_ok-noted.ensures in
    let d = given.0 in
    let noted = subst (λ notes. AreNoted notes d) c.in-Some-noted.is given.2 in
    let e = c.in_err-check_notes.field-0.0 in
    let shape : fault_in (here (check no_counts (document_shape_asked d))) ≡ Some e =
    ap (λ x. fault_in (here (check no_counts (document_shape_asked x)))) noted.1
    ∙ ap (λ asked. fault_in (here (check no_counts asked))) (sym (noted_shape c.in-Some-noted.notes noted.0 noted.2))
    ∙ c.in_err-check_notes.ensures.fault in
    passed_on c.from_residual-in_err-check_notes.result (λ fault. fault ≢ memory_fault → spelled_by (value_of bytes) ≡ Err fault) e
    c.from_residual-in_err-check_notes.ensures.1 (λ other. refused_for bytes d e given.1 (shape_first d e shape))

pub returns-in_err-check_notes-clause-shape : goal.returns-in_err-check_notes-clause-shape
returns-in_err-check_notes-clause-shape c =
    let given = matched_some c.in_ok-noted.field-0 c.in-Some.noted _ _ c.in-Some.is c.in_ok-noted.ensures in
    let noted = subst (λ notes. AreNoted notes given.0) c.in-Some-noted.is given.2 in
    let e = c.in_err-check_notes.field-0.0 in
    passed_on c.from_residual-in_err-check_notes.result _ e c.from_residual-in_err-check_notes.ensures.1 (λ other d is met.
    let same : object noted.0 ≡ d = sym noted.1 ∙ ap (pick d) (sym given.1 ∙ is) in
    not_met d no_counts e (ap (λ x. fault_in (here (check no_counts (document_shape_asked x)))) (sym same)
    ∙ ap (λ asked. fault_in (here (check no_counts asked))) (sym (noted_shape c.in-Some-noted.notes noted.0 noted.2))
    ∙ c.in_err-check_notes.ensures.fault) met)

pub returns-clause-known : goal.returns-clause-known
returns-clause-known c =
    let bytes = c.args.bytes.now in
    let given = matched_some c.in_ok-noted.field-0 c.in-Some.noted _ _ c.in-Some.is c.in_ok-noted.ensures in
    let d = given.0 in
    let notes = c.in-Some-noted.notes in
    let noted = subst (λ notes. AreNoted notes d) c.in-Some-noted.is given.2 in
    let lists = told_some c.in-Some.noted notes _ c.in-Some-noted.is given.3 in
    let reads = subst (λ x. ReadsValue 127 (tokens bytes) x []) noted.1 lists.0 in
    let few : length (tokens bytes) < 4294967295 = omega (arith, tokens_within bytes, c.requires) in (
      d,
      given.1,
      record {
        members = noted.0;
        is = noted.1;
        version = noted_version_in notes d noted;
        shape = ap (λ x. check no_counts (document_shape_asked x)) noted.1
            ∙ ap (check no_counts) (sym (noted_shape notes noted.0 noted.2)) ∙ c.in_ok-check_notes.ensures.met;
        objects = has_objects (tokens bytes) [] noted.0 reads few notes lists.1;
        transactions = has_transactions (tokens bytes) [] noted.0 reads few notes lists.1;
      },
    )
