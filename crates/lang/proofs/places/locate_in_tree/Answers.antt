use Rattle.std.proofs.Common.{◌≡◌, ◌∙◌, List, ℕ, Bool, true, false, Err, Some, None, IsTrue, ap}
use Rattle.std.proofs.Common.{cond, refl, subst, sym, true≢false}
use Rattle.std.specs.Str.{IsUtf8, is_utf8}
use Rattle.std.proofs.lemmas.Str.{IsUtf8-from_is_utf8, is_utf8-from_IsUtf8}
use Rattle.serde_json.specs.Read.{read as read_text}
use Rattle.serde_json.specs.Errors.{IsMemory}
use Rattle.serde_json.specs.View.{view}
use Rattle.doc_tree.specs.Answer.{IsFound}
use Rattle.doc_tree.specs.Demand.{no_counts}
use Rattle.doc_tree.specs.Places.{placed}
use Rattle.doc_tree.proofs.PlaceLemmas.{found_plain}
use Rattle.lang.specs.Reading.{value_of}
use Rattle.lang.proofs.AskedLemmas.{shape_failed}
use Rattle.lang.proofs.Located.{misread_told, not_faultless}
use Rattle.lang.proofs.MisreadLemmas.{misread_first}
use Rattle.lang.proofs.places.locate_in_tree.Goals as goal

no_value : (bytes : List ℕ) (b : Bool) → is_utf8 bytes ≡ b → (IsUtf8 bytes → read_text bytes ≡ None) → cond b (read_text bytes) None ≡ None
no_value bytes true is h = h (IsUtf8-from_is_utf8 bytes is)
no_value bytes false is h = refl

pub returns-in-Err-clause-mistake : goal.returns-in-Err-clause-mistake
returns-in-Err-clause-mistake c =
    let bytes = c.args.bytes.now in
    let refused = λ (m : IsMemory c.in-Err.error). true≢false
    (sym (subst (λ b. IsTrue b) c.if-is_memory.false (c.is_memory.ensures.1 m))) in (
      c.requires.short,
      no_value bytes (is_utf8 bytes) refl (c.in-Err.ensures.err refused),
      c.in_ok-words-in-Err.ensures,
    )

pub returns-in-Ok-check_shape-clause-mistake : goal.returns-in-Ok-check_shape-clause-mistake
returns-in-Ok-check_shape-clause-mistake c =
    let bytes = c.args.bytes.now in
    let d = view c.in-Ok.value in
    let known : value_of bytes ≡ Some d = rw (is_utf8-from_IsUtf8 bytes c.in-Ok.ensures.ok.0) c.in-Ok.ensures.ok.1 in
    absurd (not_faultless bytes d c.args.fault c.requires.read c.requires.short known
    (c.requires.shape d known c.in-Ok-check_shape.ensures.met))

pub returns-in_ok-mistake-in-Err-check_shape-clause-mistake : goal.returns-in_ok-mistake-in-Err-check_shape-clause-mistake
returns-in_ok-mistake-in-Err-check_shape-clause-mistake c =
    let bytes = c.args.bytes.now in
    let d = view c.in-Ok.value in
    let failure = c.in-Err-check_shape.failure in
    let unmet = c.from.result in
    let made = c.from.ensures in
    let known : value_of bytes ≡ Some d = rw (is_utf8-from_IsUtf8 bytes c.in-Ok.ensures.ok.0) c.in-Ok.ensures.ok.1 in
    let told = c.in_ok-misread-in-Err-check_shape.ensures in
    let misread = c.in_ok-misread-in-Err-check_shape.misread in
    let found : IsFound no_counts (placed d) unmet =
    λ other. shape_failed d no_counts failure (c.in-Err-check_shape.ensures.first (λ same. other (made.0 ∙ same)))
    ∙ ap (λ e. Err e) (found_plain unmet failure made.0 made.1) in
    misread_told bytes d c.args.fault misread _ _ no_counts c.requires.read c.requires.short known refl
    (misread_first no_counts (placed d) d unmet misread found told.other told.found told.part)
    c.in_ok-mistake-in-Err-check_shape.ensures
