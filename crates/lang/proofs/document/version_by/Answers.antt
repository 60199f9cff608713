use Rattle.std.proofs.Common.{sym, subst, ap, ◌∙◌}
use Rattle.doc_tokens.specs.Passed.{AreNoted}
use Rattle.doc_tokens.proofs.NoteLemmas.{no_object_version, noted_version_in}
use Rattle.lang.specs.Reading.{version_by}
use Rattle.lang.proofs.SinglyLemmas.{matched_none, matched_some}
use Rattle.lang.proofs.document.version_by.Goals as goal

pub returns-in_default : goal.returns-in_default
returns-in_default c = ap version_by (sym (matched_none c.in_ok-noted.field-0 _ _ c.in_default.is c.in_ok-noted.ensures))

pub returns-in_default-noted : goal.returns-in_default-noted
returns-in_default-noted c =
    let given = matched_some c.in_ok-noted.field-0 c.in-Some.noted _ _ c.in-Some.is c.in_ok-noted.ensures in
    let none = subst (λ notes. AreNoted notes given.0) c.in_default-noted.is given.2 in
    sym (ap version_by given.1 ∙ no_object_version given.0 none)

pub returns : goal.returns
returns c =
    let given = matched_some c.in_ok-noted.field-0 c.in-Some.noted _ _ c.in-Some.is c.in_ok-noted.ensures in
    let noted = subst (λ notes. AreNoted notes given.0) c.in-Some-noted.is given.2 in
    c.version_or_first.ensures ∙ noted_version_in c.in-Some-noted.notes given.0 noted ∙ sym (ap version_by given.1)
