use Rattle.std.proofs.Common.{append_assoc, sym}
use Rattle.doc_mistakes.specs.Words.{members_said}
use Rattle.doc_mistakes.proofs.declarations.write_members.Goals as goal

pub returns-in_ok-write-in-Some : goal.returns-in_ok-write-in-Some
unfolding members_said
returns-in_ok-write-in-Some c =
    rw (sym c.in-Some.ensures)
    (simp (append_assoc, c.in_ok-write-in-Some.ensures.bytes, c.in_ok-name-in-Some.ensures, c.form_text-form.ensures))

pub returns-in_ok-write_around-in-None : goal.returns-in_ok-write_around-in-None
unfolding members_said
returns-in_ok-write_around-in-None c = rw (sym c.in-None.ensures) c.in_ok-write_around-in-None.ensures
