use Rattle.std.proofs.Common.{append_assoc, sym}
use Rattle.doc_mistakes.specs.Words.{version_said}
use Rattle.doc_mistakes.proofs.declarations.write_version.Goals as goal

pub returns-in_default : goal.returns-in_default
unfolding version_said
returns-in_default c = rw c.in_default.is (simp (append_assoc, c.in_ok-write.ensures.bytes, c.in_ok-write_missing.ensures))

pub returns-in_ok-write-2 : goal.returns-in_ok-write-2
unfolding version_said
returns-in_ok-write-2 c = rw c.in-Some.is (simp (append_assoc, sym c.if-is_string.ensures, c.in_ok-write-2.ensures.bytes))

pub returns-in_ok-write-3 : goal.returns-in_ok-write-3
unfolding version_said
returns-in_ok-write-3 c =
    rw c.in-Some.is (simp (append_assoc, sym c.if-is_string.ensures, c.in_ok-write-3.ensures.bytes, c.in_ok-value.ensures))
