use Rattle.std.proofs.Common.{append_assoc}
use Rattle.doc_mistakes.specs.Words.{starts_with}
use Rattle.doc_mistakes.proofs.declarations.write_starts_with.Goals as goal

pub returns-in_ok-write_up_to_most-in-Signed-2 : goal.returns-in_ok-write_up_to_most-in-Signed-2
unfolding starts_with
returns-in_ok-write_up_to_most-in-Signed-2 c =
    rw c.in-Signed.is (simp (append_assoc, c.in_ok-write_up_to_most-in-Signed-2.ensures, c.in_ok-write_up_to_most-in-Signed.ensures))

pub returns-in_ok-write-in-Directory : goal.returns-in_ok-write-in-Directory
unfolding starts_with
returns-in_ok-write-in-Directory c = rw c.in-Directory.is c.in_ok-write-in-Directory.ensures.bytes
