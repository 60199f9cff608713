use Rattle.std.proofs.Common.{append-nil, sym}
use Rattle.doc_mistakes.proofs.mistake.write_said.Goals as goal

pub returns-in_ok-write_around-in-KnownObject : goal.returns-in_ok-write_around-in-KnownObject
returns-in_ok-write_around-in-KnownObject c =
    rw c.in-KnownObject.is (simp (append-nil, sym c.operand.ensures, c.in_ok-write_around-in-KnownObject.ensures))
