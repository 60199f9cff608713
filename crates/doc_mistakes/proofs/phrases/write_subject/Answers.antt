use Rattle.std.proofs.Common.{append_assoc}
use Rattle.doc_mistakes.proofs.phrases.write_subject.Goals as goal

pub returns-in_ok-write-in-Reply : goal.returns-in_ok-write-in-Reply
returns-in_ok-write-in-Reply c = rw c.in-Reply.is (simp (append_assoc, c.in_ok-write-in-Reply.ensures.bytes, c.text-verb.ensures))
