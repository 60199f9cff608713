use Rattle.std.proofs.Common.{append_assoc}
use Rattle.doc_mistakes.proofs.conditions.write_no_word.Goals as goal

pub returns-in_ok-write-in-Reply : goal.returns-in_ok-write-in-Reply
returns-in_ok-write-in-Reply c = rw c.in-Reply.is (simp (append_assoc, c.in_ok-write-in-Reply.ensures.bytes, c.text-verb.ensures))

pub returns-in_ok-push_str-in-Outcome : goal.returns-in_ok-push_str-in-Outcome
returns-in_ok-push_str-in-Outcome c = rw c.in-Outcome.is c.in_ok-push_str-in-Outcome.ensures.bytes
