use Rattle.std.proofs.Common.{append_assoc}
use Rattle.doc_mistakes.specs.Phrases.{wanting_at}
use Rattle.doc_mistakes.proofs.phrases.write_wanting_at.Goals as goal

pub returns-in_ok-write-in-Some : goal.returns-in_ok-write-in-Some
unfolding wanting_at
returns-in_ok-write-in-Some c =
    rw c.in-Some.is (simp (append_assoc, c.in_ok-write-in-Some.ensures.bytes, c.in_ok-value-in-Some.ensures))
