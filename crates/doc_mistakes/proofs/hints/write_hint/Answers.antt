use Rattle.std.proofs.Common.{append_assoc, inr, refl}
use Rattle.doc_mistakes.specs.Words.{hint_at}
use Rattle.doc_mistakes.proofs.hints.write_hint.Goals as goal

pub returns-in_ok-write : goal.returns-in_ok-write
returns-in_ok-write c =
    (hint_at c.in-Some.name.now, simp (append_assoc, c.in_ok-write.ensures.bytes), inr (c.in-Some.name.now, refl))
