use Rattle.std.proofs.Common.{append_assoc}
use Rattle.doc_mistakes.specs.Words.{start_said}
use Rattle.doc_mistakes.proofs.declarations.write_start.Goals as goal

pub returns : goal.returns
unfolding start_said
returns c =
    simp (
      append_assoc,
      c.in_ok-write_starts_with.ensures,
      c.form.ensures,
      c.in_ok-write.ensures.bytes,
      c.in_ok-value.ensures,
      c.a_kind-object.ensures,
    )
