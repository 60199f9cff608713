use Rattle.std.proofs.Common.{append_assoc}
use Rattle.doc_mistakes.proofs.phrases.write_no_name.Goals as goal

pub returns : goal.returns
returns c = simp (append_assoc, c.in_ok-write.ensures.bytes, c.most_name_bytes-most.ensures, c.signs_text-signs.ensures)
