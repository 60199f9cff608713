use Rattle.std.proofs.Common.{Err, sym, ap, ◌∙◌, arith}
use Rattle.doc_rules.proofs.LimitLemmas.{limits_within}
use Rattle.lang.specs.Reading.{value_of, version_by}
use Rattle.lang.proofs.SpelledLemmas.{reads_long}
use Rattle.lang.proofs.document.read.Goals as goal

pub returns-then-bytes-gt-MAX_BYTES-clause-fault : goal.returns-then-bytes-gt-MAX_BYTES-clause-fault
returns-then-bytes-gt-MAX_BYTES-clause-fault c other =
    let bytes = c.args.bytes.now in
    let most = (limits_within (version_by (value_of bytes))).bytes in
    reads_long bytes (omega (arith, c.if-bytes-gt-MAX_BYTES.true, most)) ∙ ap Err (sym c.outside.ensures)
