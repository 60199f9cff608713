use Rattle.std.proofs.Common.{arith}
use Rattle.doc_tokens.proofs.PulledLemmas.{IfOk_then}
use Rattle.lang.proofs.RefusedLemmas.{value_known}
use Rattle.lang.proofs.document.pull_bytes.Goals as goal

pub returns : goal.returns
returns c =
    IfOk_then c.pull_ranges.result c.pull_ranges.ensures
    (λ parts w. (
      w.0,
      value_known c.args.bytes.now c.in-Some.text.now 127 w.0 (omega arith) c.in-Some.ensures.0 c.in-Some.ensures.1 w.1,
      w.2,
      w.3,
      w.4,
    ))
