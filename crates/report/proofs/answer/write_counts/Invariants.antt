use Rattle.std.proofs.Common.{◌≡◌, ◌++◌, ◌+◌, drop, string_bytes}
use Rattle.meaning.specs.Texts.{counts_text}
use Rattle.report.proofs.answer.write_counts.Given as goal

abbrev pub invariant-loop-index : goal.invariant-loop-index
invariant-loop-index l = string_bytes l.out ++ counts_text (l.index + 1) (drop l.index l.counts) ≡ string_bytes l.fn.out
    ++ counts_text 1 l.fn.counts
