use Rattle.std.proofs.Common.{take}
use Rattle.committed.specs.Spans.{AreIn}
use Rattle.committed.specs.Summaries.{entries_of, IsSummary}
use Rattle.committed.proofs.summary.summarize.Given as goal

abbrev pub invariant-loop-entry : goal.invariant-loop-entry
invariant-loop-entry l = record {
  summary : IsSummary (entries_of l.table.summary.items) (take l.entry-index l.entries);
  span : AreIn l.span (take l.entry-index l.entries);
}
