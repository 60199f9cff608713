use Rattle.std.proofs.Common.{◌≡◌, ◌+◌, ◌-◌, ◌≤◌, take, length, vec_len, vec_capacity}
use Rattle.committed.specs.Spans.{AreIn}
use Rattle.committed.specs.Summaries.{entries_of}
use Rattle.committed.proofs.summary.mark_into.Given as goal

abbrev pub invariant-loop-entry : goal.invariant-loop-entry
invariant-loop-entry l = record {
  marked : entries_of l.marked.items ≡ take l.entry-index l.entries;
  room : vec_len l.marked + (length l.entries - l.entry-index) ≤ vec_capacity l.marked;
  span : AreIn l.span (take l.entry-index l.entries);
}
