use Rattle.std.proofs.Common.{◌≡◌, ◌++◌, ◌+◌, ◌-◌, ◌≤◌, take, length}
use Rattle.std.specs.Prelude.{vec_len, vec_capacity}
use Rattle.committed.specs.Filter.{IsFilterOf}
use Rattle.committed.specs.Summaries.{entries_of}
use Rattle.committed.proofs.committed.put_all.Given as goal

abbrev pub invariant-loop-marked : goal.invariant-loop-marked
invariant-loop-marked l = record {
  entries : l.entries.items ≡ l.initial.entries.items ++ entries_of (take l.marked-index l.more);
  room : vec_len l.entries + (length l.more - l.marked-index) ≤ vec_capacity l.entries;
  filter : IsFilterOf l.entries.items l.filter;
}
