use Rattle.std.proofs.Common.{ℕ, ◌<◌, get_or}
use Rattle.objects.specs.declared.entry.Entry.{Entry}
use Rattle.committed.specs.Summaries.{entries_of}
use Rattle.rounds.specs.Repeated.{IsRepeated}
use Rattle.rounds.proofs.repeating.are_repeated.Given as goal

abbrev pub invariant-loop-marked : goal.invariant-loop-marked
invariant-loop-marked l = (i : ℕ) (d : Entry) → i < l.marked-index → IsRepeated l.objects (get_or (entries_of l.entries) i d)
