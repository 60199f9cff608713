use Rattle.std.proofs.Common.{◌≡◌, ℕ, ◌<◌, get_or}
use Rattle.objects.specs.declared.entry.Entry.{Entry}
use Rattle.committed.specs.Summaries.{entries_of}
use Rattle.rounds.proofs.repeating.has_object.Given as goal

abbrev pub invariant-loop-marked : goal.invariant-loop-marked
invariant-loop-marked l = (k : ℕ) (d : Entry) → k < l.marked-index → ¬ ((get_or (entries_of l.entries) k d).object ≡ l.object)
