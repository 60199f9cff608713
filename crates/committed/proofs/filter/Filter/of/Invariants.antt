use Rattle.std.proofs.Common.{ℕ, ◌<◌, get_or}
use Rattle.objects.specs.declared.entry.Entry.{Entry}
use Rattle.committed.specs.Filter.{IsMarked}
use Rattle.committed.proofs.filter.Filter.of.Given as goal

abbrev pub invariant-loop-entry : goal.invariant-loop-entry
invariant-loop-entry l = (k : ℕ) (d : Entry) → k < l.entry-index → IsMarked l.filter (get_or l.entries k d)
