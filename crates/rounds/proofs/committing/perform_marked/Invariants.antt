use Rattle.std.proofs.Common.{drop}
use Rattle.committed.specs.Summaries.{entries_of}
use Rattle.rounds.proofs.Commits.{AreLeft}
use Rattle.rounds.proofs.committing.perform_marked.Given as goal

abbrev pub invariant-loop-marked : goal.invariant-loop-marked
invariant-loop-marked l = AreLeft l.first l.initial.values l.values (entries_of l.entries) (drop l.marked-index (entries_of l.entries))
