use Rattle.std.proofs.Common.{drop}
use Rattle.rounds.proofs.Commits.{AreLeft}
use Rattle.rounds.proofs.committing.perform_each.Given as goal

abbrev pub invariant-loop-entry : goal.invariant-loop-entry
invariant-loop-entry l = AreLeft l.first l.initial.values l.values l.entries (drop l.entry-index l.entries)
