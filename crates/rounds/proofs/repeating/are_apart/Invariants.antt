use Rattle.committed.specs.Summaries.{entries_of}
use Rattle.rounds.specs.Repeated.{AreApart}
use Rattle.rounds.proofs.repeating.are_apart.Given as goal

abbrev pub invariant-loop-place : goal.invariant-loop-place
invariant-loop-place l = AreApart (entries_of l.entries) l.place
