use Rattle.std.proofs.Common.{◌+◌, drop}
use Rattle.rounds.specs.Views.{views_of}
use Rattle.rounds.specs.PendingRuns.{own_nets}
use Rattle.rounds.proofs.Commits.{AreLeft}
use Rattle.rounds.proofs.committing.commit_on.Given as goal

abbrev pub invariant-loop-place : goal.invariant-loop-place
invariant-loop-place l = AreLeft l.first l.initial.values l.values (own_nets (views_of l.blocks) 0 l.runs)
    (own_nets (views_of l.blocks) (0 + l.place) (drop l.place l.runs))
