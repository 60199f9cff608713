use Rattle.explain.proofs.Passing.{HavePassed}
use Rattle.explain.proofs.round.round_from.Given as goal

abbrev pub invariant-loop-place : goal.invariant-loop-place
invariant-loop-place g l = HavePassed l.batch l.opened l.place l.passed.items l.nets
