use Rattle.rounds.proofs.Settling.{AreExchanged, AreFreed}
use Rattle.rounds.proofs.window.Window.move_up.Given as goal

abbrev pub invariant-loop-place : goal.invariant-loop-place
invariant-loop-place l = AreExchanged l.count l.place l.initial.self l.self

abbrev pub invariant-loop-place-2 : goal.invariant-loop-place-2
invariant-loop-place-2 l = AreFreed l.count l.left l.place l.fn.self l.self
