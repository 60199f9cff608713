use Rattle.std.proofs.Common.{take}
use Rattle.rounds.specs.Windows.{AreStale}
use Rattle.rounds.proofs.window.Window.forget.Given as goal

abbrev pub invariant-loop-number : goal.invariant-loop-number
invariant-loop-number l = AreStale (take l.number-index l.numbers) l.initial.self l.self
