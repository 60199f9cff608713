use Rattle.std.proofs.Common.{◌-◌}
use Rattle.rounds.proofs.Settling.{AreTaken}
use Rattle.rounds.proofs.window.Window.settle.Given as goal

abbrev pub invariant-loop-place : goal.invariant-loop-place
invariant-loop-place l =
    AreTaken (l.from - l.initial.self.first) l.place l.initial.self l.self l.initial.records.items l.records.items
