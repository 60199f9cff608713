use Rattle.rounds.specs.Windows.{AreMissing}
use Rattle.rounds.proofs.window.Window.missing.Given as goal

abbrev pub invariant-loop-number : goal.invariant-loop-number
invariant-loop-number l = AreMissing l.self l.from l.number l.numbers.items
