use Rattle.std.proofs.Common.{◌≡◌, take}
use Rattle.rounds.proofs.Fallen.{AreKeptTo}
use Rattle.rounds.proofs.window.Window.keep_in_turn.Given as goal

abbrev pub invariant-loop-number : goal.invariant-loop-number
invariant-loop-number g l = record {
  same : l.nets ≡ l.initial.nets;
  kept : AreKeptTo l.from l.number (take l.upto l.initial.nets) l.initial.self l.self;
}
