use Rattle.std.proofs.Common.{◌≡◌, ◌<◌, ◌++◌, ℕ, length, get_or, take}
use Rattle.rounds.specs.PendingRuns.{all_left}
use Rattle.rounds.proofs.check.list_nets.Given as goal

abbrev pub invariant-loop-run : goal.invariant-loop-run
invariant-loop-run l = record {
  nets : l.nets ≡ l.initial.nets ++ all_left (take l.run-index l.runs);
  all : length l.starts.items ≡ l.run-index;
  each : (k : ℕ) → k < l.run-index → get_or l.starts.items k 0 ≡ length (l.initial.nets ++ all_left (take k l.runs));
}
