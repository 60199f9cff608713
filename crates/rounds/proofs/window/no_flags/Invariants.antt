use Rattle.std.proofs.Common.{◌≡◌, ℕ, false, length, get_or}
use Rattle.rounds.proofs.window.no_flags.Given as goal

abbrev pub invariant-loop : goal.invariant-loop
invariant-loop l = record {
  all : length l.flags.items ≡ l.counter;
  none : (i : ℕ) → get_or l.flags.items i false ≡ false;
}
