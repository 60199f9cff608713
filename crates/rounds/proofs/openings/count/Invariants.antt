use Rattle.std.proofs.Common.{◌≡◌, ◌+◌, ℕ, length, get_or, take}
use Rattle.claims.specs.Views.{times}
use Rattle.rounds.proofs.openings.count.Given as goal

abbrev pub invariant-loop-number : goal.invariant-loop-number
invariant-loop-number l = record {
  all : length l.counts.items ≡ length l.initial.counts.items;
  counted : (i : ℕ) → get_or l.counts.items i 0 ≡ get_or l.initial.counts.items i 0 + times i (take l.number-index l.numbers);
}
