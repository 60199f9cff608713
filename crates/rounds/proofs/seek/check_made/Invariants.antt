use Rattle.std.proofs.Common.{◌≡◌, ◌-◌, ◌≤◌, ℕ, true, false, length, get_or, take}
use Rattle.rounds.specs.PendingRuns.{Passes}
use Rattle.rounds.specs.Views.{opening_state}
use Rattle.rounds.specs.declared.pending_run.PendingRun.{PendingRun}
use Rattle.rounds.specs.Windows.{run_at, AllValid, IsWindowAt, HasGrown, IsListedTo}
use Rattle.rounds.proofs.seek.check_made.Given as goal

abbrev pub invariant-loop-number : goal.invariant-loop-number
invariant-loop-number g l = record {
  window : IsWindowAt l.job.batch.now l.number (opening_state l.job.batch.now l.opened) l.window;
  grown : HasGrown l.block.start l.initial.window l.window;
  all : length l.window.runs.items ≡ length l.initial.window.runs.items;
  listed : IsListedTo l.job.batch.now l.opened l.number l.window l.nets;
  valid : AllValid l.window l.number l.block.end;
  kept : take (length l.initial.nets) l.nets ≡ l.initial.nets;
  passing : (i : ℕ) (d : PendingRun) → l.number ≤ i → get_or l.passing (i - l.block.start) false ≡ true
      → Passes l.initial.nets (run_at l.window i d);
}
