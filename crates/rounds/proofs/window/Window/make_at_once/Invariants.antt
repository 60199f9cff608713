use Rattle.std.proofs.Common.{◌≡◌, ◌≤◌, ◌<◌, ◌⊎◌, ◌-◌, ℕ, length, vec_len}
use Rattle.std.specs.List.{All}
use Rattle.claims.specs.Views.{times}
use Rattle.rounds.specs.PendingRuns.{IsMade, numbers_of}
use Rattle.rounds.specs.Windows.{end_of, IsValid, IsWindowAt, HasGrown, ArePassing}
use Rattle.rounds.specs.declared.make.NumberedRun.{NumberedRun}
use Rattle.rounds.proofs.window.Window.make_at_once.Given as goal

abbrev pub invariant-putting : goal.invariant-putting
invariant-putting g l = record {
  window : IsWindowAt l.job.batch.now l.from l.objects l.self;
  grown : HasGrown l.from l.initial.self l.self;
  all : length l.self.runs.items ≡ length l.initial.self.runs.items;
  left : All (IsMade l.job.batch.now l.objects l.nets) l.made.items;
  places : All (λ (m : NumberedRun). (l.from ≤ m.number) × (m.number < end_of l.initial.self)) l.made.items;
  put : (i : ℕ) → l.from ≤ i → 0 < times i l.numbers → IsValid l.self i ⊎ (0 < times i (numbers_of l.made.items));
  flags : length l.passing.items ≡ end_of l.initial.self - l.from;
  passing : ArePassing l.nets l.from l.self l.passing.items;
}

abbrev pub decreases-putting : goal.decreases-putting
decreases-putting g l = vec_len l.made
