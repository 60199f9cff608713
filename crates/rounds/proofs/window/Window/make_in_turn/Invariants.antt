use Rattle.std.proofs.Common.{◌≡◌, ◌<◌, ℕ, length, get_or}
use Rattle.rounds.specs.Workspaces.{IsReadyOn}
use Rattle.rounds.specs.Windows.{IsValid, IsWindowAt, HasGrown}
use Rattle.rounds.proofs.window.Window.make_in_turn.Given as goal

abbrev pub invariant-loop-number : goal.invariant-loop-number
invariant-loop-number g l = record {
  window : IsWindowAt l.job.batch.now l.from l.objects l.self;
  grown : HasGrown l.from l.initial.self l.self;
  all : length l.self.runs.items ≡ length l.initial.self.runs.items;
  valid : (k d : ℕ) → k < l.number-index → IsValid l.self (get_or l.numbers k d);
  ready : IsReadyOn l.objects l.workspace;
}
