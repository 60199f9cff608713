use Rattle.std.proofs.Common.{◌≡◌, length}
use Rattle.rounds.specs.Workspaces.{IsReadyOn}
use Rattle.rounds.specs.Windows.{IsWindowAt, HasGrown, IsListedTo}
use Rattle.rounds.proofs.seek.check_in_turn.Given as goal

abbrev pub invariant-loop-number : goal.invariant-loop-number
invariant-loop-number g l = record {
  window : IsWindowAt l.job.batch.now l.number l.initial.workspace.view.snapshot l.window;
  grown : HasGrown l.block.start l.initial.window l.window;
  all : length l.window.runs.items ≡ length l.initial.window.runs.items;
  listed : IsListedTo l.job.batch.now l.opened l.number l.window l.nets;
  ready : IsReadyOn l.initial.workspace.view.snapshot l.workspace;
}
