use Rattle.std.proofs.Common.{◌<◌, ◌≤◌, ◌-◌, length}
use Rattle.rounds.specs.Workspaces.{IsReadyOn}
use Rattle.rounds.specs.Views.{blocks_of}
use Rattle.rounds.specs.Windows.{end_of, IsWindowAt, HasGrown, IsListedTo}
use Rattle.rounds.proofs.seek.seek_in.Given as goal

abbrev pub invariant-looking : goal.invariant-looking
invariant-looking g l = record {
  window : IsWindowAt l.job.batch.now l.from l.initial.workspace.view.snapshot l.window;
  grown : HasGrown l.opened l.initial.window l.window;
  listed : IsListedTo l.job.batch.now l.opened l.from l.window l.nets;
  ready : IsReadyOn l.initial.workspace.view.snapshot l.workspace;
  within : l.from ≤ length (blocks_of l.job.batch.now);
  reached : l.opened < l.from → l.from ≤ end_of l.window;
  some : 1 ≤ l.block;
}

abbrev pub decreases-looking : goal.decreases-looking
decreases-looking g l = length l.job.batch.now.transactions.items - l.from
