use Rattle.std.proofs.Common.{◌≡◌}
use Rattle.batch.proofs.PartRuns.{IsPartRun}
use Rattle.batch.proofs.PartTried.{ArePartTried}
use Rattle.one_thread.specs.Running.{in_place}
use Rattle.one_thread.proofs.executor.+run.Given as goal

abbrev pub invariant-run_children-loop-child : goal.invariant-run_children-loop-child
invariant-run_children-loop-child l = record {
  same : l.labels.items ≡ l.fn.labels.items;
  part : ArePartTried in_place l.children l.labels.items l.fn.workspace l.child-index l.all.items l.outcomes.items l.workspace;
}

abbrev pub invariant-run_steps-loop-step : goal.invariant-run_steps-loop-step
invariant-run_steps-loop-step l =
    IsPartRun in_place l.steps l.fn.labels.items l.fn.workspace l.step-index l.taken.items l.labels.items l.workspace
