use Rattle.std.proofs.Common.{◌≡◌, ◌+◌, ◌*◌, ◌<◌, ◌≤◌, length, take, drop}
use denote.Param.Weighed.{most}
use Rattle.std.specs.Vec.Iter.{into_iter_items, into_iter_len}
use Rattle.batch.specs.declared.tree.Block.{size-Block}
use Rattle.batch.specs.declared.tree.Step.{size-Step}
use Rattle.batch.specs.declared.tree.Subaction.{size-Subaction}
use Rattle.intentions.specs.Levels.{shown_values as state_of_view}
use Rattle.speculate.specs.Ahead.{AreRunAhead}
use Rattle.batch.proofs.PartRuns.{IsPartRun}
use Rattle.batch.proofs.PartTried.{ArePartTried}
use Rattle.speculate.specs.Running.{in_view}
use Rattle.speculate.proofs.Siblings.{AreLeft}
use Rattle.speculate.proofs.Measures.{deep, beyond_widths}
use Rattle.speculate.proofs.executor.+run.Given as goal

abbrev pub decreases-run_block : goal.decreases-run_block
decreases-run_block g l = deep (size-Block l.block.now) 0

abbrev pub decreases-run_steps : goal.decreases-run_steps
decreases-run_steps g l = deep (most size-Step l.steps.now) 1

abbrev pub decreases-run_other_step : goal.decreases-run_other_step
decreases-run_other_step g l = deep (size-Step l.step.now) 0

abbrev pub decreases-run_subaction : goal.decreases-run_subaction
decreases-run_subaction g l = deep (size-Subaction l.child.now) 1

abbrev pub decreases-run_child : goal.decreases-run_child
decreases-run_child g l = deep (size-Subaction l.sibling.child.now) 3

abbrev pub decreases-run_anew : goal.decreases-run_anew
decreases-run_anew g l = deep (size-Subaction l.sibling.child.now) 2

abbrev pub decreases-run_alone : goal.decreases-run_alone
decreases-run_alone g l = deep (size-Subaction l.sibling.child.now) 2

abbrev pub decreases-run_part : goal.decreases-run_part
decreases-run_part g l = deep (most size-Subaction l.children.now) 3

abbrev pub decreases-run_ahead : goal.decreases-run_ahead
decreases-run_ahead g l = deep (most size-Subaction l.children.now) (4 + 2 * l.width)

abbrev pub decreases-run_ahead-join+arg2 : goal.decreases-run_ahead-join+arg2
decreases-run_ahead-join+arg2 g l = deep (most size-Subaction l.older.now) (5 + 2 * l.front_width)

abbrev pub decreases-run_ahead-join+arg3 : goal.decreases-run_ahead-join+arg3
decreases-run_ahead-join+arg3 g l = deep (most size-Subaction l.younger.now) (5 + 2 * l.back_width)

abbrev pub decreases-run_if_wide : goal.decreases-run_if_wide
decreases-run_if_wide g l = deep (most size-Subaction l.children.now) beyond_widths

abbrev pub decreases-run_children : goal.decreases-run_children
decreases-run_children g l = deep (most size-Subaction l.children.now) (beyond_widths + 1)

abbrev pub invariant-run_steps-loop-place : goal.invariant-run_steps-loop-place
invariant-run_steps-loop-place g l = record {
  long : l.place ≤ length l.taken.items;
  part : IsPartRun in_view l.steps l.fn.labels.items l.fn.view l.place (take l.place l.taken.items) l.labels.items l.view;
}

abbrev pub invariant-run_children-loop-place : goal.invariant-run_children-loop-place
invariant-run_children-loop-place g l = record {
  same : l.labels.items ≡ l.fn.labels.items;
  part : ArePartTried in_view l.children l.labels.items l.fn.view l.place l.reached.all.items l.reached.outcomes.items l.view;
  left : 0 < into_iter_len l.ahead → AreLeft (drop l.place l.children) l.labels.items l.kept (state_of_view l.view)
      (into_iter_items l.ahead);
}

abbrev pub invariant-run_part-loop-place : goal.invariant-run_part-loop-place
invariant-run_part-loop-place g l = record {
  all : length l.runs.items ≡ l.place;
  runs : AreRunAhead (take l.place l.children) l.fork.labels.items l.fork.state l.runs.items;
}
