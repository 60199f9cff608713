use Rattle.std.proofs.Common.{◌∙◌}
use Rattle.one_thread.proofs.InPlace.{settles-ended, settles-aborted}
use Rattle.one_thread.proofs.transactions.run_transaction.Goals as goal
use Rattle.one_thread.proofs.transactions.run_transaction.Goals.{in-Ended, in-Aborted+in_ok-rewind-in-Aborted}

pub returns-clause-settles : goal.returns-clause-settles
returns-clause-settles c = elim c.match-record.branch [
  | in-Ended w ↦ settles-ended _ c.args.workspace.now c.run_block.new.workspace _ _
      (rw c.new-labels.ensures.items at c.in_ok-record.ensures.shows) w.in-Ended.is (w.workspace-is ∙ w.settle.ensures)
  | in-Aborted+in_ok-rewind-in-Aborted w ↦ settles-aborted _ c.args.workspace.now c.run_block.new.workspace _ _ w.in-Aborted.field-0
      (rw c.new-labels.ensures.items at c.in_ok-record.ensures.shows) w.in-Aborted.is c.requires.settled
      (w.workspace-is ∙ w.in_ok-rewind-in-Aborted.ensures)
]
