use Rattle.std.proofs.Common.{take}
use Rattle.rounds.proofs.Making.{IsGroupSoFar}
use Rattle.rounds.proofs.make.make_group.Given as goal

abbrev pub invariant-loop-number : goal.invariant-loop-number
invariant-loop-number g l = IsGroupSoFar l.job.batch.now l.initial.workspace.view.snapshot l.nets (take l.number-index l.group)
    l.workspace l.initial.all.items l.all.items
