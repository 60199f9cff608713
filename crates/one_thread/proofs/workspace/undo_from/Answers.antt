use Rattle.std.proofs.Common.{arith}
use Rattle.atoms.proofs.Journals.{part_undone-more, part_undone-all}
use Rattle.one_thread.proofs.workspace.undo_from.Goals as goal

pub loop-journal-preserved-in-Continue-1 : goal.loop-journal-preserved-in-Continue-1
loop-journal-preserved-in-Continue-1 c =
    part_undone-more _ _ _ _ _ _ _ _ (c.in-Some.object, c.in-Some.change) c.loop-journal.invariant (omega arith) c.in-Some.ensures.items
    c.in_ok-undo.ensures.ok

pub returns-clause-objects : goal.returns-clause-objects
returns-clause-objects c = (part_undone-all _ _ _ _ _ _ c.loop-journal.invariant (omega arith)).0
