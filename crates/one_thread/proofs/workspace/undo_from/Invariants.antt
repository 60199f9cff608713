use Rattle.atoms.proofs.Journals.{ArePartUndone}
use Rattle.objects.specs.Objects.{objects_undoing}
use Rattle.one_thread.proofs.workspace.undo_from.Given as goal

abbrev pub invariant-loop-journal : goal.invariant-loop-journal
invariant-loop-journal l = ArePartUndone objects_undoing l.fn.objects l.fn.journal.items l.mark l.objects l.journal.items

abbrev pub decreases-loop-journal : goal.decreases-loop-journal
decreases-loop-journal l = goal.left-loop-journal l
