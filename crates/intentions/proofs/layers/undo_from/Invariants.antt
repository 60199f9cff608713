use Rattle.intentions.specs.DraftTables.{drafts_of}
use Rattle.intentions.proofs.LayersLemmas.{IsPartUndone}
use Rattle.intentions.proofs.layers.undo_from.Given as goal

abbrev pub invariant-loop-journal : goal.invariant-loop-journal
invariant-loop-journal l = IsPartUndone (drafts_of l.fn.drafts) l.fn.journal.items l.start (drafts_of l.drafts) l.journal.items

abbrev pub decreases-loop-journal : goal.decreases-loop-journal
decreases-loop-journal l = goal.left-loop-journal l
