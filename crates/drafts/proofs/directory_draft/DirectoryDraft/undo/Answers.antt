use Rattle.std.proofs.Common.{reverse, ap, ◌∙◌}
use Rattle.atoms.specs.Directory.{Directories}
use Rattle.atoms.specs.declared.directory.DirectoryChange.{DirectoryChange}
use Rattle.drafts.specs.History.{History, undone}
use Rattle.drafts.proofs.HistoryLemmas.{reverse_push}
use Rattle.drafts.proofs.TouchedLemmas.{touched_less, directory_history_less}
use Rattle.drafts.proofs.directory_draft.DirectoryDraft.undo.Goals as goal

pub invariant_of-self : goal.invariant_of-self
invariant_of-self c =
    touched_less (λ (d : DirectoryChange). d.key) c.self.inside.touched.entries c.write_slot.new.slots.entries c.in-Some.change.before
    (reverse c.self.inside.journal.items) (reverse c.pop.new.self.items) c.in-Some.change
    c.write_slot.ensures c.self.invariant (reverse_push _ _ c.in-Some.change c.in-Some.ensures.items)

pub returns-in-Some : goal.returns-in-Some
returns-in-Some c =
    directory_history_less c.self.inside.lent.now c.self.inside.touched.entries c.write_slot.new.slots.entries
    (reverse c.self.inside.journal.items) (reverse c.pop.new.self.items) c.in-Some.change c.write_slot.ensures
    (reverse_push _ _ c.in-Some.change c.in-Some.ensures.items)
    ∙ ap (λ (h : History Directories). undone h) c.self.view_is
