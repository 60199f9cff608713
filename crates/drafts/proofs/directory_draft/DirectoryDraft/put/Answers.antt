use Rattle.std.proofs.Common.{◌≡◌, ◌∷◌, reverse, sym, ap, ◌∙◌}
use Rattle.std.specs.FinMap as map
use Rattle.atoms.specs.Directory.{Directories, put_at}
use Rattle.atoms.specs.declared.directory.DirectoryChange.{DirectoryChange}
use Rattle.drafts.specs.History.{History, changed}
use Rattle.drafts.specs.Overlays.{over_directory}
use Rattle.drafts.proofs.HistoryLemmas.{journal_push}
use Rattle.drafts.proofs.TouchedLemmas.{touched_more, key_before, directory_history_more}
use Rattle.drafts.proofs.directory_draft.DirectoryDraft.put.Goals as goal

pub invariant_of-self-2 : goal.invariant_of-self-2
invariant_of-self-2 c =
    let change : DirectoryChange = record { key = c.args.key; before = c.get-before.result } in
    touched_more (λ (d : DirectoryChange). d.key) c.self.inside.touched.entries c.insert.new.self.entries c.args.bound
    (reverse c.self.inside.journal.items) (reverse c.push_reserved.new.self.items) change
    c.in_ok-insert.ensures.updates.0 c.self.invariant (journal_push _ _ _ change c.push_reserved.ensures.items c.reserve.ensures.items)

pub returns-clause-ok : goal.returns-clause-ok
returns-clause-ok c =
    let m = over_directory c.self.inside.lent.now c.self.inside.touched.entries in
    let change : DirectoryChange = record { key = c.args.key; before = c.get-before.result } in
    let before : change ≡ key_before m c.args.key =
    ap (λ b. let d : DirectoryChange = record { key = c.args.key; before = b } in d) (c.get-before.ensures
    ∙ sym (ap (λ (h : History Directories). map.get h.value c.args.key) c.self.view_is)) in
    directory_history_more c.self.inside.lent.now c.self.inside.touched.entries c.insert.new.self.entries c.args.key c.args.bound
    (reverse c.self.inside.journal.items) (reverse c.push_reserved.new.self.items)
    c.in_ok-insert.ensures.updates.0
    (journal_push _ _ _ change c.push_reserved.ensures.items c.reserve.ensures.items
    ∙ ap (λ d. d ∷ reverse c.self.inside.journal.items) before)
    ∙ ap (λ (h : History Directories). changed h (put_at h.value c.args.key c.args.bound)) c.self.view_is
