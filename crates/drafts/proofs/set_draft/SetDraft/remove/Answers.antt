use Rattle.std.proofs.Common.{◌≡◌, ◌-◌, false, true, reverse, ap, ◌∙◌}
use Rattle.std.specs.FinSet as set
use Rattle.atoms.specs.ItemSet.{Sets}
use Rattle.atoms.specs.declared.item_set.SetChange.TheVariants.{Removed}
use Rattle.drafts.specs.History.{History, changed}
use Rattle.drafts.specs.Overlays.{over_set}
use Rattle.drafts.proofs.HistoryLemmas.{journal_push}
use Rattle.drafts.proofs.OverlayLemmas.{over_set-write, some-inside, size-removed}
use Rattle.drafts.proofs.TouchedLemmas.{set_kept_more, set_history_more}
use Rattle.drafts.proofs.set_draft.SetDraft.remove.Goals as goal

pub overflow_sub-self : goal.overflow_sub-self
overflow_sub-self c =
    let there : set.contains (over_set c.self.inside.lent.now c.self.inside.touched.entries) c.args.item ≡ true =
    ap (λ (h : History Sets). set.contains h.value c.args.item) c.self.view_is ∙ c.requires in
    some-inside (over_set c.self.inside.lent.now c.self.inside.touched.entries) c.args.item c.self.inside.size c.self.invariant.counted
    there

pub invariant_of-self-2 : goal.invariant_of-self-2
invariant_of-self-2 c =
    let lent = c.self.inside.lent.now in
    let slots = c.self.inside.touched.entries in
    let written = c.insert.new.self.entries in
    let there : set.contains (over_set lent slots) c.args.item ≡ true = ap (λ (h : History Sets). set.contains h.value c.args.item)
    c.self.view_is ∙ c.requires in
    let now : over_set lent written ≡ set.remove (over_set lent slots) c.args.item = over_set-write lent slots written c.args.item false
    c.in_ok-insert.ensures.updates.0 in
    set_kept_more lent slots written c.self.inside.size (c.self.inside.size - 1) (reverse c.self.inside.journal.items)
    (reverse c.push_reserved.new.self.items) (Removed c.args.item) c.self.invariant
    there c.in_ok-insert.ensures.updates.0 (size-removed lent slots written c.args.item c.self.inside.size c.self.invariant.counted there
    now)
    (journal_push _ _ _ (Removed c.args.item) c.push_reserved.ensures.items c.reserve.ensures.items)

pub returns-clause-ok : goal.returns-clause-ok
returns-clause-ok c =
    let lent = c.self.inside.lent.now in
    let slots = c.self.inside.touched.entries in
    let written = c.insert.new.self.entries in
    let there : set.contains (over_set lent slots) c.args.item ≡ true = ap (λ (h : History Sets). set.contains h.value c.args.item)
    c.self.view_is ∙ c.requires in
    set_history_more lent slots written (reverse c.self.inside.journal.items) (reverse c.push_reserved.new.self.items)
    (Removed c.args.item) there c.in_ok-insert.ensures.updates.0
    (journal_push _ _ _ (Removed c.args.item) c.push_reserved.ensures.items c.reserve.ensures.items)
    ∙ ap (λ (h : History Sets). changed h (set.remove h.value c.args.item)) c.self.view_is
