use Rattle.std.proofs.Common.{◌≡◌, ◌+◌, ◌<◌, ◌≤◌, ◌^◌, false, true, length, reverse, arith, ap, ◌∙◌, subst}
use Rattle.std.specs.FinSet as set
use Rattle.atoms.specs.ItemSet.{Sets}
use Rattle.atoms.specs.declared.item_set.SetChange.TheVariants.{Added}
use Rattle.drafts.specs.History.{History, changed}
use Rattle.drafts.specs.Overlays.{over_set}
use Rattle.drafts.proofs.HistoryLemmas.{journal_push}
use Rattle.drafts.proofs.OverlayLemmas.{over_set-write, len-over, size-inserted}
use Rattle.drafts.proofs.TouchedLemmas.{set_kept_more, set_history_more}
use Rattle.drafts.proofs.set_draft.SetDraft.insert.Goals as goal

pub overflow_add-self : goal.overflow_add-self
overflow_add-self c =
    let lent = c.self.inside.lent.now in
    let slots = c.self.inside.touched.entries in
    let written = c.insert.new.self.entries in
    let new : set.contains (over_set lent slots) c.args.item ≡ false = ap (λ (h : History Sets). set.contains h.value c.args.item)
    c.self.view_is ∙ c.requires in
    let now : over_set lent written ≡ set.insert (over_set lent slots) c.args.item = over_set-write lent slots written c.args.item true
    c.in_ok-insert.ensures.updates.0 in
    let size : c.self.inside.size + 1 ≡ set.len (over_set lent written) = size-inserted lent slots written c.args.item c.self.inside.size
    c.self.invariant.counted new now in
    let most : set.len (over_set lent written) ≤ set.len lent + length written = len-over lent written in
    let small : set.len lent < 2 ^ 63 = c.self.invariant.small in
    let few : length written < 2 ^ 63 = subst (λ n. n < 2 ^ 63) c.len-touched.ensures.len c.len-touched.ensures.small in
    omega arith

pub invariant_of-self-2 : goal.invariant_of-self-2
invariant_of-self-2 c =
    let lent = c.self.inside.lent.now in
    let slots = c.self.inside.touched.entries in
    let written = c.insert.new.self.entries in
    let new : set.contains (over_set lent slots) c.args.item ≡ false = ap (λ (h : History Sets). set.contains h.value c.args.item)
    c.self.view_is ∙ c.requires in
    let now : over_set lent written ≡ set.insert (over_set lent slots) c.args.item = over_set-write lent slots written c.args.item true
    c.in_ok-insert.ensures.updates.0 in
    set_kept_more lent slots written c.self.inside.size (c.self.inside.size + 1) (reverse c.self.inside.journal.items)
    (reverse c.push_reserved.new.self.items) (Added c.args.item) c.self.invariant
    new c.in_ok-insert.ensures.updates.0 (size-inserted lent slots written c.args.item c.self.inside.size c.self.invariant.counted new now)
    (journal_push _ _ _ (Added c.args.item) c.push_reserved.ensures.items c.reserve.ensures.items)

pub returns-clause-ok : goal.returns-clause-ok
returns-clause-ok c =
    let lent = c.self.inside.lent.now in
    let slots = c.self.inside.touched.entries in
    let written = c.insert.new.self.entries in
    let new : set.contains (over_set lent slots) c.args.item ≡ false = ap (λ (h : History Sets). set.contains h.value c.args.item)
    c.self.view_is ∙ c.requires in
    set_history_more lent slots written (reverse c.self.inside.journal.items) (reverse c.push_reserved.new.self.items)
    (Added c.args.item) new c.in_ok-insert.ensures.updates.0
    (journal_push _ _ _ (Added c.args.item) c.push_reserved.ensures.items c.reserve.ensures.items)
    ∙ ap (λ (h : History Sets). changed h (set.insert h.value c.args.item)) c.self.view_is
