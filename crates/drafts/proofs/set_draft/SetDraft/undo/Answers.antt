use Rattle.std.proofs.Common.{◌≡◌, ◌+◌, ◌-◌, ◌<◌, ◌≤◌, ◌^◌, true, false, length, ◌∷◌, ◌++◌, [], reverse, arith, ap, ◌∙◌, subst}
use Rattle.std.specs.FinSet as set
use Rattle.atoms.specs.ItemSet.{Sets}
use Rattle.atoms.specs.declared.item_set.SetChange.TheVariants.{Added, Removed}
use Rattle.drafts.specs.History.{History, undone}
use Rattle.drafts.specs.Overlays.{over_set}
use Rattle.drafts.proofs.HistoryLemmas.{reverse_push}
use Rattle.drafts.proofs.OverlayLemmas.{over_set-write, len-over, some-inside, size-inserted, size-removed}
use Rattle.drafts.proofs.TouchedLemmas.{newest_made, set_kept_less, set_history_less}
use Rattle.drafts.proofs.set_draft.SetDraft.undo.Goals as goal

pub overflow_sub-self : goal.overflow_sub-self
overflow_sub-self c =
    let s = over_set c.self.inside.lent.now c.self.inside.touched.entries in
    let popped : c.self.inside.journal.items ≡ c.pop.new.self.items ++ Added c.in-Some-Added.item ∷ [] =
    rw c.in-Some-Added.field-0-is at c.in-Some-Added.ensures.items in
    let there : set.contains s c.in-Some-Added.item ≡ true =
    newest_made s (reverse c.self.inside.journal.items) (reverse c.pop.new.self.items) (Added c.in-Some-Added.item) c.self.invariant.made
    (reverse_push _ _ (Added c.in-Some-Added.item) popped) in
    some-inside s c.in-Some-Added.item c.self.inside.size c.self.invariant.counted there

pub invariant_of-self : goal.invariant_of-self
invariant_of-self c =
    let lent = c.self.inside.lent.now in
    let slots = c.self.inside.touched.entries in
    let written = c.write_slot.new.slots.entries in
    let item = c.in-Some-Added.item in
    let popped : c.self.inside.journal.items ≡ c.pop.new.self.items ++ Added item ∷ [] =
    rw c.in-Some-Added.field-0-is at c.in-Some-Added.ensures.items in
    let newest : reverse c.self.inside.journal.items ≡ Added item ∷ reverse c.pop.new.self.items = reverse_push _ _ (Added item) popped in
    let there : set.contains (over_set lent slots) item ≡ true = newest_made (over_set lent slots) (reverse c.self.inside.journal.items)
    (reverse c.pop.new.self.items) (Added item) c.self.invariant.made newest in
    let now : over_set lent written ≡ set.remove (over_set lent slots) item =
    over_set-write lent slots written item false c.write_slot.ensures in
    set_kept_less lent slots written c.self.inside.size (c.self.inside.size - 1) (reverse c.self.inside.journal.items)
    (reverse c.pop.new.self.items) (Added item) c.self.invariant c.write_slot.ensures
    (size-removed lent slots written item c.self.inside.size c.self.invariant.counted there now) newest

pub returns-in-Some-Added : goal.returns-in-Some-Added
returns-in-Some-Added c =
    let item = c.in-Some-Added.item in
    let popped : c.self.inside.journal.items ≡ c.pop.new.self.items ++ Added item ∷ [] =
    rw c.in-Some-Added.field-0-is at c.in-Some-Added.ensures.items in
    set_history_less c.self.inside.lent.now c.self.inside.touched.entries c.write_slot.new.slots.entries
    (reverse c.self.inside.journal.items) (reverse c.pop.new.self.items) (Added item) c.write_slot.ensures
    (reverse_push _ _ (Added item) popped)
    ∙ ap (λ (h : History Sets). undone h) c.self.view_is

pub overflow_add-self : goal.overflow_add-self
overflow_add-self c =
    let lent = c.self.inside.lent.now in
    let slots = c.self.inside.touched.entries in
    let written = c.write_slot-in-Some-Removed.new.slots.entries in
    let item = c.in-Some-Removed.item in
    let popped : c.self.inside.journal.items ≡ c.pop.new.self.items ++ Removed item ∷ [] =
    rw c.in-Some-Removed.field-0-is at c.in-Some-Removed.ensures.items in
    let gone : set.contains (over_set lent slots) item ≡ false =
    newest_made (over_set lent slots) (reverse c.self.inside.journal.items) (reverse c.pop.new.self.items)
    (Removed item) c.self.invariant.made (reverse_push _ _ (Removed item) popped) in
    let now : over_set lent written ≡ set.insert (over_set lent slots) item =
    over_set-write lent slots written item true c.write_slot-in-Some-Removed.ensures in
    let size : c.self.inside.size + 1 ≡ set.len (over_set lent written) = size-inserted lent slots written item c.self.inside.size
    c.self.invariant.counted gone now in
    let most : set.len (over_set lent written) ≤ set.len lent + length written = len-over lent written in
    let small : set.len lent < 2 ^ 63 = c.self.invariant.small in
    let few : length written < 2 ^ 63 = subst (λ n. n < 2 ^ 63) c.len-touched.ensures.len c.len-touched.ensures.small in
    omega arith

pub invariant_of-self-in-Some-Removed : goal.invariant_of-self-in-Some-Removed
invariant_of-self-in-Some-Removed c =
    let lent = c.self.inside.lent.now in
    let slots = c.self.inside.touched.entries in
    let written = c.write_slot-in-Some-Removed.new.slots.entries in
    let item = c.in-Some-Removed.item in
    let popped : c.self.inside.journal.items ≡ c.pop.new.self.items ++ Removed item ∷ [] =
    rw c.in-Some-Removed.field-0-is at c.in-Some-Removed.ensures.items in
    let newest : reverse c.self.inside.journal.items ≡ Removed item ∷ reverse c.pop.new.self.items = reverse_push _ _
    (Removed item) popped in
    let gone : set.contains (over_set lent slots) item ≡ false = newest_made (over_set lent slots) (reverse c.self.inside.journal.items)
    (reverse c.pop.new.self.items) (Removed item) c.self.invariant.made newest in
    let now : over_set lent written ≡ set.insert (over_set lent slots) item =
    over_set-write lent slots written item true c.write_slot-in-Some-Removed.ensures in
    set_kept_less lent slots written c.self.inside.size (c.self.inside.size + 1) (reverse c.self.inside.journal.items)
    (reverse c.pop.new.self.items) (Removed item) c.self.invariant c.write_slot-in-Some-Removed.ensures
    (size-inserted lent slots written item c.self.inside.size c.self.invariant.counted gone now) newest

pub returns-in-Some-Removed : goal.returns-in-Some-Removed
returns-in-Some-Removed c =
    let item = c.in-Some-Removed.item in
    let popped : c.self.inside.journal.items ≡ c.pop.new.self.items ++ Removed item ∷ [] =
    rw c.in-Some-Removed.field-0-is at c.in-Some-Removed.ensures.items in
    set_history_less c.self.inside.lent.now c.self.inside.touched.entries c.write_slot-in-Some-Removed.new.slots.entries
    (reverse c.self.inside.journal.items) (reverse c.pop.new.self.items) (Removed item)
    c.write_slot-in-Some-Removed.ensures (reverse_push _ _ (Removed item) popped)
    ∙ ap (λ (h : History Sets). undone h) c.self.view_is
