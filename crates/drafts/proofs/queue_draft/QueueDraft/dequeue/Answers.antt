use Rattle.std.proofs.Common.{◌≡◌, ◌<◌, ◌++◌, length, drop, reverse, arith, sym, ap, ◌∙◌, subst, length-append}
use Rattle.std.specs.Prelude.{List, IsSome, slice_get}
use Rattle.atoms.specs.declared.item.Item.{Item}
use Rattle.drafts.specs.declared.queue_draft.QueueDraftChange.TheVariants.{Dequeued}
use Rattle.drafts.specs.History.{History, changed}
use Rattle.drafts.specs.Queues.{between}
use Rattle.drafts.proofs.HistoryLemmas.{reverse_push}
use Rattle.drafts.proofs.QueueLemmas.{ends_at, some_left, within_dequeued, history_dequeued}
use Rattle.drafts.proofs.queue_draft.QueueDraft.dequeue.Goals as goal

pub overflow_add-self : goal.overflow_add-self
overflow_add-self c =
    let lent = c.self.inside.lent.now in
    let added = c.self.inside.added.items in
    let some : IsSome (slice_get (between lent (ends_at c.self.inside.taken added)) 0) =
    subst (λ (h : History (List Item)). IsSome (slice_get h.value 0)) (sym c.self.view_is) c.requires in
    let left : c.self.inside.taken < length (lent ++ added) = some_left (lent ++ added) c.self.inside.taken some in
    let size = length-append lent added in
    let came : length c.items.result.now.items ≡ length lent = ap length c.items.ensures in
    omega (arith, c.items.result.now.ok, c.items.result.now.small, c.self.inside.added.ok, c.self.inside.added.small)

pub invariant_of-self-2 : goal.invariant_of-self-2
invariant_of-self-2 c =
    let some : IsSome (slice_get (between c.self.inside.lent.now (ends_at c.self.inside.taken c.self.inside.added.items)) 0) =
    subst (λ (h : History (List Item)). IsSome (slice_get h.value 0)) (sym c.self.view_is) c.requires in
    within_dequeued c.self.inside.lent.now c.self.inside.added.items c.self.inside.taken (reverse c.self.inside.journal.items)
    (reverse c.push.new.self.items) c.self.invariant some
    (reverse_push _ _ (Dequeued c.self.inside.taken) c.in_ok-push.ensures.items)

pub returns-clause-ok : goal.returns-clause-ok
returns-clause-ok c =
    history_dequeued c.self.inside.lent.now c.self.inside.added.items c.self.inside.taken (reverse c.self.inside.journal.items)
    (reverse c.push.new.self.items)
    (reverse_push _ _ (Dequeued c.self.inside.taken) c.in_ok-push.ensures.items)
    ∙ ap (λ (h : History (List Item)). changed h (drop 1 h.value)) c.self.view_is
