use Rattle.std.proofs.Common.{◌∷◌, ◌++◌, [], reverse, ap, ◌∙◌}
use Rattle.std.specs.Prelude.{List}
use Rattle.atoms.specs.declared.item.Item.{Item}
use Rattle.drafts.specs.declared.queue_draft.QueueDraftChange.TheVariants.{Enqueued}
use Rattle.drafts.specs.History.{History, changed}
use Rattle.drafts.proofs.HistoryLemmas.{journal_push}
use Rattle.drafts.proofs.QueueLemmas.{within_enqueued, history_enqueued}
use Rattle.drafts.proofs.queue_draft.QueueDraft.enqueue.Goals as goal

pub invariant_of-self-2 : goal.invariant_of-self-2
invariant_of-self-2 c =
    within_enqueued c.self.inside.lent.now c.self.inside.added.items c.push.new.self.items c.self.inside.taken c.args.item
    (reverse c.self.inside.journal.items) (reverse c.push_reserved.new.self.items) c.self.invariant
    c.in_ok-push.ensures.items (journal_push _ _ _ Enqueued c.push_reserved.ensures.items c.reserve.ensures.items)

pub returns-clause-ok : goal.returns-clause-ok
returns-clause-ok c =
    history_enqueued c.self.inside.lent.now c.self.inside.added.items c.push.new.self.items c.self.inside.taken c.args.item
    (reverse c.self.inside.journal.items) (reverse c.push_reserved.new.self.items) c.self.invariant
    c.in_ok-push.ensures.items (journal_push _ _ _ Enqueued c.push_reserved.ensures.items c.reserve.ensures.items)
    ∙ ap (λ (h : History (List Item)). changed h (h.value ++ c.args.item ∷ [])) c.self.view_is
