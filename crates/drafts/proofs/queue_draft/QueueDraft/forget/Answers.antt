use Rattle.std.proofs.Common.{reverse, sym, subst}
use Rattle.drafts.specs.Queues.{AreWithin}
use Rattle.drafts.proofs.QueueLemmas.{ends_at, within_now}
use Rattle.drafts.proofs.queue_draft.QueueDraft.forget.Goals as goal

pub invariant_of-self : goal.invariant_of-self
invariant_of-self c =
    let inside = c.self.inside in
    let ends = ends_at inside.taken inside.added.items in
    subst (λ (changes : _). AreWithin inside.lent.now ends (reverse changes)) (sym c.truncate.ensures.items)
    (within_now inside.lent.now ends (reverse inside.journal.items) c.self.invariant)
