use Rattle.std.proofs.Common.{arith, reverse}
use Rattle.drafts.proofs.QueueLemmas.{ends_at, within_now}
use Rattle.drafts.proofs.queue_draft.QueueDraft.len.Goals as goal

pub overflow_sub-result : goal.overflow_sub-result
overflow_sub-result c =
    let within = within_now c.self.inside.lent.now (ends_at c.self.inside.taken c.self.inside.added.items)
    (reverse c.self.inside.journal.items) c.self.invariant in
    grind (arith, within, c.items.ensures, c.len.ensures, c.len-2.ensures)
