use Rattle.std.proofs.Common.{◌≡◌, ◌++◌, ◌-◌, drop, length}
use Rattle.drafts.proofs.queue_draft.QueueDraft.whole.Given as goal

abbrev pub invariant-loop-place : goal.invariant-loop-place
invariant-loop-place l =
    l.whole ++ (drop l.place l.self-inside.lent.now ++ drop (l.self-inside.taken - length l.self-inside.lent.now)
    l.self-inside.added.items) ≡ l.fn.self.value

abbrev pub invariant-loop-place_added : goal.invariant-loop-place_added
invariant-loop-place_added l = l.whole ++ drop l.place_added l.self-inside.added.items ≡ l.fn.self.value
