-- Queues that differ from a borrowed one at their ends. No public contract names it.
use Rattle.std.specs.Prelude.{ℕ, ◌-◌, ◌≤◌, ◌+◌, List, [], ◌∷◌, ◌++◌, length, take, drop}
use Rattle.atoms.specs.declared.item.Item.{Item}
use Rattle.drafts.specs.declared.queue_draft.QueueDraftChange.{QueueDraftChange}
use Rattle.drafts.specs.declared.queue_draft.QueueDraftChange.TheVariants.{Enqueued, Dequeued}

-- how many items went from the front, and those that came at the end
pub record Ends : Type 0 where
  pub taken : ℕ
  pub added : List Item

-- the borrowed items and those that came, without those that went
abbrev pub between : List Item → Ends → List Item
between lent ends = drop ends.taken (lent ++ ends.added)

-- the last item that came is gone, or as many went as before
abbrev pub queue_back : Ends → QueueDraftChange → Ends
queue_back ends Enqueued = record ends { added = take (length ends.added - 1) ends.added }
queue_back ends (Dequeued taken) = record ends { taken = taken }

-- no more went than there were, now and where changes are taken back, the latest first
abbrev pub AreWithin : List Item → Ends → List QueueDraftChange → Type 0
AreWithin lent ends [] = ends.taken ≤ length lent + length ends.added
AreWithin lent ends (change ∷ journal) = (ends.taken ≤ length lent + length ends.added) × AreWithin lent (queue_back ends change) journal
