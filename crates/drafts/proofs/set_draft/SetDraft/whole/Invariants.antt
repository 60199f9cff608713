use Rattle.std.proofs.Common.{◌≡◌}
use Rattle.drafts.specs.Overlays.{over_set}
use Rattle.drafts.proofs.set_draft.SetDraft.whole.Given as goal

-- the slots that are left, over what was made so far
abbrev pub invariant-loop-item : goal.invariant-loop-item
invariant-loop-item l = over_set l.whole l.item-iterator.iter ≡ l.fn.self.value
