use Rattle.std.proofs.Common.{◌≡◌}
use Rattle.drafts.specs.Overlays.{over_directory}
use Rattle.drafts.proofs.directory_draft.DirectoryDraft.whole.Given as goal

-- the slots that are left, over what was made so far
abbrev pub invariant-loop-key : goal.invariant-loop-key
invariant-loop-key l = over_directory l.whole l.key-iterator.iter ≡ l.fn.self.value
