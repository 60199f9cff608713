use Rattle.std.proofs.Common.{arith}
use Rattle.std.proofs.lemmas.Grind.{common_steps}
use Rattle.drafts.proofs.queue_draft.QueueDraft.undo.Goals as goal

pub returns-in-Some-Dequeued : goal.returns-in-Some-Dequeued
returns-in-Some-Dequeued c = grind (arith, common_steps)
