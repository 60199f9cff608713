use Rattle.std.proofs.Common.{arith}
use Rattle.std.proofs.lemmas.Grind.{common_steps}
use Rattle.drafts.proofs.queue_draft.QueueDraft.front.Goals as goal

pub returns-then-self-len : goal.returns-then-self-len
returns-then-self-len c = grind (arith, common_steps)
