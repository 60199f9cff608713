use Rattle.std.proofs.Common.{refl}
use Rattle.doc_tokens.proofs.PulledSteps.{no_reason_met}
use Rattle.doc_tokens.proofs.pull.refusal_of.Goals as goal

pub returns-in-None : goal.returns-in-None
returns-in-None c = rw c.in-None.is (no_reason_met c.args.version c.args.state.now.counts, refl, refl)
