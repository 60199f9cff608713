use Rattle.std.proofs.Common.{[], subst}
use Rattle.rounds.specs.Checks.{IsSeenPast}
use Rattle.rounds.proofs.Summed.{first_summed}
use Rattle.rounds.proofs.check.first_conflict.Goals as goal

pub returns : goal.returns
returns g c =
    first_summed c.args.runs.now c.in_ok-pending.pending.items c.in_ok-pending.ensures c.in_ok-seen.seen
    (subst (λ ps. IsSeenPast [] ps c.in_ok-seen.seen) c.deref.ensures.value
    (subst (λ es. IsSeenPast es c.deref.result.now c.in_ok-seen.seen) c.new-nets.ensures c.in_ok-seen.ensures.seen))
