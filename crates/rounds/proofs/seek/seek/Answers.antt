use Rattle.std.proofs.Common.{sym, subst}
use Rattle.rounds.specs.Windows.{IsRoundSeen}
use Rattle.rounds.proofs.seek.seek.Goals as goal

pub returns-clause-seen : goal.returns-clause-seen
returns-clause-seen g c =
    subst (λ listed. IsRoundSeen c.args.job.now.batch.now c.args.opened c.seek_in.new.window listed c.in_ok-seen.seen)
    (sym c.take_back.ensures) c.in_ok-seen.ensures.seen
