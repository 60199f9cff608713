use Rattle.std.proofs.Common.{arith}
use Rattle.committed.proofs.committed.Committed.commutes_with.Goals as goal

pub commutes_with_met-requires-clause-met : goal.commutes_with_met-requires-clause-met
commutes_with_met-requires-clause-met c k before =
    c.met-met.ensures c.args.entry.now c.requires.mark k (omega (arith, before, c.requires.within))
