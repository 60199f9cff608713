use Rattle.std.proofs.Common.{◌<◌, get_or, length, sym, subst}
use Rattle.committed.specs.Filter.{IsMarked}
use Rattle.committed.proofs.committed.Committed.met.Goals as goal

pub returns : goal.returns
returns c e is k before =
    let marked : IsMarked c.self.inside.filter (get_or c.args.self.now k e) =
    subst (λ es. IsMarked c.self.inside.filter (get_or es k e)) c.self.view_is
    (c.self.invariant.filter k e (subst (λ es. k < length es) (sym c.self.view_is) before)) in
    c.met.ensures e (get_or c.args.self.now k e) is marked
