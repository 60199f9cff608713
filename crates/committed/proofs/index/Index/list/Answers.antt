use Rattle.std.proofs.Common.{◌-◌, ◌+◌, arith, length, refl, subst, sym}
use Rattle.committed.specs.Index.{IsListedAt, IsIndexOf, AreUpTo}
use Rattle.committed.proofs.IndexLemmas.{index_next}
use Rattle.committed.proofs.index.Index.list.Goals as goal

pub loop-place-preserved : goal.loop-place-preserved
loop-place-preserved c =
    let es = c.args.entries.now in
    let old = c.loop-place.self in
    let was = c.loop-place.invariant in
    let at = was.at in
    let put = c.put.ensures in
    record {
      index = subst (λ n. IsIndexOf es (record { last = c.put.new.self.last; links = c.put.new.self.links; listed = n + 1 })) at
          (index_next es old c.put.new.self was.index (omega (arith, at, c.loop-place-test.true, c.min-end.ensures))
          (omega (arith, at, c.loop-place-test.true, c.min-end.ensures)) put.listed put.links put.lasts put.spans
          (subst (IsListedAt c.put.new.self es) (sym at) put.own) put.kept (subst (AreUpTo c.put.new.self.links.items) (sym at) put.last)
          put.few);
      at = refl;
      room = put.room (length es - (c.loop-place.place + 1)) (
        omega (arith, was.room.0, c.loop-place-test.true, c.min-end.ensures),
        omega (arith, was.room.1, c.loop-place-test.true, c.min-end.ensures),
      );
    }
