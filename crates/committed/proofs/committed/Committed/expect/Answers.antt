use Rattle.std.proofs.Common.{sym, subst}
use Rattle.committed.specs.Filter.{IsFilterOf}
use Rattle.committed.proofs.committed.Committed.expect.Goals as goal

pub reserve-requires : goal.reserve-requires
reserve-requires c = subst (λ es. IsFilterOf es c.self.inside.filter) (sym c.deref.ensures.value) c.self.invariant.filter

pub invariant_of-self : goal.invariant_of-self
invariant_of-self c = record {
  index = c.self.invariant.index;
  filter = subst (λ es. IsFilterOf es c.reserve.new.self) c.deref.ensures.value c.reserve.ensures.filter;
}

pub invariant_of-self-2 : goal.invariant_of-self-2
invariant_of-self-2 c = record {
  index = c.self.invariant.index;
  filter = subst (λ es. IsFilterOf es c.reserve.new.self) c.deref.ensures.value c.reserve.ensures.filter;
}
