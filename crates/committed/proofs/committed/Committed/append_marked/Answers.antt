use Rattle.std.proofs.Common.{sym, ◌∙◌, subst}
use Rattle.committed.specs.Filter.{IsFilterOf}
use Rattle.committed.specs.Index.{IsIndexOf}
use Rattle.committed.specs.Summaries.{entries_of}
use Rattle.committed.proofs.IndexLemmas.{index_more}
use Rattle.committed.proofs.committed.Committed.append_marked.Goals as goal

pub invariant_of-self : goal.invariant_of-self
invariant_of-self c = record {
  index = subst (λ es. IsIndexOf es c.self.inside.index) (sym c.reserve.ensures.items) c.self.invariant.index;
  filter = subst (λ es. IsFilterOf es c.self.inside.filter) (sym c.reserve.ensures.items) c.self.invariant.filter;
}

pub reserve-requires-2 : goal.reserve-requires-2
reserve-requires-2 c = subst (λ es. IsFilterOf es c.self.inside.filter) (sym (c.deref.ensures.value
    ∙ c.reserve.ensures.items)) c.self.invariant.filter

pub invariant_of-self-in_err-reserve-2 : goal.invariant_of-self-in_err-reserve-2
invariant_of-self-in_err-reserve-2 c = record {
  index = subst (λ es. IsIndexOf es c.self.inside.index) (sym c.reserve.ensures.items) c.self.invariant.index;
  filter = subst (λ es. IsFilterOf es c.reserve-2.new.self) c.deref.ensures.value c.reserve-2.ensures.filter;
}

pub put_all-requires-clause-filter : goal.put_all-requires-clause-filter
put_all-requires-clause-filter c = subst (λ es. IsFilterOf es c.reserve-2.new.self) c.deref.ensures.value c.reserve-2.ensures.filter

pub invariant_of-self-2 : goal.invariant_of-self-2
invariant_of-self-2 c = record {
  index = subst (λ es. IsIndexOf es c.self.inside.index) (sym c.put_all.ensures.entries)
      (index_more c.reserve.new.self.items (entries_of c.args.entries.now) c.self.inside.index
      (subst (λ es. IsIndexOf es c.self.inside.index) (sym c.reserve.ensures.items) c.self.invariant.index));
  filter = c.put_all.ensures.filter;
}
