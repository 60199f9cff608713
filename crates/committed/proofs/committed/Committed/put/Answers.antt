use Rattle.std.proofs.Common.{sym, subst, ◌∷◌, []}
use Rattle.committed.specs.Filter.{IsFilterOf}
use Rattle.committed.specs.Index.{IsIndexOf}
use Rattle.committed.proofs.FilterLemmas.{filter_next}
use Rattle.committed.proofs.IndexLemmas.{index_more}
use Rattle.committed.proofs.committed.Committed.put.Goals as goal

pub invariant_of-self : goal.invariant_of-self
invariant_of-self c = record {
  index = subst (λ es. IsIndexOf es c.self-2.inside.index) (sym c.in_err-push.ensures.items) c.self-2.invariant.index;
  filter = subst (λ es. IsFilterOf es c.self-2.inside.filter) (sym c.in_err-push.ensures.items) c.self-2.invariant.filter;
}

pub invariant_of-self-2 : goal.invariant_of-self-2
invariant_of-self-2 c =
    let es = c.self-2.inside.entries.items in
    let e = c.args.marked.now.entry in
    record {
      index = subst (λ es. IsIndexOf es c.self-2.inside.index) (sym c.in_ok-push.ensures.items)
          (index_more es (e ∷ []) c.self-2.inside.index c.self-2.invariant.index);
      filter = subst (λ es. IsFilterOf es c.mark.new.self) (sym c.in_ok-push.ensures.items)
          (filter_next es e c.self-2.inside.filter c.mark.new.self c.self-2.invariant.filter c.mark.ensures.kept
          (c.mark.ensures.own e c.args.marked.now.is_marked));
    }
