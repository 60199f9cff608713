use Rattle.std.proofs.Common.{◌++◌, ◌∷◌, [], arith, take, sym, ap, ◌∙◌, subst, append_assoc}
use Rattle.committed.specs.Filter.{IsFilterOf}
use Rattle.committed.specs.Summaries.{entries_of}
use Rattle.committed.proofs.FilterLemmas.{filter_next}
use Rattle.committed.proofs.SummaryLemmas.{entries_next}
use Rattle.committed.proofs.committed.put_all.Goals as goal

pub loop-marked-preserved : goal.loop-marked-preserved
loop-marked-preserved c =
    let e = c.marked-item.result.entry in
    let es = c.loop-marked.entries.items in
    let more = c.args.more.now in
    let at = c.loop-marked.marked-index in
    let m = c.marked-item.result in
    let was = c.loop-marked.invariant in
    record {
      entries = c.push_reserved.ensures.items ∙ ap (λ xs. xs ++ e ∷ []) was.entries
          ∙ append_assoc c.args.entries.now.items (entries_of (take at more)) (e ∷ [])
          ∙ ap (λ xs. c.args.entries.now.items ++ xs) (sym (entries_next more at m c.loop-marked-test.true c.marked-item.is));
      room = omega (arith, was.room, c.push_reserved.ensures.len, c.push_reserved.ensures.capacity, c.loop-marked-test.true);
      filter = subst (λ xs. IsFilterOf xs c.mark.new.self) (sym c.push_reserved.ensures.items)
          (filter_next es e c.loop-marked.filter c.mark.new.self was.filter c.mark.ensures.kept (c.mark.ensures.own e m.is_marked));
    }
