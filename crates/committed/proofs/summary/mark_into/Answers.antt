use Rattle.std.proofs.Common.{arith, rules, ◌++◌, ◌∷◌, [], take, sym, ap, ◌∙◌, subst}
use Rattle.std.proofs.lemmas.List.{map-append, take_more, take_all}
use Rattle.committed.specs.declared.marks.MarkedEntry.{MarkedEntry}
use Rattle.committed.specs.Spans.{AreIn}
use Rattle.committed.specs.Summaries.{entries_of}
use Rattle.committed.proofs.SpanLemmas.{are_in_more}
use Rattle.committed.proofs.summary.mark_into.Goals as goal

pub loop-entry-init : goal.loop-entry-init
loop-entry-init c = record {
  marked = search rules;
  room = omega (arith, c.clear.ensures.len, c.in_ok-reserve_exact.ensures.ok, c.in_ok-reserve_exact.ensures.len);
  span = λ k d lt. absurd (omega (arith, lt));
}

pub loop-entry-preserved : goal.loop-entry-preserved
loop-entry-preserved c =
    let entries = c.args.entries.now in
    let at = c.loop-entry.entry-index in
    let entry = c.entry-item.result in
    record {
      marked = ap entries_of c.push_reserved.ensures.items
          ∙ map-append (λ (m : MarkedEntry). m.entry) c.loop-entry.marked.items (c.of.result ∷ [])
          ∙ ap (λ es. es ++ c.of.result.entry ∷ []) c.loop-entry.invariant.marked
          ∙ ap (λ e. take at entries ++ e ∷ []) (c.of.ensures ∙ c.entry-item.is)
          ∙ sym (take_more entries at entry c.loop-entry-test.true);
      room = omega arith;
      span = are_in_more entries at c.loop-entry.span c.add.new.self entry c.loop-entry-test.true c.entry-item.is
          c.add.ensures.own c.add.ensures.others c.loop-entry.invariant.span;
    }

pub returns-clause-marked : goal.returns-clause-marked
returns-clause-marked c = c.loop-entry.invariant.marked ∙ take_all c.loop-entry.entry-index c.args.entries.now (omega arith)

pub returns-clause-span : goal.returns-clause-span
returns-clause-span c = subst (AreIn c.loop-entry.span) (take_all c.loop-entry.entry-index c.args.entries.now (omega arith))
    c.loop-entry.invariant.span
