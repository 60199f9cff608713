use Rattle.std.proofs.Common.{◌++◌, ◌∷◌, [], arith, take, sym, ap, ◌∙◌, subst}
use Rattle.std.proofs.lemmas.List.{take_more, take_all}
use Rattle.std.proofs.lemmas.Result.{on_ok_weaker}
use Rattle.committed.specs.Spans.{AreIn}
use Rattle.committed.specs.Summaries.{entries_of, IsSummary}
use Rattle.committed.proofs.SpanLemmas.{are_in_more}
use Rattle.committed.proofs.SummaryLemmas.{summary_itself, summary_made}
use Rattle.committed.proofs.summary.summarize.Goals as goal

pub returns-then-entries-le-FEW_ENTRIES-clause-summary : goal.returns-then-entries-le-FEW_ENTRIES-clause-summary
returns-then-entries-le-FEW_ENTRIES-clause-summary c =
    on_ok_weaker c.mark_into.result (summary_made c.mark_into.new.marked.items c.args.entries.now) c.mark_into.ensures.marked

pub returns-then-entries-le-FEW_ENTRIES-clause-few : goal.returns-then-entries-le-FEW_ENTRIES-clause-few
returns-then-entries-le-FEW_ENTRIES-clause-few c = on_ok_weaker c.mark_into.result (λ same _. same) c.mark_into.ensures.marked

pub loop-entry-init : goal.loop-entry-init
loop-entry-init c = record {
  summary = subst (λ items. IsSummary (entries_of items) []) (sym c.in_ok-table.ensures) (summary_itself []);
  span = λ k d lt. absurd (omega (arith, lt));
}

pub loop-entry-preserved : goal.loop-entry-preserved
loop-entry-preserved c =
    let entries = c.args.entries.now in
    let at = c.loop-entry.entry-index in
    let entry = c.entry-item.result in
    record {
      summary = subst (IsSummary (entries_of c.add.new.self.summary.items))
          (ap (λ e. take at entries ++ e ∷ []) c.entry-item.is ∙ sym (take_more entries at entry c.loop-entry-test.true))
          (c.in_ok-add.ensures (take at entries) c.loop-entry.invariant.summary);
      span = are_in_more entries at c.loop-entry.span c.add-in-loop-entry.new.self entry c.loop-entry-test.true c.entry-item.is
          c.add-in-loop-entry.ensures.own c.add-in-loop-entry.ensures.others c.loop-entry.invariant.span;
    }

pub returns-clause-summary : goal.returns-clause-summary
returns-clause-summary c =
    let entries = c.args.entries.now in
    subst (IsSummary (entries_of c.loop-entry.table.summary.items)) (take_all c.loop-entry.entry-index entries (omega arith))
    c.loop-entry.invariant.summary

pub returns-clause-few : goal.returns-clause-few
returns-clause-few c few = absurd (omega (arith, few, c.if-entries-le-FEW_ENTRIES.false))

pub returns-clause-span : goal.returns-clause-span
returns-clause-span c = subst (AreIn c.loop-entry.span) (take_all c.loop-entry.entry-index c.args.entries.now (omega arith))
    c.loop-entry.invariant.span
