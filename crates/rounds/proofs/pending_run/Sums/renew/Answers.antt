use Rattle.std.proofs.Common.{◌≤◌, ◌∙◌, length, sym, subst}
use Rattle.committed.specs.Spans.{AreIn}
use Rattle.committed.specs.Summaries.{entries_of, IsSummary}
use Rattle.committed.specs.declared.summary.TheConstants.{FEW_ENTRIES}
use Rattle.rounds.proofs.pending_run.Sums.renew.Goals as goal

pub returns-then-whole-clause-sums : goal.returns-then-whole-clause-sums
returns-then-whole-clause-sums c =
    let same = c.requires.whole c.if-whole.true in
    record {
      whole = λ none. same;
      entries_are = c.in_ok-span.ensures.summary;
      net_is = subst (IsSummary (entries_of c.summarize.new.summary.items)) (sym same) c.in_ok-span.ensures.summary;
    }

pub returns-then-whole-clause-few : goal.returns-then-whole-clause-few
returns-then-whole-clause-few c few =
    let same = c.requires.whole c.if-whole.true in
    c.in_ok-span.ensures.few (subst (λ es. length es ≤ FEW_ENTRIES) same few) ∙ sym same

pub returns-then-whole-clause-span : goal.returns-then-whole-clause-span
returns-then-whole-clause-span c = subst (AreIn c.in_ok-span.span) (sym (c.requires.whole c.if-whole.true)) c.in_ok-span.ensures.span
