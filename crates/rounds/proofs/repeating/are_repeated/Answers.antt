use Rattle.std.proofs.Common.{get_or, sym, subst, arith}
use Rattle.std.proofs.lemmas.List.{length-map}
use native.Mathlib.Decide.{ℕ_discrete}
use Rattle.committed.specs.Summaries.{entries_of}
use Rattle.committed.specs.declared.marks.MarkedEntry.{MarkedEntry}
use Rattle.committed.proofs.SummaryLemmas.{entry_at}
use Rattle.rounds.specs.Repeated.{IsRepeated, AreApart}
use Rattle.rounds.proofs.RepeatLemmas.{all_legal}
use Rattle.rounds.proofs.repeating.are_repeated.Goals as goal

pub loop-marked-preserved : goal.loop-marked-preserved
loop-marked-preserved c i d lt = elim (ℕ_discrete c.loop-marked.marked-index i) [
  | yes here ↦
      let marked = c.marked-item.result in
      let entries = c.args.entries.now in
      let is = entry_at entries c.loop-marked.marked-index marked d c.loop-marked-test.true c.marked-item.is in
      subst (λ j. IsRepeated c.args.objects.now (get_or (entries_of entries) j d)) here
      (subst (IsRepeated c.args.objects.now) is (c.is_repeated.ensures c.if-not-is_repeated.false))
  | no other ↦ c.loop-marked.invariant i d (omega arith)
]

pub returns : goal.returns
returns c told =
    let over = c.loop-marked-test.false in
    let size = length-map c.args.entries.now (λ (m : MarkedEntry). m.entry) in
    all_legal c.args.objects.now (entries_of c.args.entries.now)
    (subst (AreApart (entries_of c.args.entries.now)) (sym size) (c.are_apart.ensures c.if-not-are_apart.false))
    (λ i d lt. c.loop-marked.invariant i d (omega arith))
