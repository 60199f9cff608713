use Rattle.std.proofs.Common.{get_or, ap, ◌∙◌, arith}
use Rattle.std.proofs.lemmas.List.{length-map}
use native.Mathlib.Decide.{ℕ_discrete}
use Rattle.objects.specs.declared.entry.Entry.{Entry}
use Rattle.committed.specs.Summaries.{entries_of}
use Rattle.committed.specs.declared.marks.MarkedEntry.{MarkedEntry}
use Rattle.committed.proofs.SummaryLemmas.{entry_at}
use Rattle.rounds.proofs.repeating.has_object.Goals as goal

pub loop-marked-preserved : goal.loop-marked-preserved
loop-marked-preserved c k d lt = elim (ℕ_discrete c.loop-marked.marked-index k) [
  | yes here ↦ λ same.
      let marked = c.marked-item.result in
      let entries = c.args.entries.now in
      let is = entry_at entries c.loop-marked.marked-index marked d c.loop-marked-test.true c.marked-item.is in
      c.if-marked-object.false (ap (λ (e : Entry). e.object) is ∙ (ap (λ i. (get_or (entries_of entries) i d).object) here ∙ same))
  | no other ↦ c.loop-marked.invariant k d (omega arith)
]

pub returns : goal.returns
returns c none k d lt =
    let over = c.loop-marked-test.false in
    let size = length-map c.args.entries.now (λ (m : MarkedEntry). m.entry) in
    c.loop-marked.invariant k d (omega arith)
