use Rattle.std.proofs.Common.{◌≡◌, ◌++◌, ◌+◌, ◌∷◌, [], length, take, sym, ap, ◌∙◌, subst, append_assoc}
use Rattle.committed.specs.Summaries.{entries_of, IsSummary}
use Rattle.committed.proofs.SummaryLemmas.{summary_covered, summary_more, entries_next, begins_still}
use Rattle.committed.proofs.committed.Committed.append_new.Goals as goal
use Rattle.committed.proofs.committed.Committed.append_new.Goals.{then-not-covers+in_ok-put, else-not-covers}

pub loop-marked-preserved : goal.loop-marked-preserved
loop-marked-preserved c =
    let e = c.marked-item.result.entry in
    let more = c.args.entries.now in
    let at = c.loop-marked.marked-index in
    let old = c.expect.new.self in
    let listed = c.loop-marked.self in
    let so_far = old ++ entries_of (take at more) in
    let later = old ++ entries_of (take (at + 1) more) in
    let was = c.loop-marked.invariant in
    let next : so_far ++ e ∷ [] ≡ later = append_assoc old (entries_of (take at more)) (e ∷ [])
    ∙ ap (λ es. old ++ es) (sym (entries_next more at c.marked-item.result c.loop-marked-test.true c.marked-item.is)) in
    elim c.if-not-covers.branch [
      | then-not-covers+in_ok-put w ↦ (let longer : c.if-not-covers.self ≡ listed ++ e ∷ [] =
          w.self-is ∙ w.in_ok-put.ensures.ok in
          record {
            summary = subst (IsSummary c.if-not-covers.self) next (summary_more listed c.if-not-covers.self so_far e longer was.summary);
            kept = ap (take (length old)) longer ∙ begins_still old listed (e ∷ []) was.kept;
          })
      | else-not-covers w ↦ record {
        summary = subst (λ es. IsSummary es later) (sym w.self-is) (subst (IsSummary listed) next
            (summary_covered listed so_far e (c.covers.ensures w.if-not-covers.false) was.summary));
        kept = ap (take (length old)) w.self-is ∙ was.kept;
      }
    ]
