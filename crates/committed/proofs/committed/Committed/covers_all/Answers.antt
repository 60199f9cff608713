use Rattle.std.proofs.Common.{◌≡◌, ◌++◌, ◌+◌, ◌∷◌, [], take, sym, ap, ◌∙◌, subst, append_assoc}
use Rattle.committed.specs.Summaries.{entries_of, IsSummary}
use Rattle.committed.proofs.SummaryLemmas.{summary_covered, entries_next}
use Rattle.committed.proofs.committed.Committed.covers_all.Goals as goal

pub loop-marked-preserved : goal.loop-marked-preserved
loop-marked-preserved c =
    let e = c.marked-item.result.entry in
    let more = c.args.entries.now in
    let at = c.loop-marked.marked-index in
    let listed = c.args.self.now in
    let so_far = listed ++ entries_of (take at more) in
    let next : so_far ++ e ∷ [] ≡ listed ++ entries_of (take (at + 1) more) =
    append_assoc listed (entries_of (take at more)) (e ∷ [])
    ∙ ap (λ es. listed ++ es) (sym (entries_next more at c.marked-item.result c.loop-marked-test.true c.marked-item.is)) in
    subst (IsSummary listed) next (summary_covered listed so_far e (c.covers.ensures c.if-not-covers.false) c.loop-marked.invariant)
