-- Pending runs that have the sums of runs conflict where these do.
use Rattle.std.proofs.Common.{◌≡◌, ℕ, zero, suc, ◌+◌, ◌<◌, ◌≤◌, ◌↔◌, List, [], ◌∷◌, ◌++◌, length, get_or, take, sym, ap, ◌∙◌}
use Rattle.std.proofs.Common.{subst, arith}
use Rattle.std.proofs.lemmas.List.{length_push, length-take-le, get_or-take, get_or_default}
use Rattle.std.proofs.Math.Seq.{get_or-append_seam}
use Rattle.std.proofs.Math.ListN.{get_or-append}
use native.Mathlib.Decide.{dec_le}
use Rattle.committed.specs.Summaries.{entries_of, IsSummary}
use Rattle.committed.proofs.SummaryLemmas.{stands-summary, past-summary, summary-append, summary-nil}
use Rattle.speculate.specs.declared.speculated.Run.{Run}
use Rattle.rounds.specs.declared.pending_run.PendingRun.{PendingRun}
use Rattle.rounds.specs.Passes.{nets_of, StandsPast, IsFirstConflict}
use Rattle.rounds.specs.PendingRuns.{left_by, AreSumsOf, AreSummed, all_left, HoldsPast}
use Rattle.rounds.specs.Checks.{IsSeenPast}
use Rattle.rounds.specs.declared.check.FirstConflict.{FirstConflict}
use Rattle.rounds.proofs.Conflicts.{some_run}

-- the sums of one run more
pub summed_more : (runs : List Run) (pending more : List PendingRun) (k : ℕ) (next : PendingRun) (run : Run) → k < length runs
    → more ≡ pending ++ next ∷ []
    → run ≡ get_or runs k run → AreSumsOf next.sums run.entries.items run.net.items → AreSummed (take k runs) pending
    → AreSummed (take (k + 1) runs) more
summed_more runs pending more k next run lt pushed is sums so_far =
    let size : length pending ≡ k = so_far.all ∙ length-take-le k runs (omega arith) in
    record {
      all = omega (arith, ap length pushed, length_push pending next, length-take-le (k + 1) runs (omega arith));
      each = λ i d r low.
          let within : i < k + 1 = omega (arith, low, length-take-le (k + 1) runs (omega arith)) in
          subst (λ o. AreSumsOf (get_or more i d).sums o.entries.items o.net.items) (sym (get_or-take (k + 1) runs i r within))
          (elim (dec_le k i) [
            | yes le ↦
                let last : length pending ≡ i = omega arith in
                let same : k ≡ i = omega arith in
                let here : get_or more i d ≡ next = ap (λ xs. get_or xs i d) pushed
                ∙ (ap (λ n. get_or (pending ++ next ∷ []) n d) (sym last) ∙ get_or-append_seam pending next [] d) in
                subst (λ p. AreSumsOf p.sums (get_or runs i r).entries.items (get_or runs i r).net.items) (sym here)
                (subst (λ o. AreSumsOf next.sums o.entries.items o.net.items)
                (is ∙ (sym (get_or_default runs k r run lt) ∙ ap (λ n. get_or runs n r) same)) sums)
            | no less ↦
                let early : i < k = omega arith in
                let before : get_or more i d ≡ get_or pending i d = ap (λ xs. get_or xs i d) pushed ∙ get_or-append pending (next ∷ []) d i
                (omega arith) in
                subst (λ p. AreSumsOf p.sums (get_or runs i r).entries.items (get_or runs i r).net.items) (sym before)
                (subst (λ o. AreSumsOf (get_or pending i d).sums o.entries.items o.net.items) (get_or-take k runs i r early)
                (so_far.each i d r (omega (arith, early, length-take-le k runs (omega arith)))))
          ]);
    }

-- what the first pending runs leave sums up what the first runs leave
left_summed : (runs : List Run) (pending : List PendingRun) (j : ℕ) → j ≤ length runs → length pending ≡ length runs
    → ((i : ℕ) (d : PendingRun) (r : Run) → i < length runs → AreSumsOf (get_or pending i d).sums (get_or runs i r).entries.items
    (get_or runs i r).net.items)
    → IsSummary (all_left (take j pending)) (nets_of (take j runs))
left_summed runs pending zero le size each = summary-nil
left_summed [] pending (suc j) le size each = absurd (omega arith)
left_summed (r ∷ runs) [] (suc j) le size each = absurd (omega arith)
left_summed (r ∷ runs) (p ∷ pending) (suc j) le size each =
    summary-append (left_by p.sums) r.net.items (all_left (take j pending)) (nets_of (take j runs)) (each 0 p r (omega arith)).net_is
    (left_summed runs pending j (omega arith) (omega arith) (λ i d o lt. each (suc i) d o (omega arith)))

module _ (runs : List Run) (pending : List PendingRun) (are : AreSummed runs pending) where
  -- a pending run holds past those before it exactly where the run stands past those before it
  holds_or_stands : (i : ℕ) (d : PendingRun) (r : Run) → i < length runs → HoldsPast (all_left (take i pending)) (get_or pending i d)
      ↔ StandsPast (nets_of (take i runs)) (get_or runs i r)
  holds_or_stands i d r lt =
      let summary = entries_of (get_or pending i d).sums.entries.items in
      let by_summary = stands-summary summary (get_or runs i r).entries.items (nets_of (take i runs)) (are.each i d r lt).entries_are in
      let by_since = past-summary summary (all_left (take i pending)) (nets_of (take i runs))
      (left_summed runs pending i (omega arith) are.all are.each) in
      (λ holds. by_summary.0 (by_since.0 holds), λ stands. by_since.1 (by_summary.1 stands))

  -- so the first conflict is the same
  pub first_summed : (seen : FirstConflict) → IsSeenPast [] pending seen → IsFirstConflict runs seen.first
  first_summed seen found =
      let size = are.all in
      let within = found.within in
      record {
        within = omega arith;
        clear = λ i low r.
            let lt : i < length runs = omega arith in
            some_run (StandsPast (nets_of (take i runs)) (get_or runs i r)) pending i (omega arith)
            (λ d. (holds_or_stands i d r lt).0 (found.clear i low d));
        conflict = λ r lt stands. found.conflict (omega arith) (λ d. (holds_or_stands seen.first d r lt).1 stands);
      }
