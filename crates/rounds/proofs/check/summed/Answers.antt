use Rattle.std.proofs.Common.{sym, ◌∙◌, subst}
use Rattle.rounds.specs.PendingRuns.{AreSumsOf}
use Rattle.committed.proofs.ListsLemmas.{same_entries}
use Rattle.rounds.proofs.Summed.{summed_more}
use Rattle.rounds.proofs.check.summed.Goals as goal

pub renew-requires : goal.renew-requires
renew-requires c = record {
  whole = λ whole. c.deref-in-loop-run.ensures.value
      ∙ (same_entries c.run-item.result.net.items c.run-item.result.entries.items (sym c.eq-whole.ensures ∙ whole)
      ∙ sym c.deref.ensures.value);
}

pub loop-run-preserved : goal.loop-run-preserved
loop-run-preserved c =
    let sums = c.renew.new.self in
    let run = c.run-item.result in
    let next = record c.empty-next.result { sums = sums } in
    summed_more c.args.runs.now c.loop-run.pending.items c.push.new.self.items c.loop-run.run-index next run c.loop-run-test.true
    c.in_ok-push.ensures.items c.run-item.is
    (subst (λ es. AreSumsOf sums es run.net.items) c.deref.ensures.value
    (subst (AreSumsOf sums c.deref.result.now) c.deref-in-loop-run.ensures.value c.in_ok-renew.ensures.sums)) c.loop-run.invariant
