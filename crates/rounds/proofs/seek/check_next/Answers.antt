use Rattle.std.proofs.Common.{◌≡◌, ◌-◌, ◌++◌, get_or, length, take, refl, sym, ap, ◌∙◌, ◌<◌, subst, arith}
use Rattle.std.proofs.lemmas.Bool.{false≢true}
use Rattle.std.proofs.lemmas.List.{get_or_read}
use Rattle.std.proofs.Math.Seq.{take-length}
use Rattle.committed.specs.Summaries.{entries_of, IsSummary}
use Rattle.rounds.specs.PendingRuns.{HoldsPast, left_by}
use Rattle.rounds.specs.Windows.{run_at}
use Rattle.rounds.specs.declared.pending_run.PendingRun.{PendingRun}
use Rattle.rounds.proofs.Firsts.{all_taken}
use Rattle.rounds.proofs.seek.check_next.Goals as goal
use Rattle.rounds.proofs.seek.check_next.Goals.{then-not-passes+in_ok-check_past+else-not-branch+in_ok-append_new, else-not-passes}

pub returns-then-not-branch : goal.returns-then-not-branch
returns-then-not-branch c =
    let window = c.args.window.now in
    let nets = c.args.nets.now in
    let place = c.args.number - window.first in
    let all = all_taken nets c.len-upto.result c.len-upto.ensures in
    record {
      holds = (
        λ yes. absurd (false≢true yes),
        λ stands.
            let told = c.in_ok-check_past.ensures.stands.1 (λ d. subst (λ es. HoldsPast es (get_or c.deref.result.now place d)) (sym all)
            (subst (λ rs. HoldsPast nets (get_or rs place d)) (sym c.deref.ensures.value) (stands d))) in
            absurd (false≢true (sym c.if-not-branch.true ∙ told)),
      );
      summary = λ yes. absurd (false≢true yes);
      freed = λ yes. absurd (false≢true yes);
      same = λ no. (refl, c.check_past.ensures.same);
      kept = ap (take (length nets)) c.check_past.ensures.same ∙ take-length nets;
    }

pub returns : goal.returns
returns c = elim c.if-not-passes.branch [
  | then-not-passes+in_ok-check_past+else-not-branch+in_ok-append_new w ↦ (let window = c.args.window.now in
      let nets = c.args.nets.now in
      let place = c.args.number - window.first in
      let same = w.check_past.ensures.same in
      let all = all_taken nets w.len-upto.result w.len-upto.ensures in
      let within = c.requires.number in
      let inside : place < length window.runs.items = omega (arith, within.0, within.1) in
      let left : (d : PendingRun) → entries_of w.net.result.now ≡ left_by (run_at window c.args.number d).sums = λ d.
      w.net.ensures ∙ ap (λ (run : PendingRun). left_by run.sums)
      (get_or_read window.runs.items place w.index.result.now inside w.index.ensures d) in
      record {
        holds = (
          λ yes d. subst (λ rs. HoldsPast nets (get_or rs place d)) w.deref.ensures.value
              (subst (λ es. HoldsPast es (get_or w.deref.result.now place d)) all
              (w.in_ok-check_past.ensures.stands.0 w.if-not-branch.false d)),
          λ stands. refl,
        );
        summary = λ yes d. subst (λ es. IsSummary es (nets ++ left_by (run_at window c.args.number d).sums)) (sym w.nets-is)
            (subst (λ es. IsSummary w.append_new.new.self (es ++ left_by (run_at window c.args.number d).sums)) same
            (subst (λ es. IsSummary w.append_new.new.self (w.check_past.new.nets ++ es)) (left d)
            w.in_ok-append_new.ensures.summary));
        freed = λ yes. c.free_sums.ensures;
        same = λ no. absurd (false≢true (sym no));
        kept = subst (λ es. take (length nets) es ≡ nets) (sym w.nets-is)
            (subst (λ es. take (length es) w.append_new.new.self ≡ es) same w.append_new.ensures.kept);
      })
  | else-not-passes w ↦ (let nets = c.args.nets.now in
      let passes = c.requires.passes w.if-not-passes.false in
      record {
        holds = (λ yes d. (passes d).0, λ stands. refl);
        summary = λ yes d. subst (λ es. IsSummary es (nets ++ left_by (run_at c.args.window.now c.args.number d).sums)) (sym w.nets-is)
            (passes d).1;
        freed = λ yes. c.free_sums.ensures;
        same = λ no. absurd (false≢true (sym no));
        kept = ap (take (length nets)) w.nets-is ∙ take-length nets;
      })
]
