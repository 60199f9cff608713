use Rattle.std.proofs.Common.{◌≡◌, ◌++◌, ◌∷◌, [], length, sym, ap, ◌∙◌, subst, append-nil, arith}
use Rattle.std.proofs.lemmas.List.{take_all, length_push}
use Rattle.committed.specs.Summaries.{entries_of}
use Rattle.rounds.specs.PendingRuns.{all_left}
use Rattle.rounds.proofs.Firsts.{nets_more, starts_more}
use Rattle.rounds.proofs.check.list_nets.Goals as goal

pub loop-run-init : goal.loop-run-init
loop-run-init c = record {
  nets = sym (append-nil c.args.nets.now);
  all = ap length c.requires.starts;
  each = λ k lt. absurd (omega arith);
}

pub loop-run-preserved : goal.loop-run-preserved
loop-run-preserved c =
    let runs = c.args.runs.now in
    let past = c.args.nets.now in
    let place = c.loop-run.run-index in
    let so_far = c.loop-run.invariant in
    let pushed : c.push.new.self.items ≡ c.loop-run.starts.items ++ length c.loop-run.nets ∷ [] = c.in_ok-push.ensures.items
    ∙ ap (λ n. c.loop-run.starts.items ++ n ∷ []) c.len.ensures in
    let size = ap length pushed ∙ length_push c.loop-run.starts.items (length c.loop-run.nets) in
    let all = so_far.all in
    record {
      nets = nets_more past runs place c.run-item.result c.loop-run.nets c.append_marked.new.self (entries_of c.net.result.now)
          c.loop-run-test.true c.run-item.is c.net.ensures c.in_ok-append_marked.ensures.ok so_far.nets;
      all = omega arith;
      each = starts_more past runs place c.loop-run.starts.items c.push.new.self.items c.loop-run.nets pushed so_far.all so_far.nets
          so_far.each;
    }

pub returns-clause-nets : goal.returns-clause-nets
returns-clause-nets c =
    let runs = c.args.runs.now in
    let over = c.loop-run-test.false in
    let within = c.loop-run.auto.run-index-end in
    subst (λ rs. c.loop-run.nets ≡ c.args.nets.now ++ all_left rs) (take_all c.loop-run.run-index runs (omega arith))
    c.loop-run.invariant.nets

pub returns-clause-starts : goal.returns-clause-starts
returns-clause-starts c =
    let over = c.loop-run-test.false in
    let within = c.loop-run.auto.run-index-end in
    let all = c.loop-run.invariant.all in
    record { all = omega arith; each = λ i lt. c.loop-run.invariant.each i (omega arith) }
