use Rattle.std.proofs.Common.{◌≡◌, ap, sym, ◌∙◌, subst}
use Rattle.objects.specs.Entries.{after}
use Rattle.objects.specs.Lending.{written_over}
use Rattle.objects.specs.Parts.{CanPerformOn, ArePerformedOn}
use Rattle.objects.proofs.PartLemmas.{can-whole, performed-whole, written_over-all}
use Rattle.rounds.specs.Views.{blocks_of, views_of}
use Rattle.rounds.specs.PendingRuns.{own_nets, AreSpanned}
use Rattle.rounds.proofs.Commits.{then_ok, later_nets, later_spans}
use Rattle.rounds.proofs.committing.commit.Goals as goal

pub commit_by-requires-clause-spans : goal.commit_by-requires-clause-spans
commit_by-requires-clause-spans g c κs within =
    let all = c.args.job.now.batch.now.transactions.items in
    subst (λ bs. AreSpanned (views_of bs) 0 c.args.runs.now) (sym c.blocks_from-blocks.ensures)
    (later_spans all c.args.from c.args.runs.now c.requires.spans)

pub commit_by-requires-clause-can : goal.commit_by-requires-clause-can
commit_by-requires-clause-can g c κs within =
    let runs = c.args.runs.now in
    let all = c.args.job.now.batch.now.transactions.items in
    subst (λ bs. CanPerformOn 0 c.values_mut.result.now (own_nets (views_of bs) 0 runs)) (sym c.blocks_from-blocks.ensures)
    (subst (CanPerformOn 0 c.values_mut.result.now) (sym (later_nets all c.args.from runs))
    (subst (λ vs. CanPerformOn 0 vs (own_nets (views_of all) c.args.from runs)) (sym c.values_mut.ensures.values)
    (can-whole c.args.objects.now (own_nets (views_of all) c.args.from runs) c.requires.legal c.requires.room)))

pub returns : goal.returns
returns g c =
    let old = c.args.objects.now in
    let new = c.commit_by.new.values in
    let runs = c.args.runs.now in
    let batch = c.args.job.now.batch.now in
    let nets = own_nets (blocks_of batch) c.args.from runs in
    let same : own_nets (views_of c.blocks_from-blocks.result.now) 0 runs ≡ nets =
    ap (λ bs. own_nets (views_of bs) 0 runs) c.blocks_from-blocks.ensures
    ∙ later_nets batch.transactions.items c.args.from runs in
    then_ok c.commit_by.result
    (ArePerformedOn 0 c.values_mut.result.now new (own_nets (views_of c.blocks_from-blocks.result.now) 0 runs))
    (written_over old new ≡ after old nets)
    (λ done. let whole = subst (ArePerformedOn 0 old new) same
    (subst (λ vs. ArePerformedOn 0 vs new (own_nets (views_of c.blocks_from-blocks.result.now) 0 runs)) c.values_mut.ensures.values done) in
    written_over-all old new whole.same ∙ performed-whole old new nets whole) c.commit_by.ensures
