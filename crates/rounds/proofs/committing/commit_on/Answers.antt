use Rattle.std.proofs.Common.{◌≡◌, ◌+◌, ◌<◌, length, drop, sym, ap, ◌∙◌, subst, arith}
use Rattle.objects.specs.Parts.{CanPerformOn, ArePerformedOn}
use Rattle.objects.proofs.PartLemmas.{can-first}
use Rattle.meaning.specs.Batch.{block_at}
use Rattle.batch.specs.Views.{block_view}
use Rattle.batch.proofs.CanRun.{block_at_view}
use Rattle.committed.specs.Spans.{AreIn}
use Rattle.rounds.specs.Views.{views_of}
use Rattle.rounds.specs.PendingRuns.{own_net, own_nets}
use Rattle.rounds.proofs.Commits.{fewer_left, next_nets_left, passed_over}
use Rattle.rounds.proofs.committing.commit_on.Goals as goal
use Rattle.rounds.proofs.committing.commit_on.Goals.{then-meets+in_ok-commit_one, else-meets}

pub commit_one-requires : goal.commit_one-requires
commit_one-requires c =
    let i = c.loop-place.place in
    let first : i ≡ 0 + i = omega arith in
    let blocks = views_of c.args.blocks.now in
    let run = c.index-runs-place.result in
    let inside : i < length c.args.blocks.now = omega (arith, c.requires.within, c.loop-place-test.true) in
    let same : block_view c.index-blocks-place.result ≡ block_at blocks (0 + i) =
    block_at_view c.args.blocks.now i c.index-blocks-place.result inside c.index-blocks-place.is ∙ ap (block_at blocks) first in
    subst (λ b. CanPerformOn c.args.first c.loop-place.values (own_net b run)) (sym same)
    (can-first c.args.first c.loop-place.values (own_net (block_at blocks (0 + i)) run)
    (own_nets blocks (0 + (i + 1)) (drop (i + 1) c.args.runs.now))
    (subst (CanPerformOn c.args.first c.loop-place.values)
    (next_nets_left blocks 0 c.args.runs.now i run c.loop-place-test.true c.index-runs-place.is) c.loop-place.invariant.can))

pub loop-place-preserved : goal.loop-place-preserved
loop-place-preserved c =
    let i = c.loop-place.place in
    let first : i ≡ 0 + i = omega arith in
    let blocks = views_of c.args.blocks.now in
    let run = c.index-runs-place.result in
    let inside : i < length c.args.blocks.now = omega (arith, c.requires.within, c.loop-place-test.true) in
    let here = own_net (block_at blocks (0 + i)) run in
    let done : ArePerformedOn c.args.first c.loop-place.values c.if-meets.values here = elim c.if-meets.branch [
      | then-meets+in_ok-commit_one w ↦
          subst (λ vs. ArePerformedOn c.args.first c.loop-place.values vs here) (sym w.values-is)
          (subst (λ b. ArePerformedOn c.args.first c.loop-place.values w.commit_one.new.values (own_net b run))
          (block_at_view c.args.blocks.now i w.index-blocks-place.result inside w.index-blocks-place.is ∙ ap (block_at blocks) first)
          w.in_ok-commit_one.ensures)
      | else-meets w ↦
          subst (λ vs. ArePerformedOn c.args.first c.loop-place.values vs here) (sym w.values-is)
          (passed_over c.args.first c.loop-place.values run.span here
          (subst (λ r. AreIn r.span (own_net (block_at blocks (0 + i)) r)) (sym c.index-runs-place.is)
          (c.requires.spans i run c.loop-place-test.true))
          (c.meets.ensures (λ yes. let no = w.if-meets.false in cc)))
    ] in
    fewer_left c.args.first c.args.values.now c.loop-place.values c.if-meets.values (own_nets blocks 0 c.args.runs.now)
    (own_nets blocks (0 + i) (drop i c.args.runs.now)) here
    (own_nets blocks (0 + (i + 1)) (drop (i + 1) c.args.runs.now))
    (next_nets_left blocks 0 c.args.runs.now i run c.loop-place-test.true c.index-runs-place.is) c.loop-place.invariant done
