use Rattle.std.proofs.Common.{◌≡◌, get_or, refl, sym, ap, ◌∙◌, subst, ◌++◌, ◌∷◌, [], append_assoc}
use Rattle.intentions.specs.Levels.{Intentions as View}
use Rattle.rounds.specs.Views.{meaning}
use Rattle.rounds.specs.PendingRuns.{IsMade, IsPendingOf, Passes}
use Rattle.rounds.specs.declared.make.NumberedRun.{NumberedRun}
use Rattle.rounds.proofs.Making.{none_made, made_more}
use Rattle.rounds.proofs.make.make_group.Goals as goal

pub loop-number-init : goal.loop-number-init
loop-number-init g c = none_made c.args.job.now.batch.now c.args.workspace.now.view.snapshot c.args.nets.now c.args.group.now
    c.args.workspace.now c.args.all.now.items c.requires.ready

pub loop-number-preserved : goal.loop-number-preserved
loop-number-preserved g c =
    let so_far = c.loop-number.invariant in
    let batch = c.args.job.now.batch.now in
    let state = c.args.workspace.now.view.snapshot in
    let number = get_or c.args.group.now c.loop-number.number-index 0 in
    let shown : c.loop-number.workspace.view.snapshot ≡ state = ap (λ (v : View). v.snapshot) so_far.ready.opened in
    let listed = c.args.nets.now in
    let passes = c.passes_list-passes.result in
    let made : NumberedRun = record { number = number; run = c.in_ok-run.run'; passes = passes } in
    let is_pending : IsPendingOf (meaning batch number state) made.run.value = subst (IsPendingOf (meaning batch number state))
    (sym c.in_ok-run.ensures.ok)
    (subst (λ s. IsPendingOf (meaning batch number s) c.make.new.pending) shown c.in_ok-make.ensures.made) in
    let is_made : IsMade batch state listed made =
    (is_pending, λ so. subst (Passes listed) (sym c.in_ok-run.ensures.ok) (c.passes_list-passes.ensures so)) in
    record {
      ready = record { opened = c.in_ok-make.ensures.again ∙ so_far.ready.opened; unlabelled = c.in_ok-make.ensures.unlabelled };
      own = so_far.own ++ made ∷ [];
      is = c.in_ok-push.ensures.items ∙ (ap (λ ms. ms ++ made ∷ []) so_far.is
          ∙ append_assoc c.args.all.now.items so_far.own (made ∷ []));
      all_made = made_more batch state listed c.args.group.now c.loop-number.number-index made
          so_far.own (so_far.own ++ made ∷ []) c.loop-number-test.true refl refl so_far.all_made is_made;
    }
