use Rattle.std.proofs.Common.{◌≡◌, get_or, ap, sym, subst, ◌∙◌}
use Rattle.intentions.specs.Levels.{Intentions as View}
use Rattle.rounds.specs.Workspaces.{IsReadyOn}
use Rattle.rounds.specs.declared.workspace.Workspace.{Workspace}
use Rattle.rounds.specs.Passes.{CanBeMade}
use Rattle.rounds.specs.PendingRuns.{AreAdded}
use Rattle.rounds.proofs.make.make_piece.Goals as goal

pub make_group-requires-clause-within : goal.make_group-requires-clause-within
make_group-requires-clause-within g c κs within k d lt =
    let shown : c.as_mut.result.now.view.snapshot ≡ c.args.objects.now =
    ap (λ (d : Workspace). d.view.snapshot) c.as_mut.ensures.value ∙ ap (λ (v : View). v.snapshot) c.in_ok-workspace.ensures.opened in
    subst (λ s. CanBeMade c.args.job.now.batch.now s (get_or c.args.group.now k d)) (sym shown) (c.requires.within k d lt)

pub returns : goal.returns
returns g c =
    let shown : c.as_mut.result.now.view.snapshot ≡ c.args.objects.now =
    ap (λ (d : Workspace). d.view.snapshot) c.as_mut.ensures.value ∙ ap (λ (v : View). v.snapshot) c.in_ok-workspace.ensures.opened in
    let batch = c.args.job.now.batch.now in
    let listed = c.args.nets.now in
    let before = c.args.state.items.items in
    let after = c.make_group.new.all.items in (
      subst (λ s. IsReadyOn s c.make_group.new.workspace) shown c.in_ok-make_group.ensures.ready,
      subst (λ s. AreAdded batch s listed c.args.group.now before after) shown c.in_ok-make_group.ensures.added,
    )
