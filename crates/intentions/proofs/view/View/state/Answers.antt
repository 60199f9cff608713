use Rattle.std.proofs.Common.{◌≡◌, sym, ap, ◌∙◌}
use Rattle.std.proofs.lemmas.Result.{IfOk-weaker}
use Rattle.intentions.specs.Layers.{States}
use Rattle.objects.specs.Entries.{after}
use Rattle.intentions.proofs.ViewLemmas.{nets_of, same_shown, length-layers}
use Rattle.intentions.proofs.view.View.state.Goals as goal

pub state-requires : goal.state-requires
state-requires c =
    c.in-Ok.ensures.1 ∙ c.len.ensures ∙ sym (length-layers c.self.inside c.self.invariant)

pub returns-in-Ok : goal.returns-in-Ok
returns-in-Ok c =
    let same = same_shown c.self.inside c.args.self.now c.self.view_is c.self.invariant in
    IfOk-weaker c.state.result _ _ (λ state e. e ∙ sym same) c.state.ensures

pub returns-in_ok-perform_each-in-Err : goal.returns-in_ok-perform_each-in-Err
returns-in_ok-perform_each-in-Err c =
    let same = same_shown c.self.inside c.args.self.now c.self.view_is c.self.invariant in
    let nets : c.of.result.now ≡ nets_of c.self.inside = c.of.ensures ∙ cc in
    c.in_ok-perform_each-in-Err.ensures ∙ ap (λ ws. after ws c.of.result.now) c.in_ok-state-in-Err.ensures
    ∙ ap (after c.self.inside.snapshot.now) nets ∙ sym (ap (λ (s : States). s.shown) c.self.invariant.0.shows) ∙ sym same
