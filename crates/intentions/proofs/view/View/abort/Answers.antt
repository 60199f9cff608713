use Rattle.std.proofs.Common.{◌≡◌, ◌∷◌, ◌∙◌, ap, take, reverse, subst}
use Rattle.intentions.specs.Layers.{AreLayersOf}
use Rattle.drafts.proofs.HistoryLemmas.{reverse_push}
use Rattle.intentions.proofs.ViewLemmas.{nets_of, kept_aborting}
use Rattle.intentions.proofs.view.View.abort.Goals as goal

pub invariant_of-self : goal.invariant_of-self
invariant_of-self c =
    let starts = reverse c.pop.new.self.items in
    let snapshot = c.self.inside.snapshot.now in
    let net = nets_of c.self.inside in
    let is : reverse c.self.inside.marks.items ≡ c.in-Some.mark ∷ starts = reverse_push _ _ _ c.in-Some.ensures.items in
    let kept = kept_aborting snapshot net c.truncate.new.self.items c.in-Some.mark starts c.self.inside.layers c.abort.new.self
    (subst (λ ss. AreLayersOf snapshot net ss c.self.inside.layers) is c.self.invariant.0) c.abort.ensures
    (c.truncate.ensures.items ∙ ap (take c.in-Some.mark) (c.make_own.ensures.net ∙ cc)) in
    rw (c.make_own.ensures.listed) (kept, tt)
