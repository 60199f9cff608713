use Rattle.std.proofs.Common.{◌≡◌, Some, None, sym, ap, ◌∙◌, subst}
use Rattle.std.proofs.lemmas.Bool.{false≢true}
use Rattle.std.specs.Prelude.{slice_get, IsSomeAnd}
use Rattle.objects.specs.Objects.{kind_of_value, kind_of_call}
use Rattle.objects.specs.declared.kind.Value.{Value}
use Rattle.drafts.specs.Shown.{shown_value}
use Rattle.intentions.specs.Levels.{shown_values}
use Rattle.intentions.proofs.ViewLemmas.{same_shown}
use Rattle.intentions.proofs.view.View.fits.Goals as goal

pub returns-in-Some : goal.returns-in-Some
returns-in-Some c =
    let fits = λ (v : Value). kind_of_value v ≡ kind_of_call c.args.call.now in
    let same = same_shown c.self.inside c.args.self.now c.self.view_is c.self.invariant in
    let there : slice_get (shown_values c.args.self.now) c.args.object ≡ Some (shown_value c.in-Some.value) =
    ap (λ ws. slice_get ws c.args.object) same ∙ sym c.in-Some.ensures in
    (λ h. subst (λ o. IsSomeAnd o fits) (sym there) (c.fits.ensures.0 h), λ h. c.fits.ensures.1 (subst (λ o. IsSomeAnd o fits) there h))

pub returns-in-None : goal.returns-in-None
returns-in-None c =
    let fits = λ (v : Value). kind_of_value v ≡ kind_of_call c.args.call.now in
    let same = same_shown c.self.inside c.args.self.now c.self.view_is c.self.invariant in
    let there : slice_get (shown_values c.args.self.now) c.args.object ≡ None = ap (λ ws. slice_get ws c.args.object) same
    ∙ sym c.in-None.ensures in
    (λ h. absurd (false≢true h), λ h. absurd (subst (λ o. IsSomeAnd o fits) there h))
