use Rattle.std.proofs.Common.{◌≡◌, Some, None, sym, ap, ◌∙◌, subst}
use Rattle.std.specs.Prelude.{slice_get, IsSomeAnd, IfSome}
use Rattle.objects.specs.Objects.{kind_of_value, kind_of_call, HasRoom}
use Rattle.objects.specs.declared.kind.Value.{Value}
use Rattle.drafts.specs.Shown.{shown_value}
use Rattle.intentions.specs.Levels.{shown_values}
use Rattle.intentions.proofs.ViewLemmas.{same_shown}
use Rattle.intentions.proofs.view.View.has_room.Goals as goal

pub has_room-requires : goal.has_room-requires
has_room-requires c =
    let same = same_shown c.self.inside c.args.self.now c.self.view_is c.self.invariant in
    let there : slice_get (shown_values c.args.self.now) c.args.object ≡ Some (shown_value c.in-Some.value) =
    ap (λ ws. slice_get ws c.args.object) same ∙ sym c.in-Some.ensures in
    subst (λ o. IsSomeAnd o (λ (v : Value). kind_of_value v ≡ kind_of_call c.args.call.now)) there c.requires

pub unreachable-requires : goal.unreachable-requires
unreachable-requires c =
    let same = same_shown c.self.inside c.args.self.now c.self.view_is c.self.invariant in
    let there : slice_get (shown_values c.args.self.now) c.args.object ≡ None = ap (λ ws. slice_get ws c.args.object) same
    ∙ sym c.in-None.ensures in
    subst (λ o. IsSomeAnd o (λ (v : Value). kind_of_value v ≡ kind_of_call c.args.call.now)) there c.requires

pub returns-clause-room : goal.returns-clause-room
returns-clause-room c =
    let room = λ (v : Value). HasRoom v c.args.call.now in
    let same = same_shown c.self.inside c.args.self.now c.self.view_is c.self.invariant in
    let there : slice_get (shown_values c.args.self.now) c.args.object ≡ Some (shown_value c.in-Some.value) =
    ap (λ ws. slice_get ws c.args.object) same ∙ sym c.in-Some.ensures in
    (λ h. subst (λ o. IfSome o room) (sym there) (c.has_room.ensures.0 h), λ h. c.has_room.ensures.1 (subst (λ o. IfSome o room) there h))
