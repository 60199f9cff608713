use Rattle.std.proofs.Common.{◌≡◌, ◌+◌, ◌≤◌, length, slice_set, inr, sym, subst, arith}
use Rattle.std.proofs.lemmas.Option.{slice_get-get_or}
use Rattle.objects.specs.Parts.{IsPerformedOn}
use Rattle.objects.proofs.PartLemmas.{performed-among, performed-outside}
use Rattle.objects.proofs.part.perform_on.Goals as goal

pub returns-in_ok-_reply-clause-ok : goal.returns-in_ok-_reply-clause-ok
returns-in_ok-_reply-clause-ok c =
    let values = c.args.values.now in
    let at : c.args.object ≡ c.args.first + c.in-Some.place = omega (arith, c.in-Some.ensures) in
    let is = slice_get-get_or values c.in-Some.place c.index-values-place.result c.if-place-values.true in
    subst (λ value. IsPerformedOn c.args.first values (slice_set values c.in-Some.place value) c.args.object c.args.call.now)
    (sym c.in_ok-_reply.ensures.ok) (performed-among c.args.first values c.in-Some.place _ c.args.object c.args.call.now at is)

pub returns-else-place-values-clause-ok : goal.returns-else-place-values-clause-ok
returns-else-place-values-clause-ok c =
    let values = c.args.values.now in
    let past : c.args.first + length values ≤ c.args.object = omega (arith, c.in-Some.ensures, c.if-place-values.false) in
    performed-outside c.args.first values c.args.object c.args.call.now (inr past)
