use Rattle.std.proofs.Common.{◌≡◌, sym, ap, ◌∙◌, None}
use Rattle.std.specs.Option.{option_copied}
use Rattle.objects.specs.Objects.{content_length}
use Rattle.batch.specs.Limits.{entries_in}
use Rattle.carry.specs.Carried.{unfit_after}
use Rattle.carry.proofs.Walking.{fits_here, unfit_here}
use Rattle.carry.proofs.document.first_unfit.Goals as goal

pub returns-in-Some-unfit_after : goal.returns-in-Some-unfit_after
returns-in-Some-unfit_after c =
    let there = sym c.value.ensures ∙ ap option_copied c.in-Some.is in
    sym (unfit_here c.args.objects.now c.loop-place.place c.in-Some.value.now there c.args.version c.loop-place.entries
    c.in-Some-unfit_after.unfit (sym c.unfit_after.ensures.unfit ∙ c.in-Some-unfit_after.is)) ∙ c.loop-place.invariant.1

pub loop-place-preserved : goal.loop-place-preserved
loop-place-preserved c =
    let there = sym c.value.ensures ∙ ap option_copied c.in-Some.is in
    let none : unfit_after c.args.version c.loop-place.entries c.in-Some.value.now ≡ None =
    sym c.unfit_after.ensures.unfit ∙ c.in_default-unfit_after.is in
    let few = c.unfit_after.ensures.few c.in_default-unfit_after.is in
    let same : c.len-entries.result ≡ entries_in c.in-Some.value.now = c.len-entries.ensures ∙ ap content_length c.content.ensures in
    rw same (
      few,
      sym (fits_here c.args.objects.now c.loop-place.place c.in-Some.value.now there c.args.version c.loop-place.entries none)
          ∙ c.loop-place.invariant.1,
    )
