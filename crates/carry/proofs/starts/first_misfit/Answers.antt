use Rattle.std.proofs.Common.{◌≡◌, sym, ap, ◌∙◌, None, map}
use Rattle.std.specs.Prelude.{option_map}
use Rattle.std.proofs.lemmas.Option.{slice_get-map}
use Rattle.objects.specs.Objects.{content_length}
use Rattle.batch.specs.Limits.{entries_in}
use Rattle.carry.specs.Carried.{unfit_after}
use Rattle.carry.specs.Joined.{start_view, value_of}
use Rattle.carry.proofs.Walking.{at_place, fits_here, unfit_here}
use Rattle.carry.proofs.starts.first_misfit.Goals as goal

pub returns-in-Some-unfit_after : goal.returns-in-Some-unfit_after
returns-in-Some-unfit_after c =
    let starts = c.args.starts.now in
    let place = c.loop-place.place in
    let there = at_place starts place c.in-Some.start.now (sym c.in-Some.ensures.lookup.0) (sym c.in-Some.ensures.lookup.1) in
    let here = slice_get-map value_of (map start_view starts) place
    ∙ ap (option_map value_of) (slice_get-map start_view starts place ∙ ap (option_map start_view) there) in
    sym (unfit_here (map value_of (map start_view starts)) place c.in-Some.start.now.value.now here c.args.version
    c.loop-place.entries c.in-Some-unfit_after.unfit (sym c.unfit_after.ensures.unfit ∙ c.in-Some-unfit_after.is))
    ∙ c.loop-place.invariant.1

pub loop-place-preserved : goal.loop-place-preserved
loop-place-preserved c =
    let starts = c.args.starts.now in
    let place = c.loop-place.place in
    let there = at_place starts place c.in-Some.start.now (sym c.in-Some.ensures.lookup.0) (sym c.in-Some.ensures.lookup.1) in
    let here = slice_get-map value_of (map start_view starts) place
    ∙ ap (option_map value_of) (slice_get-map start_view starts place ∙ ap (option_map start_view) there) in
    let none : unfit_after c.args.version c.loop-place.entries c.in-Some.start.now.value.now ≡ None =
    sym c.unfit_after.ensures.unfit ∙ c.in_default-unfit_after.is in
    let few = c.unfit_after.ensures.few c.in_default-unfit_after.is in
    let same : c.len-entries.result ≡ entries_in c.in-Some.start.now.value.now =
    c.len-entries.ensures ∙ ap content_length c.content.ensures in
    rw same (
      few,
      sym (fits_here (map value_of (map start_view starts)) place c.in-Some.start.now.value.now here c.args.version
          c.loop-place.entries none)
          ∙ c.loop-place.invariant.1,
    )
