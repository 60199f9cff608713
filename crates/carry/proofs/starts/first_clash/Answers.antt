use Rattle.std.proofs.Common.{◌≤◌, ◌∙◌, ap, arith, length, map, sym}
use Rattle.std.specs.Option.{option_copied}
use Rattle.std.specs.Prelude.{option_map}
use Rattle.std.proofs.lemmas.List.{length-map}
use Rattle.std.proofs.lemmas.Option.{slice_get-map}
use Rattle.carry.specs.Joined.{start_view}
use Rattle.carry.proofs.Adding.{clash_here, kinds_alike, none_clashes}
use Rattle.carry.proofs.Walking.{at_place}
use Rattle.carry.proofs.starts.first_clash.Goals as goal

pub returns-in_default-get : goal.returns-in_default-get
returns-in_default-get c =
    let there = sym c.value.ensures ∙ ap option_copied c.in-Some.is in
    let past : length (map start_view c.args.starts.now) ≤ c.loop-place.place = omega (
      arith,
      length-map c.args.starts.now start_view,
      c.in_default-get.ensures.lookup.3,
    ) in
    sym (none_clashes c.args.objects.now (map start_view c.args.starts.now) c.loop-place.place c.in-Some.value.now there past)
    ∙ c.loop-place.invariant

pub returns-then-not-are_of_one_kind : goal.returns-then-not-are_of_one_kind
returns-then-not-are_of_one_kind c =
    let there = sym c.value.ensures ∙ ap option_copied c.in-Some.is in
    let starts = c.args.starts.now in
    let place = c.loop-place.place in
    let start = c.in-Some-get.start.now in
    let lookup = c.in-Some-get.ensures.lookup in
    let also = slice_get-map start_view starts place
    ∙ ap (option_map start_view) (at_place starts place start (sym lookup.0) (sym lookup.1)) in
    sym (clash_here c.args.objects.now (map start_view starts) place c.in-Some.value.now there (start_view start) also
    (sym c.are_of_one_kind.ensures ∙ c.if-not-are_of_one_kind.true)) ∙ c.loop-place.invariant

pub loop-place-preserved : goal.loop-place-preserved
loop-place-preserved c =
    let there = sym c.value.ensures ∙ ap option_copied c.in-Some.is in
    let starts = c.args.starts.now in
    let place = c.loop-place.place in
    let start = c.in-Some-get.start.now in
    let lookup = c.in-Some-get.ensures.lookup in
    let also = slice_get-map start_view starts place
    ∙ ap (option_map start_view) (at_place starts place start (sym lookup.0) (sym lookup.1)) in
    sym (kinds_alike c.args.objects.now (map start_view starts) place c.in-Some.value.now there (start_view start) also
    (sym c.are_of_one_kind.ensures ∙ c.if-not-are_of_one_kind.false)) ∙ c.loop-place.invariant
