use Rattle.std.proofs.Common.{◌≡◌, ◌∙◌, ap, sym}
use Rattle.std.specs.Option.{option_copied}
use Rattle.std.specs.Prelude.{option_map, unwrap_or}
use Rattle.batch.specs.Names.{names_of}
use Rattle.carry.specs.Joined.{ended, named_view, own, start_of, start_view}
use Rattle.carry.proofs.Adding.{pushed}
use Rattle.carry.proofs.Walking.{next_value}
use Rattle.carry.proofs.starts.add_own.Goals as goal
use Rattle.carry.proofs.starts.add_own.Goals.{in-Some-ended, in-None}

pub loop-place-preserved : goal.loop-place-preserved
loop-place-preserved c =
    let first = named_view c.args.first in
    let next = named_view c.args.next in
    let place = c.loop-place.place in
    let there = sym c.value.ensures ∙ ap option_copied c.in-Some.is in
    let own_start = start_of next place c.in-Some.value.now in
    let found = c.ended.ensures ∙ ap (ended first) c.object_name.ensures in
    let same : start_view c.match-ended.start ≡ unwrap_or (ended first ((names_of next.texts).object place)) own_start =
    elim c.match-ended.branch [
      | in-Some-ended w ↦ ap start_view w.start-is
          ∙ ap (λ o. unwrap_or o own_start) (ap (option_map start_view) (sym w.in-Some-ended.is) ∙ found)
      | in-None w ↦ ap start_view w.start-is
          ∙ ap (λ o. unwrap_or o own_start) (ap (option_map start_view) (sym w.in-None.is) ∙ found)
    ] in
    pushed start_view c.loop-place.starts.items _ c.match-ended.start _ _ _ _
    (ap (own first next place) (next_value next.values place c.in-Some.value.now there)) c.in_ok-push.ensures.items same
    c.loop-place.invariant
