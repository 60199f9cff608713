use Rattle.std.proofs.Common.{◌+◌, ◌<◌, ◌^◌, ◌++◌, length, sym, ap, subst, arith, rules}
use Rattle.std.proofs.lemmas.List.{length-append}
use Rattle.std.specs.Prelude.{OnOk}
use Rattle.objects.specs.Parts.{CanPerformOn, ArePerformedOn}
use Rattle.objects.proofs.PartLemmas.{can-low, can-high, performed-beside}
use Rattle.rounds.specs.Views.{views_of}
use Rattle.rounds.specs.PendingRuns.{own_nets}
use Rattle.rounds.proofs.Commits.{then_ok}
use Rattle.rounds.proofs.committing.+parts.Goals as goal

pub join_mut-low_done-requires-after_bounds : goal.join_mut-low_done-requires-after_bounds
join_mut-low_done-requires-after_bounds g t c κs within =
    let first = c.args.first in
    let low = c.split_at_mut-low.result.0.now in
    let high = c.split_at_mut-low.result.1.now in
    let nets = own_nets (views_of c.args.blocks.now) 0 c.args.runs.now in
    let few : first + length low + length high < 2 ^ 64 =
    omega (arith, ap length c.split_at_mut-low.ensures.value, length-append low high, c.requires.few) in
    let can = subst (λ vs. CanPerformOn first vs nets) c.split_at_mut-low.ensures.value c.requires.can in
    let on_low = can-low first low high nets can in
    let on_high = can-high first low high nets can in
    search rules

pub returns : goal.returns
returns g t c =
    let first = c.args.first in
    let low = c.split_at_mut-low.result.0.now in
    let high = c.split_at_mut-low.result.1.now in
    let new_low = c.low-1.given.0 in
    let new_high = c.high-1.given.0 in
    let nets = own_nets (views_of c.args.blocks.now) 0 c.args.runs.now in
    let on_low : ArePerformedOn first low new_low nets = search rules in
    let on_high : OnOk c.join_mut-low_done.result.1 (ArePerformedOn (first + length low) high new_high nets) = search rules in
    then_ok c.join_mut-low_done.result.1 (ArePerformedOn (first + length low) high new_high nets)
    (ArePerformedOn first c.args.values.now (new_low ++ new_high) nets)
    (λ done. subst (λ vs. ArePerformedOn first vs (new_low ++ new_high) nets) (sym c.split_at_mut-low.ensures.value)
    (performed-beside first low new_low high new_high nets on_low done)) on_high
