use Rattle.std.proofs.Common.{◌≡◌, ◌<◌, length, refl, ap, ◌∙◌, subst, arith}
use Rattle.std.specs.List.{All, filter}
use Rattle.std.proofs.lemmas.List.{length-map}
use Rattle.objects.specs.Entries.{CommuteForward}
use Rattle.batch.specs.Names.{names_of}
use Rattle.batch.specs.Parts.{start_of, blocks_of}
use Rattle.batch.specs.Views.{block_view}
use Rattle.explain.specs.Why.{IsFirstWithout, placed_run}
use Rattle.explain.specs.Places.{place_view, places_view}
use Rattle.explain.proofs.Earliest.{run_places}
use Rattle.explain.proofs.lines.write_early.Goals as goal

pub returns-in_default : goal.returns-in_default
returns-in_default c =
    let batch = c.args.at.batch.now in
    let blocks : length (blocks_of batch) ≡ length batch.transactions.items = length-map batch.transactions.items block_view in
    let within : c.args.place < length batch.transactions.items = omega (arith, c.requires.within, blocks) in
    let here : places_view c.deref.result.now
    ≡ placed_run (names_of batch.names) (start_of batch) (blocks_of batch) c.args.place c.args.at.opened =
    ap places_view c.deref.ensures.value ∙ c.in_ok-places.ensures
    ∙ run_places (names_of batch.names) batch c.args.at.opened c.args.place c.args.run.now c.index-block.result.now c.requires.run within
    c.index-block.ensures in
    record {
      none = subst (λ ps. All (λ p. CommuteForward c.args.late.now p.entry) (filter (λ p. p.left) ps)) here
          (c.in_default.ensures.none refl);
      text = refl;
    }

pub returns : goal.returns
returns c =
    let batch = c.args.at.batch.now in
    let blocks : length (blocks_of batch) ≡ length batch.transactions.items = length-map batch.transactions.items block_view in
    let within : c.args.place < length batch.transactions.items = omega (arith, c.requires.within, blocks) in
    let here : places_view c.deref.result.now
    ≡ placed_run (names_of batch.names) (start_of batch) (blocks_of batch) c.args.place c.args.at.opened =
    ap places_view c.deref.ensures.value ∙ c.in_ok-places.ensures
    ∙ run_places (names_of batch.names) batch c.args.at.opened c.args.place c.args.run.now c.index-block.result.now c.requires.run within
    c.index-block.ensures in
    record {
      early = place_view c.in-Some.early.now;
      is = subst (λ ps. IsFirstWithout (λ p. CommuteForward c.args.late.now p.entry) (filter (λ p. p.left) ps)
          (place_view c.in-Some.early.now)) here c.in-Some.ensures.found;
      text = c.in_ok-write_place.ensures;
    }
