use Rattle.std.proofs.Common.{◌≡◌, ◌+◌, ◌<◌, ◌++◌, length, refl, sym, ap, ◌∙◌, subst, arith, append_assoc}
use Rattle.std.specs.Prelude.{codes, string_bytes}
use Rattle.std.specs.Fmt.{decimal}
use Rattle.std.proofs.lemmas.List.{length-map}
use Rattle.objects.specs.Entries.{CommuteForward, CommutesWith}
use Rattle.meaning.specs.Batch.{run_nets}
use Rattle.batch.specs.Names.{names_of}
use Rattle.batch.specs.Parts.{start_of, blocks_of}
use Rattle.batch.specs.Views.{block_view}
use Rattle.explain.specs.Why.{IsFirstWithout, placed_run, placed_nets, place_text}
use Rattle.explain.specs.Places.{place_view, places_view}
use Rattle.explain.proofs.Ending.{stopped_places, has_late, conflicts_with_runs, conflict_is, line_written}
use Rattle.explain.proofs.lines.write_round.Goals as goal

pub unreachable-requires : goal.unreachable-requires
unreachable-requires c =
    let batch = c.args.at.batch.now in
    let round = c.args.round.now in
    let blocks : length (blocks_of batch) ≡ length batch.transactions.items = length-map batch.transactions.items block_view in
    let same : c.args.at.opened + c.len.result ≡ c.args.at.opened + length round.passed.items =
    omega (arith, c.len.ensures, round.passed.ok.0) in
    let within : c.args.at.opened + c.len.result < length batch.transactions.items = omega (arith, c.requires.stopped.within, blocks) in
    let here : places_view c.deref.result.now ≡ placed_run (names_of batch.names) (start_of batch) (blocks_of batch)
    (c.args.at.opened + length round.passed.items) c.args.at.opened =
    ap places_view c.deref.ensures.value ∙ c.in_ok-places.ensures
    ∙ stopped_places batch c.args.at.opened (c.args.at.opened + c.len.result) round c.args.stopped.now c.index-block.result.now
    c.requires.stopped same within c.index-block.ensures in
    has_late batch c.args.at.opened round c.args.stopped.now c.requires.round c.requires.stopped (places_view c.deref.result.now) here
    (c.in_default.ensures.none refl)

pub write_earliest-requires-clause-conflicts : goal.write_earliest-requires-clause-conflicts
write_earliest-requires-clause-conflicts c =
    let batch = c.args.at.batch.now in
    let round = c.args.round.now in
    let blocks : length (blocks_of batch) ≡ length batch.transactions.items = length-map batch.transactions.items block_view in
    let same : c.args.at.opened + c.len.result ≡ c.args.at.opened + length round.passed.items =
    omega (arith, c.len.ensures, round.passed.ok.0) in
    let within : c.args.at.opened + c.len.result < length batch.transactions.items = omega (arith, c.requires.stopped.within, blocks) in
    let here : places_view c.deref.result.now ≡ placed_run (names_of batch.names) (start_of batch) (blocks_of batch)
    (c.args.at.opened + length round.passed.items) c.args.at.opened =
    ap places_view c.deref.ensures.value ∙ c.in_ok-places.ensures
    ∙ stopped_places batch c.args.at.opened (c.args.at.opened + c.len.result) round c.args.stopped.now c.index-block.result.now
    c.requires.stopped same within c.index-block.ensures in
    let runs : length round.passed.items ≡ length c.deref-2.result.now = ap length (sym c.deref-2.ensures.value) in
    subst (λ n. ¬ CommutesWith c.in-Some.late.now.entry
    (run_nets (start_of batch) (blocks_of batch) c.args.at.opened c.args.at.opened n)) runs
    (conflicts_with_runs batch c.args.at.opened round c.args.stopped.now c.requires.round c.requires.stopped
    (places_view c.deref.result.now) here c.in-Some.late.now.entry c.in-Some.ensures.found.without)

pub returns : goal.returns
returns c =
    let batch = c.args.at.batch.now in
    let round = c.args.round.now in
    let blocks : length (blocks_of batch) ≡ length batch.transactions.items = length-map batch.transactions.items block_view in
    let same : c.args.at.opened + c.len.result ≡ c.args.at.opened + length round.passed.items =
    omega (arith, c.len.ensures, round.passed.ok.0) in
    let within : c.args.at.opened + c.len.result < length batch.transactions.items = omega (arith, c.requires.stopped.within, blocks) in
    let here : places_view c.deref.result.now ≡ placed_run (names_of batch.names) (start_of batch) (blocks_of batch)
    (c.args.at.opened + length round.passed.items) c.args.at.opened =
    ap places_view c.deref.ensures.value ∙ c.in_ok-places.ensures
    ∙ stopped_places batch c.args.at.opened (c.args.at.opened + c.len.result) round c.args.stopped.now c.index-block.result.now
    c.requires.stopped same within c.index-block.ensures in
    let runs : length c.deref-2.result.now ≡ length round.passed.items = ap length c.deref-2.ensures.value in
    let late = place_view c.in-Some.late.now in
    let names = names_of batch.names in
    let earliest = c.in_ok-write_earliest.ensures in
    let early_is = subst (λ n. IsFirstWithout (λ p. CommuteForward late.entry p.entry)
    (placed_nets names (start_of batch) (blocks_of batch) c.args.at.opened c.args.at.opened n) earliest.early) runs earliest.is in
    let head = codes "why " ++ decimal c.args.number ++ codes " " in
    record {
      late = late;
      early = earliest.early;
      is = conflict_is batch c.args.at.opened round c.args.stopped.now c.requires.round c.requires.stopped (places_view c.deref.result.now)
          here late earliest.early c.in-Some.ensures.found early_is;
      text = line_written (string_bytes c.args.out.now) _ _ _ _ _ head (place_text names late) (codes " after ")
          (place_text names earliest.early) (codes "\n")
          (c.in_ok-write.ensures.bytes ∙ ap (λ text. string_bytes c.args.out.now ++ text)
          (sym (append_assoc (codes "why ") (decimal c.args.number) (codes " "))))
          c.in_ok-write_place.ensures c.in_ok-write-2.ensures.bytes earliest.text c.in_ok-write-3.ensures.bytes;
    }
