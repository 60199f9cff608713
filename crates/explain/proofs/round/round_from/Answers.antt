use Rattle.std.proofs.Common.{◌≡◌, ◌+◌, ◌-◌, ◌++◌, length, Some, refl, sym, ap, ◌∙◌, arith}
use Rattle.std.proofs.lemmas.Bool.{false≢true}
use Rattle.std.proofs.lemmas.List.{length-map}
use Rattle.objects.specs.Entries.{kinds}
use Rattle.batch.specs.Parts.{blocks_of}
use Rattle.batch.specs.Views.{block_view}
use Rattle.committed.specs.Summaries.{entries_of}
use Rattle.explain.proofs.Passing.{none_passed, run_here, with_all, left_is, one_more_passed, stopped_by, all_passed}
use Rattle.speculate.proofs.Room.{kinds_at}
use Rattle.explain.proofs.Room.{room_here}
use Rattle.explain.proofs.round.round_from.Goals as goal

pub loop-place-init : goal.loop-place-init
loop-place-init g c =
    let within = c.requires.within in
    none_passed c.args.batch.now c.args.opened c.new-passed.result.items c.hashed_by-nets.result (omega arith) c.new-passed.ensures.items
    c.hashed_by-nets.ensures

pub run-requires-clause-same_kinds : goal.run-requires-clause-same_kinds
run-requires-clause-same_kinds g c κs lives =
    let within = c.requires.within in
    ap kinds c.requires.reached ∙ kinds_at c.args.batch.now c.args.opened (omega arith)

pub run-requires-clause-room : goal.run-requires-clause-room
run-requires-clause-room g c κs lives =
    let within = c.requires.within in
    let size = c.loop-place.invariant.size in
    room_here c.args.batch.now c.args.opened (omega arith) c.loop-place.place (c.loop-place.place + 1 - 1) c.args.objects.now (omega arith)
    (omega arith) c.requires.reached

pub loop-place-preserved : goal.loop-place-preserved
loop-place-preserved g c =
    let blocks : length (blocks_of c.args.batch.now) ≡ length c.args.batch.now.transactions.items =
    length-map c.args.batch.now.transactions.items block_view in
    let made = c.in_ok-run.run' in
    let here = run_here c.args.batch.now c.args.opened c.loop-place.place (c.loop-place.place + 1 - 1) c.args.objects.now made
    (omega arith) c.requires.reached c.in_ok-run.ensures in
    let same : entries_of c.deref-in-loop-place.result.now ≡ made.entries.items =
    ap entries_of c.deref-in-loop-place.ensures.value ∙ c.in_ok-marked.ensures ∙ c.deref.ensures.value in
    let stands = (with_all _ _ c.loop-place.nets _ same c.len-listed.ensures).0 (c.in_ok-check.ensures.stands.0 c.if-not-branch.false) in
    one_more_passed c.args.batch.now c.args.opened c.loop-place.place c.loop-place.passed.items c.loop-place.nets c.loop-place.invariant
    made here c.append.new.self c.push.new.self.items (omega (arith, c.loop-place-test.true, c.len-place-end.ensures, blocks)) stands
    (c.in_ok-append.ensures.ok ∙ ap (λ ns. ns ++ c.deref-in-loop-place-2.result.now) c.check.ensures.same
    ∙ ap (λ ns. c.loop-place.nets ++ ns) c.deref-in-loop-place-2.ensures.value) c.in_ok-push.ensures.items

pub returns-then-not-branch : goal.returns-then-not-branch
returns-then-not-branch g c =
    let blocks : length (blocks_of c.args.batch.now) ≡ length c.args.batch.now.transactions.items =
    length-map c.args.batch.now.transactions.items block_view in
    let made = c.in_ok-run.run' in
    let here = run_here c.args.batch.now c.args.opened c.loop-place.place (c.loop-place.place + 1 - 1) c.args.objects.now made
    (omega arith) c.requires.reached c.in_ok-run.ensures in
    let same : entries_of c.deref-in-loop-place.result.now ≡ made.entries.items =
    ap entries_of c.deref-in-loop-place.ensures.value ∙ c.in_ok-marked.ensures ∙ c.deref.ensures.value in
    let at = c.loop-place.invariant in
    let listed = c.list.ensures ∙ c.check.ensures.same in
    let stop = stopped_by c.args.batch.now c.args.opened c.loop-place.place c.loop-place.passed.items c.loop-place.nets at made here
    (record { passed = c.loop-place.passed; nets = c.list.new.self; conflict = Some made }) refl listed
    (omega (arith, c.loop-place-test.true, c.len-place-end.ensures, blocks))
    (λ commute. false≢true (sym c.if-not-branch.true
    ∙ c.in_ok-check.ensures.stands.1 ((with_all _ _ c.loop-place.nets _ same c.len-listed.ensures).1 commute))) in
    record {
      opens = stop.0;
      passed_are = at.runs;
      nets_are = listed ∙ left_is c.args.batch.now c.args.opened c.loop-place.place c.loop-place.passed.items c.loop-place.nets at;
      stopped = stop.1;
    }

pub returns : goal.returns
returns g c =
    let blocks : length (blocks_of c.args.batch.now) ≡ length c.args.batch.now.transactions.items =
    length-map c.args.batch.now.transactions.items block_view in
    let at = c.loop-place.invariant in
    let all = all_passed c.args.batch.now c.args.opened c.loop-place.place c.loop-place.passed.items c.loop-place.nets at
    (omega (arith, c.loop-place-test.false, c.len-place-end.ensures, blocks)) in
    record {
      opens = all.0;
      passed_are = at.runs;
      nets_are = left_is c.args.batch.now c.args.opened c.loop-place.place c.loop-place.passed.items c.loop-place.nets at;
      stopped = all.1;
    }
