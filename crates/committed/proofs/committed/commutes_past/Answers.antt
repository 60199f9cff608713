use Rattle.std.proofs.Common.{◌≡◌, ◌<◌, arith, get_or, length, refl, sym, ◌∙◌, subst, inl, inr}
use Rattle.std.proofs.lemmas.Bool.{cases_lt, false≢true}
use Rattle.std.proofs.lemmas.List.{get_or_default}
use Rattle.objects.specs.Entries.{CommuteForward}
use Rattle.committed.proofs.committed.commutes_past.Goals as goal

pub returns-then-not-commute : goal.returns-then-not-commute
returns-then-not-commute c =
    let e = c.args.entry.now in
    let es = c.args.entries.now in
    let place = c.loop-place.place in
    let within : place < length es = omega (arith, c.loop-place-test.true, c.requires) in
    let read : get_or es place e ≡ c.index-entries-place.result = get_or_default es place e c.index-entries-place.result within
    ∙ sym c.index-entries-place.is in (
      λ h. absurd (false≢true h),
      λ h. absurd (false≢true (sym c.if-not-commute.true
          ∙ c.commute.ensures.1 (subst (CommuteForward e) read (h place c.loop-place.invariant.from c.loop-place-test.true)))),
    )

pub loop-place-preserved : goal.loop-place-preserved
loop-place-preserved c =
    let e = c.args.entry.now in
    let es = c.args.entries.now in
    let place = c.loop-place.place in
    let within : place < length es = omega (arith, c.loop-place-test.true, c.requires) in
    let read : get_or es place e ≡ c.index-entries-place.result = get_or_default es place e c.index-entries-place.result within
    ∙ sym c.index-entries-place.is in
    record {
      from = omega (arith, c.loop-place.invariant.from);
      passed = λ k from before. elim (cases_lt k place) [
        | inl earlier ↦ c.loop-place.invariant.passed k from earlier
        | inr here ↦ (let same : place ≡ k = omega arith in
            subst (λ n. CommuteForward e (get_or es n e)) same
            (subst (CommuteForward e) (sym read) (c.commute.ensures.0 c.if-not-commute.false)))
      ];
    }

pub returns : goal.returns
returns c = (λ _ k from before. c.loop-place.invariant.passed k from (omega (arith, c.loop-place-test.false)), λ _. refl)
