use Rattle.std.proofs.Common.{sym, ◌∙◌}
use Rattle.std.proofs.lemmas.Bool.{false≢true}
use Rattle.objects.specs.Entries.{CommuteForward}
use Rattle.explain.proofs.Searching.{first_left_here, later_left, later_not_left, none_left_at_end}
use Rattle.explain.proofs.search.first_early.Goals as goal
use Rattle.explain.proofs.search.first_early.Goals.{else-is_left-via-then-is_left+else-not-commute, else-is_left-via-else-is_left}

pub loop-place-preserved : goal.loop-place-preserved
loop-place-preserved c = elim c.else-is_left.branch [
  | else-is_left-via-then-is_left+else-not-commute w ↦
      later_left (λ p. CommuteForward c.args.late.now p.entry) c.args.places.now c.loop-place.place-index c.place-item.result
      c.loop-place-test.true c.place-item.is c.loop-place.invariant (sym c.is_left.ensures ∙ w.if-is_left.true)
      (w.commute.ensures.0 w.if-not-commute.false)
  | else-is_left-via-else-is_left w ↦
      later_not_left (λ p. CommuteForward c.args.late.now p.entry) c.args.places.now c.loop-place.place-index c.place-item.result
      c.loop-place-test.true c.place-item.is c.loop-place.invariant (sym c.is_left.ensures ∙ w.if-is_left.false)
]

pub returns-then-not-commute-clause-found : goal.returns-then-not-commute-clause-found
returns-then-not-commute-clause-found c =
    first_left_here (λ p. CommuteForward c.args.late.now p.entry) c.args.places.now c.loop-place.place-index c.place-item.result
    c.loop-place-test.true c.place-item.is c.loop-place.invariant (sym c.is_left.ensures ∙ c.if-is_left.true)
    (λ holds. false≢true (sym c.if-not-commute.true ∙ c.commute.ensures.1 holds))

pub returns-clause-none : goal.returns-clause-none
returns-clause-none c none = none_left_at_end (λ p. CommuteForward c.args.late.now p.entry) c.args.places.now c.loop-place.place-index
    c.loop-place-test.false c.loop-place.invariant
