use Rattle.std.proofs.Common.{sym, ◌∙◌}
use Rattle.std.proofs.lemmas.Bool.{false≢true}
use Rattle.objects.specs.Entries.{CommutesWith}
use Rattle.explain.proofs.Searching.{first_here, later, none_at_end}
use Rattle.explain.proofs.search.first_late.Goals as goal

pub loop-place-preserved : goal.loop-place-preserved
loop-place-preserved c =
    later (λ p. CommutesWith p.entry c.args.nets.now) c.args.places.now c.loop-place.place-index c.place-item.result
    c.loop-place-test.true c.place-item.is c.loop-place.invariant (c.commutes_with.ensures.0 c.if-not-commutes_with.false)

pub returns-then-not-commutes_with-clause-found : goal.returns-then-not-commutes_with-clause-found
returns-then-not-commutes_with-clause-found c =
    first_here (λ p. CommutesWith p.entry c.args.nets.now) c.args.places.now c.loop-place.place-index c.place-item.result
    c.loop-place-test.true c.place-item.is c.loop-place.invariant
    (λ holds. false≢true (sym c.if-not-commutes_with.true ∙ c.commutes_with.ensures.1 holds))

pub returns-clause-none : goal.returns-clause-none
returns-clause-none c none = none_at_end (λ p. CommutesWith p.entry c.args.nets.now) c.args.places.now c.loop-place.place-index
    c.loop-place-test.false c.loop-place.invariant
