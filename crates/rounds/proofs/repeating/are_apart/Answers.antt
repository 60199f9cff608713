use Rattle.std.proofs.Common.{◌≡◌, length, take, sym, ◌∙◌, subst, arith}
use Rattle.std.proofs.lemmas.Bool.{false≢true}
use Rattle.committed.specs.Summaries.{entries_of}
use Rattle.committed.specs.declared.marks.MarkedEntry.{MarkedEntry}
use Rattle.rounds.specs.Repeated.{AreOfOthers, AreApart}
use Rattle.rounds.proofs.RepeatLemmas.{one_apart}
use Rattle.rounds.proofs.repeating.are_apart.Goals as goal

pub loop-place-preserved : goal.loop-place-preserved
loop-place-preserved c =
    let is = c.index-entries-place.is in
    one_apart c.args.entries.now c.loop-place.place c.index-entries-place.result c.loop-place-test.true is c.loop-place.invariant
    (subst (λ (m : MarkedEntry). AreOfOthers m.entry.object (entries_of (take c.loop-place.place c.args.entries.now))) (sym is)
    (c.has_object.ensures (λ told. false≢true (sym c.if-has_object.false ∙ told))))

pub returns : goal.returns
returns c told =
    let over = c.loop-place-test.false in
    let within = c.loop-place.auto.place-end in
    let all : c.loop-place.place ≡ length c.args.entries.now = omega arith in
    subst (AreApart (entries_of c.args.entries.now)) all c.loop-place.invariant
