use Rattle.std.proofs.Common.{◌<◌, ◌≤◌, arith, refl, subst, inl, inr, length}
use Rattle.std.proofs.lemmas.Bool.{cases_lt, false≢true}
use Rattle.committed.proofs.FilterLemmas.{kept_in, own_in, all_in}
use Rattle.committed.proofs.filter.Filter.insert.Goals as goal

pub returns-in-Some-clause-own : goal.returns-in-Some-clause-own
returns-in-Some-clause-own c =
    let sets = c.args.self.now.sets.items in
    let within : c.slot-slot.result < length sets = omega (arith, c.in-Some.ensures.variant.0 refl, c.args.self.now.sets.ok.0) in
    own_in sets c.slot-slot.result c.in-Some.set.now c.args.classes c.args.hash within c.slot-slot.ensures

pub returns-in-Some-clause-kept : goal.returns-in-Some-clause-kept
returns-in-Some-clause-kept c other more has =
    let sets = c.args.self.now.sets.items in
    let within : c.slot-slot.result < length sets = omega (arith, c.in-Some.ensures.variant.0 refl, c.args.self.now.sets.ok.0) in
    kept_in sets c.slot-slot.result c.in-Some.set.now c.args.classes other more within c.in-Some.ensures.value has

pub returns-in_default-clause-own : goal.returns-in_default-clause-own
returns-in_default-clause-own c =
    let sets = c.args.self.now.sets.items in
    let past : length sets ≤ c.slot-slot.result = elim (cases_lt c.slot-slot.result (length sets)) [
      | inl within ↦ absurd (false≢true (c.in_default.ensures.variant.1 (omega (arith, within, c.args.self.now.sets.ok.0))))
      | inr out ↦ out
    ] in
    all_in sets c.args.hash c.args.classes (subst (λ n. length sets ≤ n) c.slot-slot.ensures past) c.ranges.classes.fits
