use Rattle.std.proofs.Common.{sym, ◌∙◌}
use Rattle.std.proofs.lemmas.Bool.{eqb-true, false≢true}
use Rattle.conflicts.proofs.EffectLemmas.{given_strict}
use Rattle.conflicts.proofs.strictness.are_as_strict.Goals as goal
use Rattle.conflicts.proofs.strictness.are_as_strict.Goals.{then-covers, else-covers, then-is_paired, else-is_paired}
use Rattle.conflicts.proofs.strictness.are_as_strict.Goals.{then-first-third, else-first-third}

pub returns-then-covers-2 : goal.returns-then-covers-2
returns-then-covers-2 c =
    let first = c.args.first in
    let second = c.args.second in
    let third = c.args.third in
    elim c.if-covers.branch [
      | then-covers w ↦ λ h e with_first with_second. given_strict first.entry.now third.entry.now first.strength.now third.strength.now
          first.is_own third.is_own (sym c.covers.ensures ∙ w.if-covers.true) e with_first
      | else-covers w ↦ λ h e with_first with_second. given_strict second.entry.now third.entry.now second.strength.now third.strength.now
          second.is_own third.is_own (sym w.covers-else-covers.ensures ∙ sym w.value-is ∙ h) e with_second
    ]

pub returns-then-second-third : goal.returns-then-second-third
returns-then-second-third c = elim c.if-first-third.branch [
  | then-first-third w ↦ (elim c.if-is_paired.branch [
    | then-is_paired v ↦ λ h. c.together_as_strict.ensures
        (eqb-true c.args.first.entry.now.object c.args.third.entry.now.object (sym v.value-is ∙ w.if-first-third.true))
        (eqb-true c.args.second.entry.now.object c.args.third.entry.now.object (sym w.value-is ∙ c.if-second-third.true)) h
    | else-is_paired v ↦ λ h. absurd (false≢true (sym v.if-is_paired.false ∙ sym v.value-is ∙ w.if-first-third.true))
  ])
  | else-first-third w ↦ λ h. absurd (false≢true (sym w.if-first-third.false ∙ sym w.value-is ∙ c.if-second-third.true))
]
