use Rattle.std.proofs.Common.{◌≡◌, arith, get_or, sym, ◌∙◌, subst, inl, inr}
use Rattle.std.proofs.lemmas.Bool.{cases_lt}
use Rattle.std.proofs.lemmas.List.{get_or_default}
use Rattle.committed.specs.Filter.{IsMarked}
use Rattle.committed.proofs.filter.Filter.of.Goals as goal

pub loop-entry-preserved : goal.loop-entry-preserved
loop-entry-preserved c k d l =
    let es = c.args.entries.now in
    let at = c.loop-entry.entry-index in
    elim (cases_lt k at) [
      | inl before ↦ c.mark.ensures.kept (get_or es k d) (c.loop-entry.invariant k d before)
      | inr here ↦ (let same : k ≡ at = omega arith in
          let read : get_or es at d ≡ c.entry-item.result = get_or_default es at d c.entry-item.result c.loop-entry-test.true
          ∙ sym c.entry-item.is in
          subst (λ n. IsMarked c.mark.new.self (get_or es n d)) (sym same)
          (subst (IsMarked c.mark.new.self) (sym read) (c.mark.ensures.own c.entry-item.result c.of.ensures)))
    ]

pub returns : goal.returns
returns c k d l = c.loop-entry.invariant k d (omega (arith, l, c.loop-entry-test.false, c.loop-entry.auto.entry-index-end))
