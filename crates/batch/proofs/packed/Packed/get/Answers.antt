use Rattle.std.proofs.Common.{◌∙◌, ap, arith, rules, sym}
use Rattle.std.specs.Prelude.{Some, slice_get}
use Rattle.std.proofs.lemmas.Option.{slice_get_past}
use Rattle.batch.proofs.PackedLemmas.{IsPart, length-parts_from, part_at}
use Rattle.batch.proofs.packed.Packed.get.Goals as goal
use Rattle.batch.proofs.packed.Packed.get.Goals.{After-as_str}

-- where the text lies
part : (c : After-as_str)
    → IsPart c.as_str.result.now c.beginning_of-start.result c.in_ok-end.field-0.now (slice_get c.args.self.now c.args.number)
part c =
    rw (
      c.as_str.ensures.value,
      c.beginning_of-start.ensures,
      c.in_ok-end.ensures.lookup.3.1 0,
      c.deref.ensures.value,
      c.deref-2.ensures.value,
      ← c.self.view_is,
    )
    (part_at _ 0 _ _ c.self.invariant (λ lt. absurd (omega arith)) (search rules))

pub range-requires-clause-start_le_end : goal.range-requires-clause-start_le_end
range-requires-clause-start_le_end c = let here = part c in search rules

pub range-requires-clause-start_boundary : goal.range-requires-clause-start_boundary
range-requires-clause-start_boundary c = let here = part c in search rules

pub range-requires-clause-end_boundary : goal.range-requires-clause-end_boundary
range-requires-clause-end_boundary c = let here = part c in search rules

pub returns-in_err-end : goal.returns-in_err-end
returns-in_err-end c = search (rules, slice_get_past, length-parts_from)

pub returns : goal.returns
returns c = ap Some c.range.ensures.value ∙ sym (part (goal.at.returns c).After-as_str).is
