use Rattle.std.proofs.Common.{◌-◌, sym, subst, bit_and, bit_or}
use Rattle.committed.specs.Filter.{set_at, Meets}
use Rattle.committed.specs.declared.marks.Mark.{Mark}
use Rattle.committed.proofs.FilterLemmas.{by_object, met_by_object, met_by_item}
use Rattle.committed.proofs.filter.Filter.met.Goals as goal

pub returns-then-met-by_item-eq0 : goal.returns-then-met-by_item-eq0
returns-then-met-by_item-eq0 c e other is marked =
    let filter = c.args.self.now in
    subst (λ s. Meets (bit_and s c.args.mark.now.conflicts) e other) (sym c.set.ensures)
    (subst (λ (m : Mark). Meets (bit_and (set_at filter m.of_object) m.conflicts) e other) (sym is) (met_by_object filter e other marked))

pub returns : goal.returns
returns c e other is marked =
    let filter = c.args.self.now in
    let mark = c.args.mark.now in
    let at_object = set_at filter mark.of_object in
    let asked = c.by_item-by_item.result in
    subst (λ s. Meets (bit_and (bit_and s mark.conflicts) (bit_or c.set-2.result (65535 - asked))) e other) (sym c.set.ensures)
    (subst (λ s. Meets (bit_and (bit_and at_object mark.conflicts) (bit_or s (65535 - asked))) e other) (sym c.set-2.ensures)
    (subst (λ n. Meets (bit_and (bit_and at_object mark.conflicts) (bit_or (set_at filter mark.of_item) (65535 - n))) e other)
    (sym c.by_item-by_item.ensures)
    (subst (λ (m : Mark). Meets (bit_and (bit_and (set_at filter m.of_object) m.conflicts) (bit_or
    (set_at filter m.of_item) by_object)) e other) (sym is)
    (met_by_item filter e other marked))))
