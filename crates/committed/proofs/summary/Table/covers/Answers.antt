use Rattle.std.proofs.Common.{sym, ◌∙◌}
use Rattle.committed.proofs.SummaryLemmas.{strength_covered}
use Rattle.committed.proofs.summary.Table.covers.Goals as goal

pub returns-in-Some-get : goal.returns-in-Some-get
returns-in-Some-get c covered =
    let found = c.in-Some-get.found.now in
    let lookup = c.in-Some-get.ensures.lookup in
    strength_covered c.args.self.now.summary.items c.deref-2.result.now c.in-Some.field-0.now found c.args.strength.now
    (c.deref-2.ensures.value ∙ c.args.self.now.told) lookup.3.0 lookup.1 (sym c.covers.ensures ∙ covered)
