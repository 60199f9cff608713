use Rattle.std.proofs.Common.{refl}
use Rattle.committed.specs.declared.index.Index.{Index}
use Rattle.committed.proofs.IndexLemmas.{index_moved}
use Rattle.committed.proofs.index.Index.reserve.Goals as goal

pub returns-in_err-reserve-clause-index : goal.returns-in_err-reserve-clause-index
returns-in_err-reserve-clause-index c =
    let old = c.args.self.now in
    let new : Index = record { last = c.reserve.new.self; links = old.links; listed = old.listed } in
    index_moved old new c.reserve.ensures.entries refl refl

pub returns-in_err-reserve-2-clause-index : goal.returns-in_err-reserve-2-clause-index
returns-in_err-reserve-2-clause-index c =
    let old = c.args.self.now in
    let new : Index = record { last = c.reserve.new.self; links = c.reserve-2.new.self; listed = old.listed } in
    index_moved old new c.reserve.ensures.entries c.reserve-2.ensures.items refl

pub returns-clause-index : goal.returns-clause-index
returns-clause-index c =
    let old = c.args.self.now in
    let new : Index = record { last = c.reserve.new.self; links = c.reserve-2.new.self; listed = old.listed } in
    index_moved old new c.reserve.ensures.entries c.reserve-2.ensures.items refl
