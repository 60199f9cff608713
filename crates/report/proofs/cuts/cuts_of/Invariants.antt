use Rattle.report.specs.Parts.{IsBefore}
use Rattle.report.proofs.PartLemmas.{AreBegun}
use Rattle.report.proofs.cuts.cuts_of.Given as goal

abbrev pub invariant-loop-part : goal.invariant-loop-part
invariant-loop-part l = AreBegun l.cut l.cuts.items × IsBefore l.cut l.end
