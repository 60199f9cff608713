use Rattle.std.proofs.Common.{◌≡◌, drop}
use Rattle.doc_cuts.specs.Cuts.{opens_array}
use Rattle.doc_cuts.proofs.cut.opens_array.Given as goal

-- only white space was passed
abbrev pub invariant-loop-byte : goal.invariant-loop-byte
invariant-loop-byte l = opens_array l.text ≡ opens_array (drop l.byte-index l.text)
