use Rattle.std.proofs.Common.{◌≡◌, ◌≤◌, drop}
use Rattle.doc_rules.specs.Limits.{limits_of}
use Rattle.carry.specs.Carried.{first_unfit}
use Rattle.carry.proofs.document.first_unfit.Given as goal

abbrev pub invariant-loop-place : goal.invariant-loop-place
invariant-loop-place l =
    (l.entries ≤ (limits_of l.fn.version).entries)
    × (first_unfit l.fn.version l.place l.entries (drop l.place l.objects) ≡ first_unfit l.fn.version 0 0 l.fn.objects)
