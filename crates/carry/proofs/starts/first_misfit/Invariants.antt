use Rattle.std.proofs.Common.{◌≡◌, ◌≤◌, drop, map}
use Rattle.doc_rules.specs.Limits.{limits_of}
use Rattle.carry.specs.Carried.{first_unfit}
use Rattle.carry.specs.Joined.{start_view, value_of}
use Rattle.carry.proofs.starts.first_misfit.Given as goal

abbrev pub invariant-loop-place : goal.invariant-loop-place
invariant-loop-place l =
    (l.entries ≤ (limits_of l.fn.version).entries)
    × (first_unfit l.fn.version l.place l.entries (drop l.place (map value_of (map start_view l.starts)))
    ≡ first_unfit l.fn.version 0 0 (map value_of (map start_view l.fn.starts)))
