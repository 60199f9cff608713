-- Where the ranges that are left are counted from here, all are from the start.
use Rattle.std.proofs.Common.{◌≤◌, drop}
use Rattle.doc_rules.specs.Limits.{limits_of}
use Rattle.doc_tree.specs.declared.counts.Counts.{Counts}
use Rattle.doc_merge.specs.Parts.{AreCounted}
use Rattle.doc_merge.proofs.ranges.count_ranges.Given as goal

abbrev pub invariant-loop-read : goal.invariant-loop-read
invariant-loop-read l =
    ((counts : Counts) → AreCounted l.version l.before l.counts (drop l.read-index l.reads) counts
    → AreCounted l.version 0 l.fn.counts l.fn.reads counts)
    × (l.before ≤ (limits_of l.version).transactions)
