use Rattle.std.proofs.Common.{◌≡◌, ◌≤◌, ◌-◌}
use Rattle.report.proofs.cuts.pass_lines.Given as goal

-- the line is 0 but in the entry that it begins in
abbrev pub invariant-loop-entry : goal.invariant-loop-entry
invariant-loop-entry l =
    (l.fn.from.entry ≤ l.entry) × (l.entry ≤ l.end.entry)
    × (l.entry ≡ l.fn.from.entry → l.fn.from.line ≤ l.line) × (l.entry ≡ l.end.entry → l.line ≤ l.end.line)

abbrev pub decreases-loop-entry : goal.decreases-loop-entry
decreases-loop-entry l = l.end.entry - l.entry
