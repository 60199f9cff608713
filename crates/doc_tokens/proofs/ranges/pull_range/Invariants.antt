use Rattle.std.proofs.Common.{◌≡◌, ◌≤◌, [], length, map}
use Rattle.batch.specs.Views.{block_view}
use Rattle.doc_tokens.specs.Ranges.{AreRead, reached}
use Rattle.doc_rules.specs.Limits.{limits_of}
use Rattle.doc_tree.specs.Scope.{scope_of, setting_of}
use Rattle.doc_tokens.proofs.ranges.pull_range.Given as goal

-- whole transactions were read, and no label is seen after them
abbrev pub invariant-loop-alloc : goal.invariant-loop-alloc
invariant-loop-alloc l =
    AreRead (setting_of l.declared) l.initial.reader l.reader (reached l.initial.state (map block_view l.initial.transactions.items))
    (reached l.state (map block_view l.transactions.items))
    × (scope_of l.state.labels.entries ≡ [])
    × (length l.transactions.items ≤ (limits_of l.declared.version).transactions)

abbrev pub decreases-loop-alloc : goal.decreases-loop-alloc
decreases-loop-alloc l = length l.reader
