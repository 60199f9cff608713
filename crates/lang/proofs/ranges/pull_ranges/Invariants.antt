use Rattle.std.proofs.Common.{◌≡◌, ◌≤◌, ◌<◌, ◌-◌, [], length, map, take}
use Rattle.std.specs.Prelude.{slice_index}
use Rattle.json.specs.Lex.{tokens}
use Rattle.batch.specs.Views.{block_view}
use Rattle.doc_tokens.specs.Ranges.{IsBegun, left_by, reached}
use Rattle.doc_rules.specs.Limits.{limits_of}
use Rattle.doc_tree.specs.Scope.{numbers_of, scope_of}
use Rattle.lang.proofs.ranges.pull_ranges.Given as goal

-- the document was read up to the end of a range, after which comes a comma or nothing
abbrev pub invariant-loop-end : goal.invariant-loop-end
invariant-loop-end l =
    IsBegun (tokens (take l.end l.text)) (left_by l.last) l.declared l.fn.state.counts (numbers_of l.fn.state.numbering)
    (reached l.state (map block_view l.transactions.items))
    × (l.bytes ≡ l.text)
    × (l.end ≤ length l.text)
    × (l.end < length l.text → slice_index l.text l.end ≡ 44)
    × (scope_of l.state.labels.entries ≡ [])
    × (length l.transactions.items ≤ (limits_of l.declared.version).transactions)

abbrev pub decreases-loop-end : goal.decreases-loop-end
decreases-loop-end l = length l.bytes - l.end
