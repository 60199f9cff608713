use Rattle.std.proofs.Common.{◌≡◌, ◌≤◌, List, [], length, map}
use Rattle.json.specs.Token.{Token}
use Rattle.serde_json.specs.Data.{Items}
use Rattle.batch.specs.Views.{block_view}
use Rattle.doc_rules.specs.Limits.{limits_of}
use Rattle.doc_tokens.specs.Pulled.{WritesItems}
use Rattle.doc_tree.specs.Scope.{numbers_of, scope_of, setting_of}
use Rattle.lang.proofs.EachTransaction.{TransactionsLeft}
use Rattle.lang.proofs.singly.each_transaction.Given as goal

-- what was read comes before the transactions that are left
abbrev pub invariant-loop-alloc : goal.invariant-loop-alloc
invariant-loop-alloc l =
    ((all : Items) (rest : List Token) → WritesItems 125 l.initial.reader all rest
    → (ds : Items) × WritesItems 125 l.reader ds rest
    × TransactionsLeft (setting_of l.declared) l.initial.state.counts l.state.counts (numbers_of l.initial.state.numbering)
    (numbers_of l.state.numbering) (map block_view l.blocks.items) l.number all ds)
    × (scope_of l.state.labels.entries ≡ [])
    × (l.number ≤ (limits_of l.declared.version).transactions)

abbrev pub decreases-loop-alloc : goal.decreases-loop-alloc
decreases-loop-alloc l = length l.reader
