use Rattle.std.proofs.Common.{◌≡◌, ◌≤◌, ℕ, List, [], ◌+◌, ◌-◌, length, map}
use Rattle.json.specs.Token.{Token}
use Rattle.serde_json.specs.Data.{Items}
use Rattle.serde_json.specs.Find.{get_item}
use Rattle.meaning.specs.declared.limits.TheConstants.{MAX_DEPTH}
use Rattle.batch.specs.Views.{step_view}
use Rattle.doc_tree.specs.Places.{block_placed, seek, steps_placed}
use Rattle.doc_tokens.specs.Pulled.{WritesItems}
use Rattle.doc_tree.specs.Scope.{numbers_of, scope_of, setting_of}
use Rattle.doc_tree.specs.Spelled.{block_of, steps_spelled}
use Rattle.doc_tree.proofs.ListLemmas.{in_front}
use Rattle.lang.proofs.singly.each_step.Given as goal

-- what was read comes before any items that follow
abbrev pub invariant-loop-alloc : goal.invariant-loop-alloc
invariant-loop-alloc l =
    (before : Items → Items)
    × ((all : Items) (rest : List Token) → WritesItems 124 l.initial.reader all rest
    → (ds : Items) × (all ≡ before ds) × WritesItems 124 l.reader ds rest)
    × ((ds : Items) → seek l.initial.state.counts
    (steps_placed (block_placed (setting_of l.declared) (MAX_DEPTH - 1)) (setting_of l.declared) [] 0 (before ds))
    ≡ seek l.state.counts (steps_placed (block_placed (setting_of l.declared) (MAX_DEPTH - 1)) (setting_of l.declared)
    (scope_of l.state.labels.entries) (length l.steps.items) ds))
    × ((ds : Items) → steps_spelled (block_of (setting_of l.declared) (MAX_DEPTH - 1)) (setting_of l.declared) []
    (numbers_of l.initial.state.numbering) (before ds)
    ≡ in_front (map step_view l.steps.items) (steps_spelled (block_of (setting_of l.declared) (MAX_DEPTH - 1)) (setting_of l.declared)
    (scope_of l.state.labels.entries) (numbers_of l.state.numbering) ds))
    × ((k : ℕ) (ds : Items) → get_item (k + length l.steps.items) (before ds) ≡ get_item k ds)
    × (length l.reader ≤ length l.initial.reader)

abbrev pub decreases-loop-alloc : goal.decreases-loop-alloc
decreases-loop-alloc l = length l.reader
