use Rattle.std.proofs.Common.{◌≡◌, ℕ, List, ◌++◌, ◌+◌, ◌*◌, length, map, option_map}
use Rattle.json.specs.Token.{Token}
use Rattle.serde_json.specs.Data.{Data, Members, no_members, put}
use Rattle.batch.specs.Views.{block_view, handler_view}
use Rattle.doc_tokens.specs.Pulled.{IsAfter, ReadsMembers}
use Rattle.doc_tokens.specs.PulledBlocks.{SpellsChildren, SpellsSteps, SubTail}
use Rattle.doc_tree.specs.declared.state.ReaderState.{ReaderState}
use Rattle.batch.specs.declared.tree.Step.{Step}
use Rattle.batch.specs.declared.tree.Subaction.{Subaction}
use Rattle.doc_tree.specs.Scope.{Scope, numbers_of, scope_of, setting_of}
use Rattle.doc_tree.specs.Spelled.{block_of, members_of}
use Rattle.doc_tree.proofs.ListLemmas.{in_front}
use Rattle.doc_tree.specs.Places.{block_placed, members_placed, seek}
use Rattle.doc_tokens.proofs.pull_blocks.+blocks.Given as goal

-- what was read comes before any steps that follow
abbrev pub invariant-pull_steps-loop-steps : goal.invariant-pull_steps-loop-steps
invariant-pull_steps-loop-steps l = (new : List Token) (q : ReaderState) (rest : List Step)
    → SpellsSteps (length l.steps.items) l.levels l.declared l.reader new l.state q rest
    → SpellsSteps 0 l.levels l.declared l.initial.reader new l.initial.state q (l.steps.items ++ rest)

abbrev pub decreases-pull_steps-loop-steps : goal.decreases-pull_steps-loop-steps
decreases-pull_steps-loop-steps l = length l.reader

abbrev pub decreases-pull_steps : goal.decreases-pull_steps
decreases-pull_steps l = 11 * l.levels + 10

abbrev pub decreases-pull_step : goal.decreases-pull_step
decreases-pull_step l = 11 * l.levels + 9

abbrev pub decreases-pull_sub_step : goal.decreases-pull_sub_step
decreases-pull_sub_step l = 11 * l.levels + 7

abbrev pub decreases-pull_sub : goal.decreases-pull_sub
decreases-pull_sub l = 11 * l.levels + 6

abbrev pub decreases-pull_sub_rest : goal.decreases-pull_sub_rest
decreases-pull_sub_rest l = 11 * l.levels + 5

abbrev pub decreases-pull_block : goal.decreases-pull_block
decreases-pull_block l = 11 * l.levels + 1

abbrev pub decreases-pull_block_begun : goal.decreases-pull_block_begun
decreases-pull_block_begun l = 11 * l.levels

-- what was read after the body so far, and the labels are as they were
abbrev pub invariant-pull_sub_rest-loop-handler : goal.invariant-pull_sub_rest-loop-handler
invariant-pull_sub_rest-loop-handler l =
    SubTail l.levels l.declared (scope_of l.initial.state.labels.entries) l.initial.reader l.initial.state
    (option_map (λ list. map handler_view list.items) l.handlers) (option_map block_view l.handler) (option_map (λ text. text.now) l.label)
    l.reader l.state

abbrev pub decreases-pull_sub_rest-loop-handler : goal.decreases-pull_sub_rest-loop-handler
decreases-pull_sub_rest-loop-handler l = length l.reader

abbrev pub decreases-pull_parallel : goal.decreases-pull_parallel
decreases-pull_parallel l = 11 * l.levels + 8

abbrev pub decreases-pull_children : goal.decreases-pull_children
decreases-pull_children l = 11 * l.levels + 7

-- what was read comes before any children that follow
abbrev pub invariant-pull_children-loop-alloc : goal.invariant-pull_children-loop-alloc
invariant-pull_children-loop-alloc l = (new : List Token) (after : Scope) (q : ReaderState) (rest : List Subaction)
    → SpellsChildren (length l.children.items) l.levels l.declared l.reader new (scope_of l.earlier.entries) after l.state q rest
    → SpellsChildren 0 l.levels l.declared l.initial.reader new (scope_of l.initial.earlier.entries) after l.initial.state q
    (l.children.items ++ rest)

abbrev pub decreases-pull_children-loop-alloc : goal.decreases-pull_children-loop-alloc
decreases-pull_children-loop-alloc l = length l.reader

abbrev pub decreases-pull_if : goal.decreases-pull_if
decreases-pull_if l = 11 * l.levels + 5

abbrev pub decreases-pull_else : goal.decreases-pull_else
decreases-pull_else l = 11 * l.levels + 2

abbrev pub decreases-pull_handlers : goal.decreases-pull_handlers
decreases-pull_handlers l = 11 * l.levels + 4

abbrev pub decreases-pull_ascending : goal.decreases-pull_ascending
decreases-pull_ascending l = 11 * l.levels + 3

abbrev pub decreases-pull_handler : goal.decreases-pull_handler
decreases-pull_handler l = 11 * l.levels + 2

-- what was read comes before any members that follow, and so does what is put among them after its last reason
abbrev pub invariant-pull_ascending-loop-handlers : goal.invariant-pull_ascending-loop-handlers
invariant-pull_ascending-loop-handlers l =
    (front : Members → Members)
    × ((ms : Members) (new : List Token) → ReadsMembers (5 * l.levels) (front no_members) l.reader ms new
    → ReadsMembers (5 * l.levels) no_members l.initial.reader ms new)
    × ((reason : List ℕ) (d : Data) (ds : Members) → IsAfter reason (option_map (λ text. text.now) l.before)
    → put reason d (front ds) ≡ front (put reason d ds))
    × ((ds : Members) → seek l.initial.state.counts
    (members_placed l.declared.version (block_placed (setting_of l.declared) l.levels) (scope_of l.initial.state.labels.entries) (front ds))
    ≡ seek l.state.counts (members_placed l.declared.version (block_placed (setting_of l.declared) l.levels)
    (scope_of l.initial.state.labels.entries) ds))
    × ((ds : Members) → members_of (block_of (setting_of l.declared) l.levels) (scope_of l.initial.state.labels.entries)
    (numbers_of l.initial.state.numbering) (front ds)
    ≡ in_front (map handler_view l.handlers.items)
    (members_of (block_of (setting_of l.declared) l.levels) (scope_of l.initial.state.labels.entries) (numbers_of l.state.numbering) ds))
    × (scope_of l.state.labels.entries ≡ scope_of l.initial.state.labels.entries)

abbrev pub decreases-pull_ascending-loop-handlers : goal.decreases-pull_ascending-loop-handlers
decreases-pull_ascending-loop-handlers l = length l.reader
