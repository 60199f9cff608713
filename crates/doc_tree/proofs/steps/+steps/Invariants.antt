use Rattle.std.proofs.Common.{◌≡◌, ◌+◌, ◌*◌, drop, map}
use Rattle.serde_json.specs.View.{items_view, members_view}
use Rattle.batch.specs.Views.{handler_view, step_view, subaction_view}
use Rattle.doc_tree.specs.Asked.{labels_of}
use Rattle.doc_tree.specs.Places.{block_placed, children_placed, members_placed, seek, steps_placed}
use Rattle.doc_tree.specs.Scope.{Extends, numbers_of, scope_of, setting_of}
use Rattle.doc_tree.specs.Spelled.{block_of, children_spelled, members_of, steps_spelled}
use Rattle.doc_tree.proofs.ListLemmas.{in_front}
use Rattle.doc_tree.proofs.steps.+steps.Given as goal

abbrev pub decreases-read_steps : goal.decreases-read_steps
decreases-read_steps l = 10 * l.levels + 9

abbrev pub decreases-read_step : goal.decreases-read_step
decreases-read_step l = 10 * l.levels + 8

abbrev pub decreases-read_if : goal.decreases-read_if
decreases-read_if l = 10 * l.levels + 7

abbrev pub decreases-read_sub_step : goal.decreases-read_sub_step
decreases-read_sub_step l = 10 * l.levels + 7

abbrev pub decreases-read_parallel : goal.decreases-read_parallel
decreases-read_parallel l = 10 * l.levels + 7

abbrev pub decreases-read_children : goal.decreases-read_children
decreases-read_children l = 10 * l.levels + 6

abbrev pub decreases-read_sub : goal.decreases-read_sub
decreases-read_sub l = 10 * l.levels + 5

abbrev pub decreases-read_handlers : goal.decreases-read_handlers
decreases-read_handlers l = 10 * l.levels + 4

abbrev pub decreases-read_members : goal.decreases-read_members
decreases-read_members l = 10 * l.levels + 3

abbrev pub decreases-read_handler : goal.decreases-read_handler
decreases-read_handler l = 10 * l.levels + 2

abbrev pub decreases-read_part : goal.decreases-read_part
decreases-read_part l = 10 * l.levels + 1

abbrev pub decreases-read_part_if : goal.decreases-read_part_if
decreases-read_part_if l = 10 * l.levels + 2

abbrev pub decreases-read_block : goal.decreases-read_block
decreases-read_block l = 10 * l.levels

abbrev pub invariant-read_steps-loop-index : goal.invariant-read_steps-loop-index
invariant-read_steps-loop-index l = record {
  asked : seek l.initial.state.counts (steps_placed (block_placed (setting_of l.declared) l.levels) (setting_of l.declared)
      (scope_of l.initial.state.labels.entries) 0 (items_view l.step-items))
      ≡ seek l.state.counts (steps_placed (block_placed (setting_of l.declared) l.levels) (setting_of l.declared)
      (scope_of l.state.labels.entries) l.index (items_view (drop l.index l.step-items)));
  spelled : steps_spelled (block_of (setting_of l.declared) l.levels) (setting_of l.declared) (scope_of l.initial.state.labels.entries)
      (numbers_of l.initial.state.numbering) (items_view l.step-items)
      ≡ in_front (map step_view l.steps.items) (steps_spelled (block_of (setting_of l.declared) l.levels) (setting_of l.declared)
      (scope_of l.state.labels.entries) (numbers_of l.state.numbering) (items_view (drop l.index l.step-items)));
  labels : Extends (scope_of l.initial.state.labels.entries) (scope_of l.state.labels.entries);
}

abbrev pub invariant-read_children-loop-index : goal.invariant-read_children-loop-index
invariant-read_children-loop-index l = record {
  asked : seek l.initial.state.counts (children_placed l.declared.version (block_placed (setting_of l.declared) l.levels)
      (scope_of l.initial.state.labels.entries) (scope_of l.initial.earlier.entries) 0 (items_view l.child-items))
      ≡ seek l.state.counts (children_placed l.declared.version (block_placed (setting_of l.declared) l.levels)
      (scope_of l.initial.state.labels.entries) (scope_of l.earlier.entries) l.index (items_view (drop l.index l.child-items)));
  spelled : children_spelled (block_of (setting_of l.declared) l.levels) (scope_of l.initial.state.labels.entries)
      (numbers_of l.initial.state.numbering) (items_view l.child-items)
      ≡ in_front (map subaction_view l.children.items) (children_spelled (block_of (setting_of l.declared) l.levels)
      (scope_of l.initial.state.labels.entries) (numbers_of l.state.numbering) (items_view (drop l.index l.child-items)));
  added : labels_of (scope_of l.initial.earlier.entries) (items_view l.child-items) ≡ labels_of (scope_of l.earlier.entries)
      (items_view (drop l.index l.child-items));
  labels : scope_of l.state.labels.entries ≡ scope_of l.initial.state.labels.entries;
}

abbrev pub invariant-read_members-loop-reason : goal.invariant-read_members-loop-reason
invariant-read_members-loop-reason l = record {
  asked : seek l.initial.state.counts (members_placed l.declared.version (block_placed (setting_of l.declared) l.levels)
      (scope_of l.initial.state.labels.entries) (members_view l.members.entries))
      ≡ seek l.state.counts (members_placed l.declared.version (block_placed (setting_of l.declared) l.levels)
      (scope_of l.initial.state.labels.entries) (members_view l.reason-iterator));
  spelled : members_of (block_of (setting_of l.declared) l.levels) (scope_of l.initial.state.labels.entries)
      (numbers_of l.initial.state.numbering) (members_view l.members.entries)
      ≡ in_front (map handler_view l.handlers.items) (members_of (block_of (setting_of l.declared) l.levels)
      (scope_of l.initial.state.labels.entries) (numbers_of l.state.numbering) (members_view l.reason-iterator));
  labels : scope_of l.state.labels.entries ≡ scope_of l.initial.state.labels.entries;
}
