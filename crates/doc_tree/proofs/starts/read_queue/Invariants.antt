use Rattle.std.proofs.Common.{◌≡◌, drop}
use Rattle.serde_json.specs.View.{items_view}
use Rattle.doc_tree.specs.Places.{entries_placed, seek}
use Rattle.doc_tree.specs.Scope.{numbers_of}
use Rattle.doc_tree.specs.Spelled.{entries_of}
use Rattle.doc_tree.proofs.ListLemmas.{in_front}
use Rattle.doc_tree.proofs.starts.read_queue.Given as goal

abbrev pub invariant-loop-index : goal.invariant-loop-index
invariant-loop-index l = record {
  asked : seek l.initial.counts (entries_placed l.version 0 (items_view l.entry-items)) ≡ seek l.counts
      (entries_placed l.version l.index (items_view (drop l.index l.entry-items)));
  spelled : entries_of (numbers_of l.initial.numbering) (items_view l.entry-items) ≡ in_front l.queue
      (entries_of (numbers_of l.numbering) (items_view (drop l.index l.entry-items)));
}
