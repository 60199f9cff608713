use Rattle.std.specs.FinSet as finite_set
use Rattle.std.proofs.Common.{◌≡◌, drop}
use Rattle.serde_json.specs.View.{items_view}
use Rattle.batch.specs.Names.{texts_of}
use Rattle.doc_tree.specs.Places.{elements_placed, seek}
use Rattle.doc_tree.specs.Scope.{numbers_of}
use Rattle.doc_tree.specs.Spelled.{entries_of, put_all, spelled_map}
use Rattle.doc_tree.proofs.starts.read_elements.Given as goal

abbrev pub invariant-loop-index : goal.invariant-loop-index
invariant-loop-index l = record {
  asked : seek l.initial.counts (elements_placed l.version (texts_of l.initial.earlier.keys) 0 (items_view l.element-items)) ≡ seek l.counts
      (elements_placed l.version (texts_of l.earlier.keys) l.index (items_view (drop l.index l.element-items)));
  spelled : spelled_map (put_all finite_set.empty) (entries_of (numbers_of l.initial.numbering) (items_view l.element-items)) ≡ spelled_map
      (put_all l.set) (entries_of (numbers_of l.numbering) (items_view (drop l.index l.element-items)));
}
