use Rattle.std.specs.FinMap as finite_map
use Rattle.std.proofs.Common.{◌≡◌, drop}
use Rattle.serde_json.specs.View.{items_view}
use Rattle.batch.specs.Names.{texts_of}
use Rattle.doc_tree.specs.Places.{pairs_placed, seek}
use Rattle.doc_tree.specs.Scope.{numbers_of}
use Rattle.doc_tree.specs.Spelled.{bind_all, pairs_of, spelled_map}
use Rattle.doc_tree.proofs.starts.read_pairs.Given as goal

abbrev pub invariant-loop-index : goal.invariant-loop-index
invariant-loop-index l = record {
  asked : seek l.initial.counts (pairs_placed l.version (texts_of l.initial.earlier.keys) 0 (items_view l.pair-items)) ≡ seek l.counts
      (pairs_placed l.version (texts_of l.earlier.keys) l.index (items_view (drop l.index l.pair-items)));
  spelled : spelled_map (bind_all finite_map.empty) (pairs_of (numbers_of l.initial.numbering) (items_view l.pair-items)) ≡ spelled_map
      (bind_all l.directory) (pairs_of (numbers_of l.numbering) (items_view (drop l.index l.pair-items)));
}
