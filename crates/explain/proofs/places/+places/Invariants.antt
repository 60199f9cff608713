use Rattle.std.proofs.Common.{◌≡◌, ◌++◌}
use Rattle.batch.specs.Names.{names_of}
use Rattle.batch.specs.Views.{block_view, record_view, all_tried_view, children_view}
use Rattle.explain.specs.Why.{placed, placed_children}
use Rattle.explain.specs.Places.{is_left, places_view}
use Rattle.explain.proofs.Placing.{rest_placed, rest_children_placed}
use Rattle.explain.proofs.places.+places.Given as goal

abbrev pub invariant-place_block-loop-index : goal.invariant-place_block-loop-index
invariant-place_block-loop-index l =
    places_view l.places.items
    ++ rest_placed (names_of l.spot.names.now) l.spot.path.now (is_left l.spot.fate) l.index l.block.steps.items
    l.done.taken.items l.done.outcome
    ≡ places_view l.fn.places.items
    ++ placed (names_of l.fn.spot.names.now) l.fn.spot.path.now 1 (is_left l.fn.spot.fate) (block_view l.fn.block) (record_view l.fn.done)

abbrev pub invariant-place_children-loop-index : goal.invariant-place_children-loop-index
invariant-place_children-loop-index l =
    places_view l.places.items
    ++ rest_children_placed (names_of l.spot.names.now) l.spot.path.now (is_left l.spot.fate) l.index l.children l.all_tried
    ≡ places_view l.fn.places.items
    ++ placed_children (names_of l.fn.spot.names.now) l.fn.spot.path.now 1 (is_left l.fn.spot.fate) (children_view l.fn.children)
    (all_tried_view l.fn.all_tried)
