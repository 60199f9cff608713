use Rattle.std.proofs.Common.{◌≡◌, ◌<◌, ◌≤◌, ◌+◌, ◌++◌, length, refl, sym, ap, ◌∙◌, arith, append-nil, append_assoc}
use Rattle.std.specs.Prelude.{codes, option_copied}
use Rattle.meaning.specs.Texts.{handler_block, handler_path, part, reason_of}
use Rattle.batch.specs.Names.{names_of}
use Rattle.batch.specs.Views.{block_view, record_view, subaction_view}
use Rattle.batch.proofs.ViewLemmas.{block_view-is, record_view-is, step_view-Parallel, taken_view-Parallel}
use Rattle.explain.specs.Places.{is_left, places_view}
use Rattle.explain.specs.Why.{placed}
use Rattle.explain.proofs.Placing.{rest_placed-start, rest_placed-more, rest_placed-no_step, rest_placed-end, rest_children_placed-start}
use Rattle.explain.proofs.Placing.{rest_children_placed-more, rest_children_placed-no_child, rest_children_placed-end, after_more}
use Rattle.explain.proofs.Placing.{body_placed, placed_child-body, placed_child-handler, placed_child-untaken}
use Rattle.explain.proofs.places.+places.Goals as goal

-- ---- steps one after the other

pub place_block-loop-index-init : goal.place_block-loop-index-init
place_block-loop-index-init t c = rw (rest_placed-start, record_view-is c.args.done.now, block_view-is c.args.block.now) refl

pub place_block-loop-index-preserved : goal.place_block-loop-index-preserved
place_block-loop-index-preserved t c =
    let steps = c.args.block.now.steps in
    let lt : c.loop-index.index < length c.args.done.now.taken.items = rw c.deref-taken-items.ensures.value at c.loop-index-test.true in
    let is = rw c.deref-taken-items.ensures.value at c.taken-item.is in
    let lt' : c.loop-index.index < length steps.items = omega (arith, c.if-index-len.false, c.len.ensures, steps.ok.0) in
    let path : c.as_str.result.now ≡ part c.args.spot.path.now (c.loop-index.index + 1) =
    c.as_str.ensures.value ∙ c.in_ok-step_path.ensures in
    let splits = rest_placed-more _ c.args.spot.path.now (is_left c.args.spot.fate) c.loop-index.index steps.items _
    c.args.done.now.outcome _ _ lt' c.index-step.ensures lt is in
    after_more _ _ _ _ _ _ c.loop-index.invariant (rw path at c.in_ok-place_step.ensures) splits

pub place_block-returns-then-index-len : goal.place_block-returns-then-index-len
place_block-returns-then-index-len t c =
    let steps = c.args.block.now.steps in
    let le : length steps.items ≤ c.loop-index.index = omega (arith, c.if-index-len.true, c.len.ensures, steps.ok.0) in
    sym (append-nil _) ∙ rw (rest_placed-no_step _ _ _ _ _ _ _ le) at c.loop-index.invariant

pub place_block-returns : goal.place_block-returns
place_block-returns t c =
    let le = rw c.deref-taken-items.ensures.value at c.loop-index-test.false in
    sym (append-nil _) ∙ rw (rest_placed-end _ _ _ _ _ _ _ le) at c.loop-index.invariant

-- ---- children one after the other

pub place_children-loop-index-init : goal.place_children-loop-index-init
place_children-loop-index-init t c = rw rest_children_placed-start refl

pub place_children-loop-index-preserved : goal.place_children-loop-index-preserved
place_children-loop-index-preserved t c =
    let path : c.as_str.result.now ≡ part c.args.spot.path.now (c.loop-index.index + 1) =
    c.as_str.ensures.value ∙ c.in_ok-child_path.ensures in
    let splits = rest_children_placed-more _ c.args.spot.path.now (is_left c.args.spot.fate) c.loop-index.index _ _ _ _
    c.if-index-children.false c.index-children-index.is c.loop-index-test.true c.index-all_tried-index.is in
    after_more _ _ _ _ _ _ c.loop-index.invariant (rw (path, c.as_ref.ensures.value) at c.in_ok-place_child.ensures) splits

pub place_children-returns-then-index-children : goal.place_children-returns-then-index-children
place_children-returns-then-index-children t c =
    sym (append-nil _) ∙ rw (rest_children_placed-no_child _ _ _ _ _ _ c.if-index-children.true) at c.loop-index.invariant

pub place_children-returns : goal.place_children-returns
place_children-returns t c =
    sym (append-nil _) ∙ rw (rest_children_placed-end _ _ _ _ _ _ c.loop-index-test.false) at c.loop-index.invariant

pub place_step-returns-in-Parallel-Parallel : goal.place_step-returns-in-Parallel-Parallel
place_step-returns-in-Parallel-Parallel t c =
    rw (c.in-Parallel-Parallel.is-0, c.in-Parallel-Parallel.is-1, step_view-Parallel, taken_view-Parallel)
    (rw (c.deref-in-Parallel-Parallel.ensures.value, c.deref-in-Parallel-Parallel-2.ensures.value) at c.place_children.ensures)

-- ---- a subaction

pub place_child-returns-in_default : goal.place_child-returns-in_default
place_child-returns-in_default t c =
    let names = names_of c.args.spot.names.now in
    let path : c.as_str.result.now ≡ c.args.spot.path.now ++ codes ".b" = c.as_str.ensures.value ∙ c.in_ok-body_path.ensures.ok in
    rw (placed_child-body names c.args.spot.path.now (is_left c.args.spot.fate) c.args.child.now c.args.body.now
    (option_copied c.args.handler) (ap option_copied c.in_default.is))
    (rw (path, c.of_body.ensures) at c.in_ok-place_block.ensures)

pub place_child-returns-in_default-2 : goal.place_child-returns-in_default-2
place_child-returns-in_default-2 t c =
    let names = names_of c.args.spot.names.now in
    let path : c.as_str.result.now ≡ c.args.spot.path.now ++ codes ".b" = c.as_str.ensures.value ∙ c.in_ok-body_path.ensures.ok in
    rw (placed_child-untaken names c.args.spot.path.now (is_left c.args.spot.fate) c.args.child.now c.args.body.now
    (option_copied c.args.handler) c.in-Some.done.now (ap option_copied c.in-Some.is)
    (rw (c.in_default-2.is, c.reason_of-reason.ensures) at c.in_ok-handler_path.ensures.none))
    (rw (path, c.of_body.ensures) at c.in_ok-place_block.ensures)

pub place_child-returns : goal.place_child-returns
place_child-returns t c =
    let names = names_of c.args.spot.names.now in
    let here = c.args.spot.path.now in
    let done = record_view c.in-Some.done.now in
    let handlers = (subaction_view c.args.child.now).handlers in
    let path : c.as_str.result.now ≡ here ++ codes ".b" = c.as_str.ensures.value ∙ c.in_ok-body_path.ensures.ok in
    let these = body_placed names here (is_left c.args.spot.fate) c.args.child.now c.args.body.now in
    let made : places_view c.place_block.new.places.items ≡ places_view c.args.places.now.items ++ these =
    rw (path, c.of_body.ensures) at c.in_ok-place_block.ensures in
    let place = rw (c.in-Some-2.is, c.reason_of-reason.ensures) at c.in_ok-handler_path.ensures.place in
    let handled = placed names (handler_path names here handlers (reason_of c.args.body.now.outcome)) 1 (is_left c.args.spot.fate)
    (handler_block handlers (reason_of c.args.body.now.outcome)) done in
    let handled_is : placed names c.as_str-2.result.now 1 (is_left c.args.spot.fate) (block_view c.in-Some-2.block.now) done ≡ handled =
    ap (λ text. placed names text 1 (is_left c.args.spot.fate) (block_view c.in-Some-2.block.now) done) c.as_str-2.ensures.value
    ∙ ap (λ p. placed names p.0 1 (is_left c.args.spot.fate) p.1 done) place in
    rw (
      placed_child-handler names here (is_left c.args.spot.fate) c.args.child.now c.args.body.now (option_copied c.args.handler)
          c.in-Some.done.now (ap option_copied c.in-Some.is),
      sym (append_assoc (places_view c.args.places.now.items) these handled),
    )
    (rw (made, handled_is) at c.place_block-2.ensures)
