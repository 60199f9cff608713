use Rattle.std.proofs.Common.{◌≡◌, ◌<◌, ◌≤◌, ◌+◌, ◌-◌, ◌%◌, ◌++◌, length, min, take, refl, sym, ap, ◌∙◌, arith, append-nil, append_assoc}
use Rattle.std.proofs.Common.{string_bytes}
use Rattle.std.specs.Prelude.{[], codes, option_copied}
use Rattle.std.specs.Fmt.{decimal}
use Rattle.meaning.specs.Texts.{handler_block, handler_path, part, reason_of, steps_text}
use Rattle.batch.specs.Names.{names_of}
use Rattle.batch.specs.Views.{block_view, record_view, subaction_view}
use Rattle.batch.proofs.ViewLemmas.{block_view-is, record_view-is, step_view-Parallel, taken_view-Parallel}
use Rattle.report.specs.Paths.{tens}
use Rattle.report.proofs.Digits.{tens-none, tens_digit}
use Rattle.report.proofs.PathLemmas.{cut_back, cut_both, cut_place, handler_path-after}
use Rattle.report.proofs.TextLemmas.{steps_from-start, steps_from-more, steps_from-shown, rest_children_text-start}
use Rattle.report.proofs.TextLemmas.{rest_children_text-more, rest_children_text-shown, after_text, after_two}
use Rattle.report.proofs.TextLemmas.{body_lines, child_text-body, child_text-handler, child_text-untaken}
use Rattle.report.proofs.lines.+lines.Goals as goal

-- ---- steps one after the other

pub write_block-loop-index-init : goal.write_block-loop-index-init
write_block-loop-index-init t c =
    let dot = c.in_ok-push.ensures.bytes ∙ ap (λ dot. string_bytes c.push_str.new.self ++ dot) (c.in_ok-push.ensures.ascii (omega arith))
    ∙ ap (λ text. text ++ codes ".") c.in_ok-push_str.ensures.bytes in (
      rw (steps_from-start, record_view-is c.args.done.now, block_view-is c.args.block.now) refl,
      dot ∙ sym (append-nil _) ∙ ap (λ none. ((string_bytes c.args.path.now ++ c.args.end.now) ++ codes ".") ++ none)
          (sym (tens-none 0 (omega arith))),
    )

pub write_block-count_up-requires-clause-cut : goal.write_block-count_up-requires-clause-cut
write_block-count_up-requires-clause-cut t c =
    let dot = c.in_ok-push.ensures.bytes ∙ ap (λ dot. string_bytes c.push_str.new.self ++ dot) (c.in_ok-push.ensures.ascii (omega arith))
    ∙ ap (λ text. text ++ codes ".") c.in_ok-push_str.ensures.bytes in
    cut_place c.push.new.self c.loop-index.path (tens c.loop-index.index) c.len-start.result c.len-start.ensures
    (c.loop-index.invariant.1 ∙ ap (λ front. front ++ tens c.loop-index.index) (sym dot))

pub write_block-count_up-requires-clause-before : goal.write_block-count_up-requires-clause-before
write_block-count_up-requires-clause-before t c =
    let i = c.loop-index.index in
    let dot = c.in_ok-push.ensures.bytes ∙ ap (λ dot. string_bytes c.push_str.new.self ++ dot) (c.in_ok-push.ensures.ascii (omega arith))
    ∙ ap (λ text. text ++ codes ".") c.in_ok-push_str.ensures.bytes in
    let same : i ≡ i + 1 - 1 = omega arith in
    cut_both c.push.new.self c.loop-index.path (tens i) c.len-start.result c.len-start.ensures
    (c.loop-index.invariant.1 ∙ ap (λ front. front ++ tens i) (sym dot))
    ∙ ap (λ n. take c.len-start.result (string_bytes c.loop-index.path) ++ tens n) same

pub write_block-loop-index-preserved : goal.write_block-loop-index-preserved
write_block-loop-index-preserved t c =
    let steps = c.args.block.now.steps in
    let taken = c.args.done.now.taken in
    let i = c.loop-index.index in
    let lt : i < length steps.items =
    omega (arith, c.loop-index-test.true, c.min-index-end.ensures, c.len.ensures, c.len-2.ensures, steps.ok.0) in
    let lt' : i < length taken.items =
    omega (arith, c.loop-index-test.true, c.min-index-end.ensures, c.len.ensures, c.len-2.ensures, taken.ok.0) in
    let path = string_bytes c.args.path.now ++ c.args.end.now in
    let front = path ++ codes "." in
    let dot : string_bytes c.push.new.self ≡ front =
    c.in_ok-push.ensures.bytes ∙ ap (λ dot. string_bytes c.push_str.new.self ++ dot) (c.in_ok-push.ensures.ascii (omega arith))
    ∙ ap (λ text. text ++ codes ".") c.in_ok-push_str.ensures.bytes in
    let left : take c.len-start.result (string_bytes c.loop-index.path) ≡ front =
    cut_back c.push.new.self c.loop-index.path (tens i) c.len-start.result c.len-start.ensures
    (c.loop-index.invariant.1 ∙ ap (λ front. front ++ tens i) (sym dot)) ∙ dot in
    let counted : string_bytes c.count_up.new.path ≡ front ++ tens (i + 1) =
    c.in_ok-count_up.ensures ∙ ap (λ text. text ++ tens (i + 1)) left in
    let own : string_bytes c.count_up.new.path ++ decimal ((i + 1) % 10) ≡ front ++ decimal (i + 1) =
    ap (λ text. text ++ decimal ((i + 1) % 10)) counted ∙ append_assoc front (tens (i + 1)) (decimal ((i + 1) % 10))
    ∙ ap (λ digits. front ++ digits) (tens_digit (i + 1) (omega (arith, c.min-index-end.ensures, c.loop-index-test.true, lt, steps.ok))) in
    let splits = steps_from-more _ path i steps.items taken.items c.args.done.now.outcome _ _ lt c.index.ensures lt'
    c.index-in-loop-index.ensures in (
      after_text _ _ _ _ _ _ c.loop-index.invariant.0 (rw own at c.in_ok-write_step.ensures.lines) splits,
      c.in_ok-write_step.ensures.path ∙ counted,
    )

pub write_block-truncate-requires : goal.write_block-truncate-requires
write_block-truncate-requires t c =
    let path = string_bytes c.args.path.now in
    let digits = tens c.loop-index.index in
    λ _. cut_place c.args.path.now c.loop-index.path (c.args.end.now ++ (codes "." ++ digits)) c.len-length.result c.len-length.ensures
    (c.loop-index.invariant.1 ∙ append_assoc (path ++ c.args.end.now) (codes ".") digits
    ∙ append_assoc path c.args.end.now (codes "." ++ digits))

pub write_block-returns-clause-path : goal.write_block-returns-clause-path
write_block-returns-clause-path t c =
    let path = string_bytes c.args.path.now in
    let digits = tens c.loop-index.index in
    c.truncate.ensures.bytes
    ∙ cut_back c.args.path.now c.loop-index.path (c.args.end.now ++ (codes "." ++ digits)) c.len-length.result c.len-length.ensures
    (c.loop-index.invariant.1 ∙ append_assoc (path ++ c.args.end.now) (codes ".") digits
    ∙ append_assoc path c.args.end.now (codes "." ++ digits))

pub write_block-returns-clause-lines : goal.write_block-returns-clause-lines
write_block-returns-clause-lines t c =
    let steps = c.args.block.now.steps in
    let taken = c.args.done.now.taken in
    let le : min (length steps.items) (length taken.items) ≤ c.loop-index.index =
    omega (arith, c.loop-index-test.false, c.min-index-end.ensures, c.len.ensures, c.len-2.ensures, steps.ok.0, taken.ok.0) in
    sym (append-nil _) ∙ rw (steps_from-shown _ _ _ _ _ _ le) at c.loop-index.invariant.0

-- ---- a step at its own path

pub write_step-truncate-requires : goal.write_step-truncate-requires
write_step-truncate-requires t c =
    λ _. cut_place c.args.path.now c.write_step_at.new.path (decimal (c.args.number % 10)) c.len-block_length.result
    c.len-block_length.ensures
    (c.in_ok-write_step_at.ensures.path ∙ c.in_ok-write_natural.ensures)

pub write_step-returns-clause-path : goal.write_step-returns-clause-path
write_step-returns-clause-path t c =
    c.truncate.ensures.bytes
    ∙ cut_back c.args.path.now c.write_step_at.new.path (decimal (c.args.number % 10)) c.len-block_length.result c.len-block_length.ensures
    (c.in_ok-write_step_at.ensures.path ∙ c.in_ok-write_natural.ensures)

pub write_step_at-returns-in-Parallel-Parallel-clause-lines : goal.write_step_at-returns-in-Parallel-Parallel-clause-lines
write_step_at-returns-in-Parallel-Parallel-clause-lines t c =
    rw (c.in-Parallel-Parallel.is-0, c.in-Parallel-Parallel.is-1, step_view-Parallel, taken_view-Parallel)
    (rw (c.deref-in-Parallel-Parallel.ensures.value, c.deref-in-Parallel-Parallel-2.ensures.value) at c.write_children.ensures.lines)

-- ---- children one after the other

pub write_children-loop-index-init : goal.write_children-loop-index-init
write_children-loop-index-init t c = (rw rest_children_text-start refl, refl)

pub write_children-loop-index-preserved : goal.write_children-loop-index-preserved
write_children-loop-index-preserved t c =
    let here = string_bytes c.args.path.now in
    let i = c.loop-index.index in
    let lt : i < length c.args.children.now = omega (arith, c.loop-index-test.true, c.min-index-end.ensures) in
    let lt' : i < length c.args.all_tried.now = omega (arith, c.loop-index-test.true, c.min-index-end.ensures) in
    let path : string_bytes c.push_part.new.path ≡ part here (i + 1) =
    c.in_ok-push_part.ensures ∙ ap (λ p. part p (i + 1)) c.loop-index.invariant.1 in
    let splits = rest_children_text-more _ here i _ _ _ _ lt c.index-children-index.is lt' c.index-all_tried-index.is in (
      after_text _ _ _ _ _ _ c.loop-index.invariant.0 (rw (path, c.as_ref.ensures.value) at c.in_ok-write_child.ensures.lines) splits,
      c.truncate.ensures.bytes
          ∙ cut_back c.args.path.now c.write_child.new.path (codes "." ++ decimal (i + 1)) c.len-length.result c.len-length.ensures
          (c.in_ok-write_child.ensures.path ∙ path ∙ append_assoc here (codes ".") (decimal (i + 1))),
    )

pub write_children-returns-clause-lines : goal.write_children-returns-clause-lines
write_children-returns-clause-lines t c =
    let le : min (length c.args.children.now) (length c.args.all_tried.now) ≤ c.loop-index.index =
    omega (arith, c.loop-index-test.false, c.min-index-end.ensures) in
    sym (append-nil _) ∙ rw (rest_children_text-shown _ _ _ _ _ le) at c.loop-index.invariant.0

-- ---- a subaction

pub write_child-returns-in_default-clause-lines : goal.write_child-returns-in_default-clause-lines
write_child-returns-in_default-clause-lines t c =
    after_two _ _ _ _ _ (rw c.deref.ensures at c.in_ok-write_outcome.ensures) c.in_ok-write_block.ensures.lines
    ∙ ap (λ text. string_bytes c.args.out.now ++ text)
    (sym (child_text-body _ (string_bytes c.args.path.now) c.args.child.now c.args.body.now (option_copied c.args.handler)
    (ap option_copied c.in_default.is)))

pub write_child-returns-in_default-2-clause-lines : goal.write_child-returns-in_default-2-clause-lines
write_child-returns-in_default-2-clause-lines t c =
    after_two _ _ _ _ _ (rw c.deref.ensures at c.in_ok-write_outcome.ensures) c.in_ok-write_block.ensures.lines
    ∙ ap (λ text. string_bytes c.args.out.now ++ text)
    (sym (child_text-untaken _ (string_bytes c.args.path.now) c.args.child.now c.args.body.now (option_copied c.args.handler)
    c.in-Some.done.now (ap option_copied c.in-Some.is) (rw (c.in_default-2.is, c.reason_of.ensures) at c.in_ok-block.ensures.none)))

pub write_child-truncate-requires : goal.write_child-truncate-requires
write_child-truncate-requires t c =
    let names = names_of c.args.names.now in
    let here = string_bytes c.write_block.new.path in
    let handlers = (subaction_view c.args.child.now).handlers in
    let place = rw c.in-Some-2.is at c.in_ok-block.ensures.place in
    λ _. cut_place c.write_block.new.path c.write_block-2.new.path (handler_path names [] handlers c.reason_of.result) c.len-length.result
    c.len-length.ensures
    (c.in_ok-write_block-2.ensures.path ∙ ap (λ p. p.0) place ∙ handler_path-after names here handlers c.reason_of.result)

pub write_child-returns-clause-lines : goal.write_child-returns-clause-lines
write_child-returns-clause-lines t c =
    let names = names_of c.args.names.now in
    let here = string_bytes c.args.path.now in
    let done = record_view c.in-Some.done.now in
    let handlers = (subaction_view c.args.child.now).handlers in
    let lines = body_lines names here c.args.child.now c.args.body.now in
    let wrote : string_bytes c.write_block.new.out ≡ string_bytes c.args.out.now ++ lines =
    after_two _ _ _ _ _ (rw c.deref.ensures at c.in_ok-write_outcome.ensures) c.in_ok-write_block.ensures.lines in
    let place = rw (c.in-Some-2.is, c.reason_of.ensures, c.in_ok-write_block.ensures.path) at c.in_ok-block.ensures.place in
    let handled = steps_text names (handler_path names here handlers (reason_of c.args.body.now.outcome)) 1
    (handler_block handlers (reason_of c.args.body.now.outcome)) done in
    let handled_is : steps_text names (string_bytes c.push_handler.new.path ++ []) 1 (block_view c.in-Some-2.block.now) done ≡ handled =
    ap (λ text. steps_text names text 1 (block_view c.in-Some-2.block.now) done) (append-nil (string_bytes c.push_handler.new.path))
    ∙ ap (λ p. steps_text names p.0 1 p.1 done) place in
    rw (
      child_text-handler names here c.args.child.now c.args.body.now (option_copied c.args.handler) c.in-Some.done.now
          (ap option_copied c.in-Some.is),
      sym (append_assoc (string_bytes c.args.out.now) lines handled),
    )
    (rw (wrote, handled_is) at c.in_ok-write_block-2.ensures.lines)

pub write_child-returns-clause-path : goal.write_child-returns-clause-path
write_child-returns-clause-path t c =
    let names = names_of c.args.names.now in
    let here = string_bytes c.write_block.new.path in
    let handlers = (subaction_view c.args.child.now).handlers in
    let place = rw c.in-Some-2.is at c.in_ok-block.ensures.place in
    c.truncate.ensures.bytes
    ∙ cut_back c.write_block.new.path c.write_block-2.new.path (handler_path names [] handlers c.reason_of.result) c.len-length.result
    c.len-length.ensures
    (c.in_ok-write_block-2.ensures.path ∙ ap (λ p. p.0) place ∙ handler_path-after names here handlers c.reason_of.result)
    ∙ c.in_ok-write_block.ensures.path
