use Rattle.std.specs.Prelude.{codes, is_some}
use Rattle.std.proofs.Common.{◌≡◌, ℕ, ◌+◌, ◌-◌, List, [], ◌∷◌, None, Err, drop, map, string_bytes}
use Rattle.std.proofs.Common.{refl, subst, sym, ap, ap₂, ◌∙◌, arith, rules}
use Rattle.std.proofs.Common.{Vec, Global, option_map}
use Rattle.std.proofs.lemmas.List.{length-map, map-append}
use Rattle.serde_json.specs.Find.{as_array}
use Rattle.serde_json.specs.View.{items_view, members_view, view}
use Rattle.meaning.specs.Trees as tree
use Rattle.batch.specs.Views.{Tried, block_view, handler_view, step_view, steps_of, subaction_view, children_of}
use Rattle.doc_tree.specs.Answer.{IsFound, found_of}
use Rattle.doc_tree.specs.Asked.{children_in, label_in, labels_of, scope_after}
use Rattle.batch.specs.Names.{is_name}
use Rattle.doc_tree.specs.Demand.{holds}
use Rattle.doc_rules.specs.declared.rule.NameRule.TheVariants.{Handlers}
use Rattle.doc_rules.specs.declared.rule.Rule.TheVariants.{Name}
use Rattle.doc_tree.specs.Places.{block_placed, children_placed, if_placed, inside, item_at, member_named, member_placed, members_placed}
use Rattle.doc_tree.specs.Places.{nothing, parallel_placed, seek, step_placed, steps_placed, sub_placed}
use Rattle.doc_tree.specs.Scope.{Extends, Numbers, Scope, Table, numbers_of, scope_of, setting_of, with_label, with_labels}
use Rattle.doc_tree.specs.Spelled.{block_of, children_spelled, spelled_map, steps_spelled, sub_step}
use Rattle.doc_rules.specs.declared.subject.Subject.TheVariants.{Outcome}
use Rattle.doc_tree.proofs.Checks.{passed_on}
use Rattle.doc_tree.proofs.ListLemmas.{in_front, in_front_push, items_from}
use Rattle.batch.specs.declared.tree.Block.{roll-Block}
use Rattle.batch.specs.declared.tree.Handler.{Handler, roll-Handler, the_lemmas as handler_lemmas}
use Rattle.batch.proofs.ViewLemmas.{block_view-is}
use Rattle.doc_tree.specs.Spelled.{parallel_of, members_of, tried}
use Rattle.doc_tree.proofs.BlockLemmas.{block_asks, block_spells, no_array, too_deep}
use Rattle.doc_tree.proofs.HeadLemmas.{if_else_failed, if_head_failed, if_parts_met, if_read, if_then_failed, parallel_after_head}
use Rattle.doc_tree.proofs.HeadLemmas.{parallel_head_failed, sub_body_failed, sub_handler_failed, sub_handlers_failed, sub_head_failed}
use Rattle.doc_tree.proofs.HeadLemmas.{sub_parts_met, sub_read}
use Rattle.doc_tree.proofs.LabelLemmas.{extends_twice, scope_after_extends}
use Rattle.doc_tree.proofs.PlaceLemmas.{found_in, found_plain, member_met, member_unmet, own_first, own_unmet, part_met, raised, refused}
use Rattle.doc_tree.proofs.steps.+steps.Goals as goal

pub read_block-returns-in_default-clause-unmet : goal.read_block-returns-in_default-clause-unmet
read_block-returns-in_default-clause-unmet t c other =
    let none : as_array (view c.args.value.now) ≡ None = search rules in
    no_array (setting_of c.args.declared.now) (scope_of c.args.state.now.labels.entries) (view c.args.value.now) c.args.levels
    c.args.state.now.counts none
    ∙ ap (λ e. Err e) (found_plain c.from.result _ (c.from.ensures.0 ∙ c.broken.ensures) c.from.ensures.1)

pub read_block-returns-then-levels-eq0-clause-unmet : goal.read_block-returns-then-levels-eq0-clause-unmet
read_block-returns-then-levels-eq0-clause-unmet t c other =
    let made = c.from-then-levels-eq0 in
    too_deep (setting_of c.args.declared.now) (scope_of c.args.state.now.labels.entries) (view c.args.value.now) c.args.levels
    c.args.state.now.counts (items_view c.in-Some.list.now.items) (omega arith) c.in-Some.ensures
    ∙ ap (λ e. Err e) (found_plain made.result _ (made.ensures.0 ∙ c.broken-then-levels-eq0.ensures) made.ensures.1)

pub read_block-returns-in_err-steps-clause-unmet : goal.read_block-returns-in_err-steps-clause-unmet
read_block-returns-in_err-steps-clause-unmet t c =
    let setting = setting_of c.args.declared.now in
    let scope = scope_of c.args.state.now.labels.entries in
    let d = view c.args.value.now in
    let start = c.args.state.now.counts in
    let asks = block_asks setting scope d (c.args.levels - 1) c.args.levels (items_view c.in-Some.list.now.items)
    (omega arith) c.in-Some.ensures in
    passed_on c.from_residual.result (IsFound start (block_placed setting c.args.levels scope d)) c.in_err-steps.field-0.0
    c.from_residual.ensures.1 (λ other. ap (seek start) asks ∙ c.in_err-steps.ensures.unmet other)

pub read_block-returns-clause-met : goal.read_block-returns-clause-met
read_block-returns-clause-met t c =
    ap (seek c.args.state.now.counts) (block_asks (setting_of c.args.declared.now) (scope_of c.args.state.now.labels.entries)
    (view c.args.value.now) (c.args.levels - 1) c.args.levels (items_view c.in-Some.list.now.items) (omega arith) c.in-Some.ensures)
    ∙ c.in_ok-steps.ensures.met

pub read_block-returns-clause-value : goal.read_block-returns-clause-value
read_block-returns-clause-value t c =
    let shown = block_view-is (roll-Block (record { steps = c.in_ok-steps.steps })) in
    ap (λ (b : tree.Block). (b, numbers_of c.read_steps.new.state.numbering)) shown
    ∙ ap (spelled_map steps_of) c.in_ok-steps.ensures.value
    ∙ sym (block_spells (setting_of c.args.declared.now) (scope_of c.args.state.now.labels.entries) (view c.args.value.now)
    (c.args.levels - 1) c.args.levels (numbers_of c.args.state.now.numbering) (items_view c.in-Some.list.now.items)
    (omega arith) c.in-Some.ensures)

pub read_block-returns-clause-labels : goal.read_block-returns-clause-labels
read_block-returns-clause-labels t c =
    let before = c.args.state.now.labels.entries in
    c.leave_block.ensures (scope_of before) c.in_ok-steps.ensures.labels (length-map before _ ∙ sym c.len-seen.ensures.len)

pub read_part-returns-in-Ok-clause-met : goal.read_part-returns-in-Ok-clause-met
read_part-returns-in-Ok-clause-met t c =
    part_met c.args.state.now.counts c.read_block.new.state.counts (member_named c.args.name.now)
    (block_placed (setting_of c.args.declared.now) c.args.levels (scope_of c.args.state.now.labels.entries) (view c.args.value.now))
    nothing c.in-Ok.ensures.met

pub read_part-returns-in-Err-clause-unmet : goal.read_part-returns-in-Err-clause-unmet
read_part-returns-in-Err-clause-unmet t c =
    found_in c.args.state.now.counts (member_named c.args.name.now)
    (block_placed (setting_of c.args.declared.now) c.args.levels (scope_of c.args.state.now.labels.entries) (view c.args.value.now))
    nothing c.in-Err.unmet c.in_member.result c.in_member.ensures c.in-Err.ensures.unmet

pub read_steps-returns-in-Err-clause-unmet : goal.read_steps-returns-in-Err-clause-unmet
read_steps-returns-in-Err-clause-unmet t c =
    let l = c.loop-index in
    let setting = setting_of c.args.declared.now in
    let places = block_placed (setting_of c.args.declared.now) c.args.levels in
    let scope = scope_of c.args.state.now.labels.entries in
    let here = scope_of l.state.labels.entries in
    let xs = c.deref-step-items.result.now in
    let x = c.step-item.result in
    let rest = items_view (drop (l.index + 1) xs) in
    let found = found_in l.state.counts (item_at l.index) (step_placed places setting here (view x))
    (steps_placed places setting (scope_after setting here (view x)) (l.index + 1) rest) c.in-Err.unmet c.in_item.result
    c.in_item.ensures c.in-Err.ensures.unmet in
    λ other. ap (λ vs. seek c.args.state.now.counts (steps_placed places setting scope 0 (items_view vs)))
    (sym c.deref-step-items.ensures.value) ∙ l.invariant.asked
    ∙ ap (λ ds. seek l.state.counts (steps_placed places setting here l.index ds)) (items_from xs l.index x (omega arith) c.step-item.is)
    ∙ found other

pub read_steps-loop-index-preserved : goal.read_steps-loop-index-preserved
read_steps-loop-index-preserved t c =
    let l = c.loop-index in
    let setting = setting_of c.args.declared.now in
    let places = block_placed (setting_of c.args.declared.now) c.args.levels in
    let scope = scope_of c.args.state.now.labels.entries in
    let block = block_of setting c.args.levels in
    let here = scope_of l.state.labels.entries in
    let next = scope_of c.read_step.new.state.labels.entries in
    let numbers = numbers_of l.state.numbering in
    let after = numbers_of c.read_step.new.state.numbering in
    let counts = c.read_step.new.state.counts in
    let xs = c.deref-step-items.result.now in
    let x = c.step-item.result in
    let rest = items_view (drop (l.index + 1) xs) in
    let split = items_from xs l.index x (omega arith) c.step-item.is in
    let done = c.in-Ok.ensures in
    let later : List tree.Step × Numbers = steps_spelled block setting next after rest in
    let read = map step_view l.steps.items in
    record {
      asked = l.invariant.asked ∙ ap (λ ds. seek l.state.counts (steps_placed places setting here l.index ds)) split
          ∙ part_met l.state.counts counts (item_at l.index) (step_placed places setting here (view x))
          (steps_placed places setting (scope_after setting here (view x)) (l.index + 1) rest) done.met
          ∙ ap (λ (s : Scope). seek counts (steps_placed places setting s (l.index + 1) rest)) (sym done.labels);
      spelled = l.invariant.spelled ∙ ap (λ ds. in_front read (steps_spelled block setting here numbers ds)) split
          ∙ ap₂ (λ (s : Scope) (p : tree.Step × Numbers). in_front read (
            p.0 ∷ (steps_spelled block setting s p.1 rest).0,
            (steps_spelled block setting s p.1 rest).1,
          )) (sym done.labels) (sym done.value)
          ∙ sym (in_front_push read (step_view c.in-Ok.read) later)
          ∙ ap (λ ys. in_front ys later) (sym (map-append step_view l.steps.items (c.in-Ok.read ∷ []))
          ∙ ap (map step_view) (sym c.in_ok-push-in-Ok.ensures.items));
      labels = extends_twice scope here next l.invariant.labels
          (subst (λ s. Extends here s) (sym done.labels) (scope_after_extends setting here (view x)));
    }

pub read_children-returns-in-Err-clause-unmet : goal.read_children-returns-in-Err-clause-unmet
read_children-returns-in-Err-clause-unmet t c =
    let l = c.loop-index in
    let places = block_placed (setting_of c.args.declared.now) c.args.levels in
    let scope = scope_of c.args.state.now.labels.entries in
    let version = c.args.declared.now.version in
    let earlier = scope_of c.args.earlier.now.entries in
    let here = scope_of l.earlier.entries in
    let xs = c.deref-child-items.result.now in
    let x = c.child-item.result in
    let rest = items_view (drop (l.index + 1) xs) in
    let unmet = rw l.invariant.labels at c.in-Err.ensures.unmet in
    let found = found_in l.state.counts (item_at l.index) (sub_placed version places scope here (view x))
    (children_placed version places scope (with_label (label_in (view x)) Outcome here) (l.index + 1) rest) c.in-Err.unmet
    c.in_item.result c.in_item.ensures unmet in
    λ other. ap (λ vs. seek c.args.state.now.counts (children_placed version places scope earlier 0 (items_view vs)))
    (sym c.deref-child-items.ensures.value) ∙ l.invariant.asked
    ∙ ap (λ ds. seek l.state.counts (children_placed version places scope here l.index ds))
    (items_from xs l.index x (omega arith) c.child-item.is)
    ∙ found other

pub read_children-loop-index-preserved : goal.read_children-loop-index-preserved
read_children-loop-index-preserved t c =
    let l = c.loop-index in
    let setting = setting_of c.args.declared.now in
    let places = block_placed setting c.args.levels in
    let block = block_of setting c.args.levels in
    let scope = scope_of c.args.state.now.labels.entries in
    let version = c.args.declared.now.version in
    let here = scope_of l.earlier.entries in
    let numbers = numbers_of l.state.numbering in
    let after = numbers_of c.read_sub.new.state.numbering in
    let counts = c.read_sub.new.state.counts in
    let xs = c.deref-child-items.result.now in
    let x = c.child-item.result in
    let rest = items_view (drop (l.index + 1) xs) in
    let split = items_from xs l.index x (omega arith) c.child-item.is in
    let done = c.in-Ok.ensures in
    let met = rw l.invariant.labels at done.met in
    let value = rw l.invariant.labels at done.value in
    let read = map subaction_view l.children.items in
    let later : List Tried × Numbers = children_spelled block scope after rest in
    let added : scope_of c.add_label.new.labels.entries ≡ with_label (label_in (view x)) Outcome here = c.in_ok-add_label.ensures.ok
    ∙ ap (λ o. with_label o Outcome here) c.text_member.ensures in
    record {
      asked = l.invariant.asked ∙ ap (λ ds. seek l.state.counts (children_placed version places scope here l.index ds)) split
          ∙ part_met l.state.counts counts (item_at l.index) (sub_placed version places scope here (view x))
          (children_placed version places scope (with_label (label_in (view x)) Outcome here) (l.index + 1) rest) met
          ∙ ap (λ (s : Scope). seek counts (children_placed version places scope s (l.index + 1) rest)) (sym added);
      spelled = l.invariant.spelled ∙ ap (λ ds. in_front read (children_spelled block scope numbers ds)) split
          ∙ ap (λ (p : Tried × Numbers). in_front read
          (p.0 ∷ (children_spelled block scope p.1 rest).0, (children_spelled block scope p.1 rest).1)) (sym value)
          ∙ sym (in_front_push read (subaction_view c.in-Ok.read) later)
          ∙ ap (λ ys. in_front ys later) (sym (map-append subaction_view l.children.items (c.in-Ok.read ∷ []))
          ∙ ap (map subaction_view) (sym c.in_ok-push-in-Ok.ensures.items));
      added = l.invariant.added ∙ ap (labels_of here) split ∙ ap (λ (s : Scope). labels_of s rest) (sym added);
      labels = done.labels ∙ l.invariant.labels;
    }

pub read_handler-returns-in_err-number-clause-unmet : goal.read_handler-returns-in_err-number-clause-unmet
read_handler-returns-in_err-number-clause-unmet t c =
    let version = c.args.declared.now.version in
    let places = block_placed (setting_of c.args.declared.now) c.args.levels in
    let scope = scope_of c.args.state.now.labels.entries in
    let reason = c.args.reason.now in
    let d = view c.args.value.now in
    let start = c.args.state.now.counts in
    let e = c.in_err-number.field-0.0 in
    raised c.from_residual.result start (member_placed version places scope reason d nothing) e c.from_residual.ensures.1
    (λ other. let failed = c.in_err-number.ensures.first other in
    own_unmet start e (holds (is_name version reason) (Name version Handlers) ∷ [])
    (inside (member_named reason) (places scope d) nothing)
    (rw failed.0 (ap Err (sym failed.1))))

pub read_handler-returns-in_err-block-clause-unmet : goal.read_handler-returns-in_err-block-clause-unmet
read_handler-returns-in_err-block-clause-unmet t c =
    let version = c.args.declared.now.version in
    let places = block_placed (setting_of c.args.declared.now) c.args.levels in
    let scope = scope_of c.args.state.now.labels.entries in
    let reason = c.args.reason.now in
    let d = view c.args.value.now in
    let start = c.args.state.now.counts in
    passed_on c.from_residual-in_err-block.result (IsFound start (member_placed version places scope reason d nothing))
    c.in_err-block.field-0.0 c.from_residual-in_err-block.ensures.1
    (λ other. own_first start start (holds (is_name version reason) (Name version Handlers) ∷ [])
    (inside (member_named reason) (places scope d) nothing)
    (rw c.in_ok-number.ensures.met refl) ∙ c.in_err-block.ensures.unmet other)

pub read_handler-returns-clause-met : goal.read_handler-returns-clause-met
read_handler-returns-clause-met t c =
    let version = c.args.declared.now.version in
    let places = block_placed (setting_of c.args.declared.now) c.args.levels in
    let scope = scope_of c.args.state.now.labels.entries in
    let reason = c.args.reason.now in
    let start = c.args.state.now.counts in
    own_first start start (holds (is_name version reason) (Name version Handlers) ∷ [])
    (inside (member_named reason) (places scope (view c.args.value.now)) nothing) (rw c.in_ok-number.ensures.met refl)
    ∙ c.in_ok-block.ensures.met

pub read_handler-returns-clause-value : goal.read_handler-returns-clause-value
read_handler-returns-clause-value t c =
    let block = block_of (setting_of c.args.declared.now) c.args.levels in
    let scope = scope_of c.args.state.now.labels.entries in
    let numbers = numbers_of c.args.state.now.numbering in
    let after = numbers_of c.read_part.new.state.numbering in
    let n = c.in_ok-number.number in
    let b = c.in_ok-block.block in
    let shown : handler_view (roll-Handler (record { reason = n; block = b })) ≡ (n, block_view b) = search (rules, handler_lemmas) in
    ap (λ (v : ℕ × tree.Block). (v, after)) shown
    ∙ ap (spelled_map (λ (x : tree.Block). (n, x))) c.in_ok-block.ensures.value
    ∙ ap₂ (λ m (ts : Table). spelled_map (λ (x : tree.Block). (m, x)) (block scope (record {
      items = numbers.items;
      reasons = ts;
    }) (view c.args.value.now))) c.in_ok-number.ensures.number c.in_ok-number.ensures.table

pub read_members-returns-in_err-read_handler-clause-unmet : goal.read_members-returns-in_err-read_handler-clause-unmet
read_members-returns-in_err-read_handler-clause-unmet t c =
    let version = c.args.declared.now.version in
    let l = c.loop-reason in
    let places = block_placed (setting_of c.args.declared.now) c.args.levels in
    let scope = scope_of c.args.state.now.labels.entries in
    let reason = string_bytes c.in-Some.reason.now in
    let d = view c.in-Some.value.now in
    let rest = members_view c.next.new.self in
    passed_on c.from_residual-in_err-read_handler.result
    (IsFound c.args.state.now.counts (members_placed version places scope (members_view c.args.members.now.entries)))
    c.in_err-read_handler.field-0.0 c.from_residual-in_err-read_handler.ensures.1
    (λ other. l.invariant.asked
    ∙ ap (λ es. seek l.state.counts (members_placed version places scope (members_view es))) c.in-Some.ensures.steps
    ∙ member_unmet l.state.counts version places scope reason d (members_placed version places scope rest) _
    (rw (l.invariant.labels, c.as_str.ensures.value) at (c.in_err-read_handler.ensures.unmet other)))

pub read_members-loop-reason-preserved : goal.read_members-loop-reason-preserved
read_members-loop-reason-preserved t c =
    let version = c.args.declared.now.version in
    let l = c.loop-reason in
    let setting = setting_of c.args.declared.now in
    let places = block_placed setting c.args.levels in
    let block = block_of setting c.args.levels in
    let scope = scope_of c.args.state.now.labels.entries in
    let reason = string_bytes c.in-Some.reason.now in
    let d = view c.in-Some.value.now in
    let rest = members_view c.next.new.self in
    let numbers = numbers_of l.state.numbering in
    let after = numbers_of c.read_handler.new.state.numbering in
    let done = c.in_ok-read_handler.ensures in
    let met = rw (l.invariant.labels, c.as_str.ensures.value) at done.met in
    let value = rw (l.invariant.labels, c.as_str.ensures.value) at done.value in
    let read = map handler_view l.handlers.items in
    let later : List (ℕ × tree.Block) × Numbers = members_of block scope after rest in
    record {
      asked = l.invariant.asked
          ∙ ap (λ es. seek l.state.counts (members_placed version places scope (members_view es))) c.in-Some.ensures.steps
          ∙ member_met l.state.counts version places scope reason d (members_placed version places scope rest)
          c.read_handler.new.state.counts met;
      spelled = l.invariant.spelled ∙ ap (λ es. in_front read (members_of block scope numbers (members_view es))) c.in-Some.ensures.steps
          ∙ ap (λ (p : (ℕ × tree.Block) × Numbers). in_front read
          (p.0 ∷ (members_of block scope p.1 rest).0, (members_of block scope p.1 rest).1)) (sym value)
          ∙ sym (in_front_push read (handler_view c.in_ok-read_handler.field-0) later)
          ∙ ap (λ ys. in_front ys later) (sym (map-append handler_view l.handlers.items (c.in_ok-read_handler.field-0 ∷ []))
          ∙ ap (map handler_view) (sym c.in_ok-push.ensures.items));
      labels = done.labels ∙ l.invariant.labels;
    }

pub read_parallel-returns-in_err-list-clause-unmet : goal.read_parallel-returns-in_err-list-clause-unmet
read_parallel-returns-in_err-list-clause-unmet t c =
    let places = block_placed (setting_of c.args.declared.now) c.args.levels in
    let scope = scope_of c.args.state.now.labels.entries in
    let version = c.args.declared.now.version in
    let d = view c.args.step.now in
    let start = c.args.state.now.counts in
    let e = c.in_err-list.field-0.0 in
    raised c.from_residual.result start (parallel_placed version places scope d) e c.from_residual.ensures.1
    (λ other. parallel_head_failed version places scope d start e (c.in_err-list.ensures.first other))

pub read_parallel-returns-in-Err-clause-unmet : goal.read_parallel-returns-in-Err-clause-unmet
read_parallel-returns-in-Err-clause-unmet t c other =
    let places = block_placed (setting_of c.args.declared.now) c.args.levels in
    let scope = scope_of c.args.state.now.labels.entries in
    let version = c.args.declared.now.version in
    let d = view c.args.step.now in
    let start = c.args.state.now.counts in
    let list = c.in_ok-list.ensures in
    let next = c.parallel_head.new.counts in
    let unmet = rw (list.children, c.no_labels-earlier.ensures) at c.in-Err.ensures.unmet in
    parallel_after_head version places scope d start next list.met
    ∙ found_in next (member_named (codes "parallel")) (children_placed version places scope [] 0 (children_in d)) nothing c.in-Err.unmet
    c.in_member.result c.in_member.ensures unmet other

pub read_parallel-returns-in_err-step-clause-unmet : goal.read_parallel-returns-in_err-step-clause-unmet
read_parallel-returns-in_err-step-clause-unmet t c =
    let places = block_placed (setting_of c.args.declared.now) c.args.levels in
    let scope = scope_of c.args.state.now.labels.entries in
    let version = c.args.declared.now.version in
    let d = view c.args.step.now in
    let start = c.args.state.now.counts in
    refused c.from_residual-in_err-step.result start (parallel_placed version places scope d)
    c.from_residual-in_err-step.ensures.1

pub read_parallel-returns-clause-met : goal.read_parallel-returns-clause-met
read_parallel-returns-clause-met t c =
    let places = block_placed (setting_of c.args.declared.now) c.args.levels in
    let scope = scope_of c.args.state.now.labels.entries in
    let version = c.args.declared.now.version in
    let d = view c.args.step.now in
    let start = c.args.state.now.counts in
    let list = c.in_ok-list.ensures in
    let next = c.parallel_head.new.counts in
    let met = rw (list.children, c.no_labels-earlier.ensures) at c.in-Ok.ensures.met in
    parallel_after_head version places scope d start next list.met
    ∙ part_met next c.read_children.new.state.counts (member_named (codes "parallel"))
    (children_placed version places scope [] 0 (children_in d)) nothing met

pub read_parallel-returns-clause-value : goal.read_parallel-returns-clause-value
unfolding parallel_of
read_parallel-returns-clause-value t c =
    let setting = setting_of c.args.declared.now in
    let block = block_of setting c.args.levels in
    let scope = scope_of c.args.state.now.labels.entries in
    let numbers = numbers_of c.args.state.now.numbering in
    let make = λ (children : List Tried). tree.Parallel (children_of children) in
    ap (λ (step : tree.Step). (step, numbers_of c.read_children.new.state.numbering)) c.in_ok-step.ensures.value
    ∙ ap (spelled_map make) c.in-Ok.ensures.value
    ∙ ap (λ ds. spelled_map make (children_spelled block scope numbers ds)) c.in_ok-list.ensures.children

pub read_parallel-returns-clause-labels : goal.read_parallel-returns-clause-labels
read_parallel-returns-clause-labels t c =
    c.in_ok-step.ensures.labels
    ∙ ap₂ with_labels (c.in-Ok.ensures.earlier ∙ ap₂ labels_of c.no_labels-earlier.ensures c.in_ok-list.ensures.children)
    c.in-Ok.ensures.labels

pub read_sub_step-returns-in_err-child-clause-unmet : goal.read_sub_step-returns-in_err-child-clause-unmet
read_sub_step-returns-in_err-child-clause-unmet t c =
    let places = block_placed (setting_of c.args.declared.now) c.args.levels in
    let scope = scope_of c.args.state.now.labels.entries in
    passed_on c.from_residual.result
    (IsFound c.args.state.now.counts (sub_placed c.args.declared.now.version places scope [] (view c.args.step.now)))
    c.in_err-child.field-0.0 c.from_residual.ensures.1 c.in_err-child.ensures.unmet

pub read_sub_step-returns-in_err-step-clause-unmet : goal.read_sub_step-returns-in_err-step-clause-unmet
read_sub_step-returns-in_err-step-clause-unmet t c =
    let places = block_placed (setting_of c.args.declared.now) c.args.levels in
    let scope = scope_of c.args.state.now.labels.entries in
    refused c.from_residual-in_err-step.result c.args.state.now.counts
    (sub_placed c.args.declared.now.version places scope [] (view c.args.step.now))
    c.from_residual-in_err-step.ensures.1

pub read_sub_step-returns-clause-value : goal.read_sub_step-returns-clause-value
read_sub_step-returns-clause-value t c =
    ap (λ (step : tree.Step). (step, numbers_of c.read_sub.new.state.numbering)) c.in_ok-step.ensures.value
    ∙ ap (spelled_map sub_step) c.in_ok-child.ensures.value

pub read_sub_step-returns-clause-labels : goal.read_sub_step-returns-clause-labels
read_sub_step-returns-clause-labels t c =
    c.in_ok-step.ensures.labels ∙ ap₂ (λ o (s : Scope). with_label o Outcome s) c.text_member.ensures c.in_ok-child.ensures.labels

pub read_if-returns-in_err-then-clause-unmet : goal.read_if-returns-in_err-then-clause-unmet
read_if-returns-in_err-then-clause-unmet t c =
    let places = block_placed (setting_of c.args.declared.now) c.args.levels in
    let scope = scope_of c.args.state.now.labels.entries in
    let version = c.args.declared.now.version in
    let d = view c.args.step.now in
    let start = c.args.state.now.counts in
    let head = c.in_ok-head.ensures in
    let unmet = c.in_err-then.field-0.0 in
    passed_on c.from_residual-in_err-then.result (IsFound start (if_placed version places scope d)) unmet
    c.from_residual-in_err-then.ensures.1
    (λ other. if_then_failed version places scope d start c.if_head.new.state.counts (found_of unmet) head.met
    (rw (head.then, head.labels) at (c.in_err-then.ensures.unmet other)))

pub read_if-returns-in_err-otherwise-clause-unmet : goal.read_if-returns-in_err-otherwise-clause-unmet
read_if-returns-in_err-otherwise-clause-unmet t c =
    let places = block_placed (setting_of c.args.declared.now) c.args.levels in
    let scope = scope_of c.args.state.now.labels.entries in
    let version = c.args.declared.now.version in
    let d = view c.args.step.now in
    let start = c.args.state.now.counts in
    let head = c.in_ok-head.ensures in
    let done = c.in_ok-then.ensures in
    let unmet = c.in_err-otherwise.field-0.0 in
    passed_on c.from_residual-in_err-otherwise.result (IsFound start (if_placed version places scope d)) unmet
    c.from_residual-in_err-otherwise.ensures.1
    (λ other. if_else_failed version places scope d start c.if_head.new.state.counts c.read_part.new.state.counts (found_of unmet) head.met
    (rw (head.then, head.labels) at done.met)
    (rw (done.labels, head.labels, c.get.ensures) at (c.in_err-otherwise.ensures.unmet other)))

pub read_sub-returns-in_err-body-clause-unmet : goal.read_sub-returns-in_err-body-clause-unmet
read_sub-returns-in_err-body-clause-unmet t c =
    let places = block_placed (setting_of c.args.declared.now) c.args.levels in
    let scope = scope_of c.args.state.now.labels.entries in
    let version = c.args.declared.now.version in
    let d = view c.args.step.now in
    let start = c.args.state.now.counts in
    let head = c.in_ok-head.ensures in
    let unmet = c.in_err-body.field-0.0 in
    passed_on c.from_residual-in_err-body.result (IsFound start (sub_placed version places scope _ d)) unmet
    c.from_residual-in_err-body.ensures.1
    (λ other. sub_body_failed version places scope _ d start c.sub_head.new.counts (found_of unmet) head.met
    (rw head.body at (c.in_err-body.ensures.unmet other)))

pub read_sub-returns-in_err-handlers-clause-unmet : goal.read_sub-returns-in_err-handlers-clause-unmet
read_sub-returns-in_err-handlers-clause-unmet t c =
    let places = block_placed (setting_of c.args.declared.now) c.args.levels in
    let scope = scope_of c.args.state.now.labels.entries in
    let version = c.args.declared.now.version in
    let d = view c.args.step.now in
    let start = c.args.state.now.counts in
    let head = c.in_ok-head.ensures in
    let done = c.in_ok-body.ensures in
    let unmet = c.in_err-handlers.field-0.0 in
    passed_on c.from_residual-in_err-handlers.result (IsFound start (sub_placed version places scope _ d)) unmet
    c.from_residual-in_err-handlers.ensures.1
    (λ other. sub_handlers_failed version places scope _ d start c.sub_head.new.counts c.read_part.new.state.counts (found_of unmet)
    head.met (rw head.body at done.met) (rw (done.labels, head.handlers) at (c.in_err-handlers.ensures.unmet other)))

pub read_sub-returns-in_err-handler-clause-unmet : goal.read_sub-returns-in_err-handler-clause-unmet
read_sub-returns-in_err-handler-clause-unmet t c =
    let places = block_placed (setting_of c.args.declared.now) c.args.levels in
    let scope = scope_of c.args.state.now.labels.entries in
    let version = c.args.declared.now.version in
    let d = view c.args.step.now in
    let start = c.args.state.now.counts in
    let head = c.in_ok-head.ensures in
    let done = c.in_ok-body.ensures in
    let taken = c.in_ok-handlers.ensures in
    let unmet = c.in_err-handler.field-0.0 in
    passed_on c.from_residual-in_err-handler.result (IsFound start (sub_placed version places scope _ d)) unmet
    c.from_residual-in_err-handler.ensures.1
    (λ other. sub_handler_failed version places scope _ d start c.sub_head.new.counts c.read_part.new.state.counts
    c.read_handlers.new.state.counts (found_of unmet) head.met (rw head.body at done.met) (rw (done.labels, head.handlers) at taken.met)
    (rw (taken.labels, done.labels, c.get.ensures) at (c.in_err-handler.ensures.unmet other)))

pub read_if-returns-in_err-head-clause-unmet : goal.read_if-returns-in_err-head-clause-unmet
read_if-returns-in_err-head-clause-unmet t c =
    let places = block_placed (setting_of c.args.declared.now) c.args.levels in
    let scope = scope_of c.args.state.now.labels.entries in
    let version = c.args.declared.now.version in
    let d = view c.args.step.now in
    let start = c.args.state.now.counts in
    let e = c.in_err-head.field-0.0 in
    raised c.from_residual.result start (if_placed version places scope d) e c.from_residual.ensures.1
    (λ other. if_head_failed version places scope d start e (c.in_err-head.ensures.first other))

pub read_sub-returns-in_err-head-clause-unmet : goal.read_sub-returns-in_err-head-clause-unmet
read_sub-returns-in_err-head-clause-unmet t c =
    let places = block_placed (setting_of c.args.declared.now) c.args.levels in
    let scope = scope_of c.args.state.now.labels.entries in
    let version = c.args.declared.now.version in
    let d = view c.args.step.now in
    let start = c.args.state.now.counts in
    let e = c.in_err-head.field-0.0 in
    raised c.from_residual.result start (sub_placed version places scope _ d) e c.from_residual.ensures.1
    (λ other. sub_head_failed version places scope _ d start e (c.in_err-head.ensures.first other))

pub read_if-returns-in_err-step-clause-unmet : goal.read_if-returns-in_err-step-clause-unmet
read_if-returns-in_err-step-clause-unmet t c =
    let places = block_placed (setting_of c.args.declared.now) c.args.levels in
    let scope = scope_of c.args.state.now.labels.entries in
    let version = c.args.declared.now.version in
    let d = view c.args.step.now in
    let start = c.args.state.now.counts in
    refused c.from_residual-in_err-step.result start (if_placed version places scope d)
    c.from_residual-in_err-step.ensures.1

pub read_if-returns-clause-met : goal.read_if-returns-clause-met
read_if-returns-clause-met t c =
    let places = block_placed (setting_of c.args.declared.now) c.args.levels in
    let scope = scope_of c.args.state.now.labels.entries in
    let version = c.args.declared.now.version in
    let head = c.in_ok-head.ensures in
    let done = c.in_ok-then.ensures in
    if_parts_met version places scope (view c.args.step.now) c.args.state.now.counts c.if_head.new.state.counts
    c.read_part.new.state.counts c.read_part_if.new.state.counts head.met (rw (head.then, head.labels) at done.met)
    (rw (done.labels, head.labels, c.get.ensures) at c.in_ok-otherwise.ensures.met)

pub read_if-returns-clause-value : goal.read_if-returns-clause-value
read_if-returns-clause-value t c =
    let block = block_of (setting_of c.args.declared.now) c.args.levels in
    let scope = scope_of c.args.state.now.labels.entries in
    let head = c.in_ok-head.ensures in
    let done = c.in_ok-then.ensures in
    let last = numbers_of c.read_part_if.new.state.numbering in
    ap (λ (step : tree.Step). (step, last)) c.in_ok-step.ensures.value
    ∙ if_read block scope (view c.args.step.now) (numbers_of c.args.state.now.numbering) (numbers_of c.if_head.new.state.numbering)
    (numbers_of c.read_part.new.state.numbering) last c.in_ok-head.head.label c.in_ok-head.head.test (block_view c.in_ok-then.then)
    (option_map block_view c.in_ok-otherwise.otherwise) head.label head.test (rw (head.then, head.labels) at done.value)
    (rw (done.labels, head.labels, c.get.ensures) at c.in_ok-otherwise.ensures.value)

pub read_sub-returns-clause-met : goal.read_sub-returns-clause-met
read_sub-returns-clause-met t c =
    let places = block_placed (setting_of c.args.declared.now) c.args.levels in
    let scope = scope_of c.args.state.now.labels.entries in
    let head = c.in_ok-head.ensures in
    let done = c.in_ok-body.ensures in
    let taken = c.in_ok-handlers.ensures in
    sub_parts_met c.args.declared.now.version places scope _ (view c.args.step.now) c.args.state.now.counts c.sub_head.new.counts
    c.read_part.new.state.counts c.read_handlers.new.state.counts c.read_part_if.new.state.counts head.met
    (rw head.body at done.met) (rw (done.labels, head.handlers) at taken.met)
    (rw (taken.labels, done.labels, c.get.ensures) at c.in_ok-handler.ensures.met)

pub read_sub-returns-clause-value : goal.read_sub-returns-clause-value
read_sub-returns-clause-value t c =
    let block = block_of (setting_of c.args.declared.now) c.args.levels in
    let scope = scope_of c.args.state.now.labels.entries in
    let head = c.in_ok-head.ensures in
    let done = c.in_ok-body.ensures in
    let taken = c.in_ok-handlers.ensures in
    let last = numbers_of c.read_part_if.new.state.numbering in
    let b = block_view c.in_ok-body.body in
    let hs = option_map {T = Vec Handler Global} (λ list. map handler_view list.items) c.in_ok-handlers.handlers in
    let h = option_map block_view c.in_ok-handler.handler in
    let flag : c.is_some-labelled.result ≡ is_some (label_in (view c.args.step.now)) = grind (arith, rules) in
    ap (λ (child : Tried). (child, last)) (c.subaction_of.ensures ∙ ap (tried b hs h) flag)
    ∙ sub_read block scope (view c.args.step.now) (numbers_of c.args.state.now.numbering) (numbers_of c.read_part.new.state.numbering)
    (numbers_of c.read_handlers.new.state.numbering) last b hs h (rw head.body at done.value)
    (rw (done.labels, head.handlers) at taken.value)
    (rw (taken.labels, done.labels, c.get.ensures) at c.in_ok-handler.ensures.value)
