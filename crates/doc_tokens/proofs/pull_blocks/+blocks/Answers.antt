use Rattle.std.proofs.Common.{◌≡◌, ℕ, true, List, [], ◌∷◌, ◌++◌, Some, None, map, length, refl, sym, subst, ap, ap₂, ◌∙◌, ◌+◌, ◌*◌}
use Rattle.std.proofs.Common.{append-nil, arith, rules, ◌-◌, suc, option_map, Vec, Global}
use Rattle.std.proofs.lemmas.List.{append_assoc, length-append, length-map, map-append}
use Rattle.json.specs.Json.{after_end_array, read_key}
use Rattle.serde_json.specs.Data.{no_items, array, no_members, object, member, put, string}
use Rattle.meaning.specs.Trees as tree
use Rattle.batch.specs.Views.{block_view, step_view, steps_of, Tried, handler_view, subaction_view, children_of}
use Rattle.doc_tree.specs.Asked.{label_asked, label_in}
use Rattle.doc_tree.specs.Asked.{labels_of}
use Rattle.doc_tree.specs.Demand.{holds, one_more_node}
use Rattle.doc_tree.specs.Scope.{AreUnseen, Numbers, Scope, Table, number_of, numbers_of, scope_of, setting_of, with_label}
use Rattle.doc_tree.specs.Scope.{with_labels, with_text}
use Rattle.doc_tree.specs.Spelled.{block_of, spelled_map, member_of, members_of, sub_step, tried}
use Rattle.doc_tree.specs.Spelled.{block_of_if, or_no_step}
use Rattle.doc_tokens.specs.Pulled.{IsAfter, ReadsValue, sub_members, ReadsMembers, first_key, if_step, test_key, with_else}
use Rattle.doc_tokens.specs.PulledBlocks.{SpellsBlock, SpellsChildren, SpellsStep, SpellsSteps, SpellsSub, SubTail}
use Rattle.doc_tokens.proofs.PulledSteps.{plain_step, step_begun, steps_more}
use Rattle.doc_tree.specs.declared.state.ReaderState.{ReaderState}
use Rattle.batch.specs.declared.tree.Step.{Step}
use Rattle.batch.specs.declared.tree.Subaction.{Subaction}
use Rattle.doc_tree.proofs.ListLemmas.{in_front, in_front_none, in_front_push}
use Rattle.doc_tokens.proofs.PulledLemmas.{IfOk_then, reads_no_items, reads_shorter, reads_array, reads_deeper}
use Rattle.doc_tokens.proofs.PulledLemmas.{reads_member, reads_no_members, reads_object}
use Rattle.json.specs.Token.{Token}
use Rattle.batch.specs.declared.tree.Block.{roll-Block}
use Rattle.batch.proofs.ViewLemmas.{block_view-is}
use Rattle.doc_tree.proofs.BlockLemmas.{block_asks, block_spells}
use Rattle.std.specs.Prelude.{codes, is_some}
use Rattle.json.proofs.Grammar.{read_key-shorter}
use Rattle.batch.specs.declared.tree.Handler.{Handler, roll-Handler, the_lemmas as handler_lemmas}
use Rattle.doc_tree.specs.Answer.{AreMet, IsMet}
use Rattle.doc_tokens.proofs.PulledSubs.{children_more, label_anywhere, parallel_met, parallel_scope, parallel_spelled, parallel_step}
use Rattle.doc_tokens.proofs.PulledSubs.{sub_label, sub_met, sub_sort, sub_spelled, sub_step_met, sub_step_scope, sub_step_spelled}
use Rattle.doc_tokens.proofs.PulledSubs.{tail_handler, tail_handlers, tail_label, tail_none}
use Rattle.doc_rules.specs.declared.subject.Subject.TheVariants.{Outcome}
use Rattle.batch.specs.Names.{is_name, texts_of}
use Rattle.doc_rules.specs.declared.rule.NameRule.TheVariants.{Handlers}
use Rattle.doc_rules.specs.declared.rule.Rule.TheVariants.{Name}
use Rattle.doc_tokens.proofs.PulledHandlers.{after_both, put_after}
use Rattle.doc_tokens.proofs.PulledTests.{if_met, if_scope, if_spelled}
use Rattle.doc_tree.specs.Places.{block_placed, block_placed_if, children_placed, inside, member_named, member_placed}
use Rattle.doc_tree.specs.Places.{members_placed, nothing, seek}
use Rattle.doc_tree.proofs.PlaceLemmas.{member_met, own_first, part_met}
use Rattle.doc_tokens.proofs.pull_blocks.+blocks.Goals as goal

pub pull_steps-loop-steps-init : goal.pull_steps-loop-steps-init
pull_steps-loop-steps-init t c =
    let p : ReaderState = record c.args.state.now { spares = c.spare_list-steps.new.spares } in
    subst (λ (xs : List Step). (new : List Token) (q : ReaderState) (rest : List Step)
    → SpellsSteps (length xs) c.args.levels c.args.declared.now c.args.reader.now new p q rest
    → SpellsSteps 0 c.args.levels c.args.declared.now c.args.reader.now new p q (xs ++ rest))
    (sym c.spare_list-steps.ensures) (λ new q rest w. w)

pub pull_steps-loop-steps-smaller : goal.pull_steps-loop-steps-smaller
pull_steps-loop-steps-smaller t c =
    let going : (after_end_array c.loop-steps.reader ≡ None) × (c.take_end_array.new.self ≡ c.loop-steps.reader) = grind arith in
    let done = c.in_ok-pull_step.ensures in
    let less = reads_shorter (5 * c.args.levels + 4) _ done.value _ done.reads in
    omega (arith, less, ap length going.1)

pub pull_steps-loop-steps-preserved : goal.pull_steps-loop-steps-preserved
pull_steps-loop-steps-preserved t c new q rest w =
    let l = c.loop-steps in
    let p : ReaderState = record c.args.state.now { spares = c.spare_list-steps.new.spares } in
    let levels = c.args.levels in
    let declared = c.args.declared.now in
    let going : (after_end_array l.reader ≡ None) × (c.take_end_array.new.self ≡ l.reader) = grind arith in
    let read = c.pull_step.new in
    let x = c.in_ok-pull_step.field-0 in
    let items = l.steps.items in
    let pushed : c.push.new.self.items ≡ items ++ x ∷ [] = grind (arith, rules) in
    let first = subst (λ ts. SpellsStep (5 * levels + 4) levels declared ts read.reader l.state read.state x) going.1
    c.in_ok-pull_step.ensures in
    let later = subst (λ i. SpellsSteps i levels declared read.reader new read.state q rest)
    (ap length pushed ∙ length-append items (x ∷ [])) w in
    subst (λ (xs : List Step). SpellsSteps 0 levels declared c.args.reader.now new p q xs)
    (sym (append_assoc items (x ∷ []) rest) ∙ ap (λ xs. xs ++ rest) (sym pushed))
    (l.invariant new q (x ∷ rest) (steps_more (length items) levels declared l.reader read.reader new l.state read.state q x rest going.0
    first later))

pub pull_steps-returns : goal.pull_steps-returns
pull_steps-returns t c =
    let l = c.loop-steps in
    let new = c.take_end_array.new.self in
    let closed : after_end_array l.reader ≡ Some new = grind arith in
    let whole = l.invariant new l.state [] (record {
      value = no_items;
      reads = reads_no_items (5 * c.args.levels + 4) l.reader new closed;
      met = refl;
      spelled = refl;
      extends = ([], sym (append-nil _));
    }) in record {
      value = whole.value;
      reads = whole.reads;
      met = whole.met;
      spelled = ap (λ (xs : List Step). (map step_view xs, numbers_of l.state.numbering))
          (c.in_ok-exact_list.ensures ∙ sym (append-nil l.steps.items)) ∙ whole.spelled;
      extends = whole.extends;
    }

pub pull_block_begun-returns : goal.pull_block_begun-returns
pull_block_begun-returns t c =
    let setting = setting_of c.args.declared.now in
    let scope = scope_of c.args.state.now.labels.entries in
    let levels = c.args.levels in
    let done = c.in_ok-steps.ensures in
    let ds = done.value in
    let d = array ds in
    let new = c.pull_steps.new.reader in
    let shown = block_view-is (roll-Block (record { steps = c.in_ok-steps.steps })) in record {
      value = d;
      reads = reads_deeper (suc (5 * (levels - 1) + 4)) (5 * levels) _ d new (omega arith)
          (reads_array (5 * (levels - 1) + 4) c.args.reader.now ds new done.reads);
      met = ap (seek c.args.state.now.counts) (block_asks setting scope d (levels - 1) levels ds (omega arith) refl) ∙ done.met;
      spelled = ap (λ (b : tree.Block). (b, numbers_of c.pull_steps.new.state.numbering)) shown ∙ ap (spelled_map steps_of) done.spelled
          ∙ sym (block_spells setting scope d (levels - 1) levels (numbers_of c.args.state.now.numbering) ds (omega arith) refl);
      scope = c.leave_block.ensures scope done.extends (length-map c.args.state.now.labels.entries _ ∙ sym c.len-seen.ensures.len);
    }

pub pull_block-returns : goal.pull_block-returns
pull_block-returns t c =
    let new = c.pull_block_begun.new in
    let tokens : c.args.reader.now ≡ Token.begin_array ∷ c.pull_begin_array.new.reader = grind (arith, rules) in
    IfOk_then c.pull_block_begun.result c.pull_block_begun.ensures
    (λ block. subst (λ ts. SpellsBlock c.args.levels c.args.declared.now ts new.reader c.args.state.now new.state block) (sym tokens))

pub pull_handler-returns : goal.pull_handler-returns
pull_handler-returns t c =
    let version = c.args.declared.now.version in
    let setting = setting_of c.args.declared.now in
    let places = block_placed setting c.args.levels in
    let scope = scope_of c.args.state.now.labels.entries in
    let start = c.args.state.now.counts in
    let numbers = numbers_of c.args.state.now.numbering in
    let reason = c.args.reason.now in
    let done = c.in_ok-block.ensures in
    let d = done.value in
    let b = c.in_ok-block.block in
    let named : is_name version reason ≡ true = grind (arith, rules) in
    let numbered : c.in_ok-number.number ≡ number_of reason numbers.reasons = grind (arith, rules) in
    let joined : texts_of c.reason_number.new.reasons.keys ≡ with_text reason numbers.reasons = grind (arith, rules) in
    let after = numbers_of c.pull_block.new.state.numbering in
    let n = c.in_ok-number.number in
    let shown : handler_view (roll-Handler (record { reason = n; block = b })) ≡ (n, block_view b) = search (rules, handler_lemmas) in (
      d,
      done.reads,
      own_first start start (holds (is_name version reason) (Name version Handlers) ∷ [])
          (inside (member_named reason) (places scope d) nothing) (rw named refl)
          ∙ part_met start c.pull_block.new.state.counts (member_named reason) (places scope d) nothing done.met,
      ap (λ (v : ℕ × tree.Block). (v, after)) shown ∙ ap (spelled_map (λ (x : tree.Block). (n, x))) done.spelled
          ∙ ap₂ (λ m (ts : Table). spelled_map (λ (x : tree.Block). (m, x)) (block_of setting c.args.levels scope (record {
            items = numbers.items;
            reasons = ts;
          }) d)) numbered joined,
      done.scope,
    )

pub pull_ascending-loop-handlers-init : goal.pull_ascending-loop-handlers-init
pull_ascending-loop-handlers-init t c =
    let none : c.new-handlers.result.items ≡ [] = c.new-handlers.ensures.items in (
      λ ds. ds,
      λ ms new reads. reads,
      λ reason d ds after. refl,
      λ ds. refl,
      λ ds. ap (λ (vs : List _). in_front (map handler_view vs)
          (members_of (block_of (setting_of c.args.declared.now) c.args.levels) (scope_of c.args.state.now.labels.entries)
          (numbers_of c.args.state.now.numbering) ds)) (sym none),
      refl,
    )

pub pull_ascending-loop-handlers-smaller : goal.pull_ascending-loop-handlers-smaller
pull_ascending-loop-handlers-smaller t c =
    let keyed : read_key c.loop-handlers.reader ≡ Some (Some c.in-Some.reason.now, c.next_key.new.self) = grind (arith, rules) in
    let done = c.in_ok-pull_handler.ensures in
    omega (arith, reads_shorter (5 * c.args.levels) _ done.0 _ done.1, read_key-shorter _ _ _ keyed)

pub pull_ascending-loop-handlers-preserved : goal.pull_ascending-loop-handlers-preserved
pull_ascending-loop-handlers-preserved t c =
    let l = c.loop-handlers in
    let k = 5 * c.args.levels in
    let version = c.args.declared.now.version in
    let setting = setting_of c.args.declared.now in
    let places = block_placed setting c.args.levels in
    let block = block_of setting c.args.levels in
    let scope = scope_of c.args.state.now.labels.entries in
    let inside = c.next_key.new.self in
    let left = c.pull_handler.new.reader in
    let reason = c.in-Some.reason.now in
    let done = c.in_ok-pull_handler.ensures in
    let d = done.0 in
    let counts = c.pull_handler.new.state.counts in
    let after = numbers_of c.pull_handler.new.state.numbering in
    let read = map handler_view l.handlers.items in
    let x = c.in_ok-pull_handler.field-0 in
    let keyed : read_key l.reader ≡ Some (Some reason, inside) = grind (arith, rules) in
    let ascends : c.is_after.result ≡ true = grind (arith, rules) in
    let behind : IsAfter reason (option_map (λ text. text.now) l.before) = c.is_after.ensures ascends in
    let pushed : c.push.new.self.items ≡ l.handlers.items ++ x ∷ [] = grind (arith, rules) in
    let met = subst (λ s. AreMet l.state.counts (member_placed version places s reason d nothing) counts) l.invariant.5 done.2 in
    let value = subst (λ s. (handler_view x, after) ≡ member_of block s (numbers_of l.state.numbering) reason d) l.invariant.5 done.3 in
    let put_last = l.invariant.2 reason d no_members behind in (
      λ ds. l.invariant.0 (member reason d ds),
      λ ms new reads. l.invariant.1 ms new
          (reads_member k (l.invariant.0 no_members) reason l.reader inside left new d ms keyed (read_key-shorter _ _ _ keyed) done.1
          (subst (λ found. ReadsMembers k found left ms new) (sym put_last) reads)),
      λ next e ds later. l.invariant.2 next e (member reason d ds)
          (after_both (option_map (λ text. text.now) l.before) reason next behind later)
          ∙ ap l.invariant.0 (put_after reason next d e ds later),
      λ ds. l.invariant.3 (member reason d ds)
          ∙ member_met l.state.counts version places scope reason d (members_placed version places scope ds) counts met,
      λ ds. l.invariant.4 (member reason d ds)
          ∙ ap (λ (p : (ℕ × tree.Block) × Numbers). in_front read
          (p.0 ∷ (members_of block scope p.1 ds).0, (members_of block scope p.1 ds).1))
          (sym value)
          ∙ sym (in_front_push read (handler_view x) (members_of block scope after ds))
          ∙ ap (λ ys. in_front ys (members_of block scope after ds))
          (sym (map-append handler_view l.handlers.items (x ∷ [])) ∙ ap (map handler_view) (sym pushed)),
      done.4 ∙ l.invariant.5,
    )

pub pull_ascending-returns : goal.pull_ascending-returns
pull_ascending-returns t c =
    let l = c.loop-handlers in
    let k = 5 * c.args.levels in
    let closed : read_key l.reader ≡ Some (None, c.next_key.new.self) = grind (arith, rules) in record {
      value = l.invariant.0 no_members;
      reads = l.invariant.1 (l.invariant.0 no_members) _ (reads_no_members k (l.invariant.0 no_members) l.reader _ closed);
      met = l.invariant.3 no_members;
      spelled = ap (λ (vs : List _). (map handler_view vs, numbers_of l.state.numbering)) c.shrink_to_fit.ensures.items
          ∙ sym (l.invariant.4 no_members ∙ in_front_none (map handler_view l.handlers.items) (numbers_of l.state.numbering));
      scope = l.invariant.5;
    }

pub pull_handlers-returns-in-Any : goal.pull_handlers-returns-in-Any
pull_handlers-returns-in-Any t c =
    let tokens : c.args.reader.now ≡ Token.begin_object ∷ c.pull_begin_object.new.reader = grind (arith, rules) in
    IfOk_then c.pull_sorted.result c.pull_sorted.ensures (λ handlers w. (_, tokens, omega (arith, c.if-declared-lt3.false), w))

pub pull_handlers-returns-in-Ascending : goal.pull_handlers-returns-in-Ascending
pull_handlers-returns-in-Ascending t c =
    let tokens : c.args.reader.now ≡ Token.begin_object ∷ c.pull_begin_object.new.reader = grind (arith, rules) in
    IfOk_then c.pull_ascending.result c.pull_ascending.ensures (λ handlers w. (_, tokens, omega (arith, c.if-declared-lt3.false), w))

pub pull_sub_rest-loop-handler-init : goal.pull_sub_rest-loop-handler-init
pull_sub_rest-loop-handler-init t c = tail_none _ _ _ _ _ refl

pub pull_sub_rest-loop-handler-preserved-then-is_none : goal.pull_sub_rest-loop-handler-preserved-then-is_none
pull_sub_rest-loop-handler-preserved-then-is_none t c =
    let l = c.loop-handler in
    let left = c.pull_text.new.reader in
    let s = c.in_ok-pull_text.field-0.now in
    let keyed : read_key l.reader ≡ Some (Some c.in-Some.name.now, c.next_key.new.self) = grind (arith, rules) in
    let named : c.in-Some.name.now ≡ codes "as" = grind (arith, rules) in
    let text : c.next_key.new.self ≡ Token.string s ∷ left = grind (arith, rules) in
    let none : option_map (λ text. text.now) l.label ≡ None = grind (arith, rules) in
    tail_label _ _ _ _ _ _ l.reader _ _ _ s left none (keyed ∙ ap₂ (λ n (ts : List Token). Some (Some n, ts)) named text) l.invariant

pub pull_sub_rest-loop-handler-preserved-then-is_none-2 : goal.pull_sub_rest-loop-handler-preserved-then-is_none-2
pull_sub_rest-loop-handler-preserved-then-is_none-2 t c =
    let l = c.loop-handler in
    let inside = c.next_key.new.self in
    let keyed : read_key l.reader ≡ Some (Some c.in-Some.name.now, inside) = grind (arith, rules) in
    let named : c.in-Some.name.now ≡ codes "handler" = grind (arith, rules) in
    let none : option_map block_view l.handler ≡ None = grind (arith, rules) in
    tail_handler _ _ _ _ _ _ l.reader _ _ _ c.in_ok-pull_block.field-0 inside c.pull_block.new.reader _
    (keyed ∙ ap (λ n. Some (Some n, inside)) named) c.in_ok-pull_block.ensures none l.invariant

pub pull_sub_rest-loop-handler-smaller-then-is_none-2 : goal.pull_sub_rest-loop-handler-smaller-then-is_none-2
pull_sub_rest-loop-handler-smaller-then-is_none-2 t c =
    let keyed : read_key c.loop-handler.reader ≡ Some (Some c.in-Some.name.now, c.next_key.new.self) = grind (arith, rules) in
    let done = c.in_ok-pull_block.ensures in
    omega (arith, reads_shorter (5 * c.args.levels) _ done.value _ done.reads, read_key-shorter _ _ _ keyed)

pub pull_sub_rest-loop-handler-preserved : goal.pull_sub_rest-loop-handler-preserved
pull_sub_rest-loop-handler-preserved t c =
    let l = c.loop-handler in
    let done = c.in_ok-pull_handlers.ensures in
    let keyed : read_key l.reader ≡ Some (Some c.in-Some.name.now, c.next_key.new.self) = grind (arith, rules) in
    let named : c.in-Some.name.now ≡ codes "handlers" = grind (arith, rules) in
    let none : option_map block_view l.handler ≡ None = grind (arith, rules) in
    let empty : option_map {T = Vec Handler Global} (λ list. map handler_view list.items) l.handlers ≡ None = grind (arith, rules) in
    tail_handlers _ _ _ _ _ _ l.reader _ _ _ c.in_ok-pull_handlers.field-0.items done.0 c.pull_handlers.new.reader _
    (keyed ∙ ap₂ (λ n (ts : List Token). Some (Some n, ts)) named done.1) done.2 done.3 empty none l.invariant

pub pull_sub_rest-loop-handler-smaller : goal.pull_sub_rest-loop-handler-smaller
pull_sub_rest-loop-handler-smaller t c =
    let keyed : read_key c.loop-handler.reader ≡ Some (Some c.in-Some.name.now, c.next_key.new.self) = grind (arith, rules) in
    let done = c.in_ok-pull_handlers.ensures in
    let reads = reads_object (5 * c.args.levels) done.0 done.3.value _ done.3.reads in
    omega (arith, ap length done.1, reads_shorter _ _ (object done.3.value) _ reads, read_key-shorter _ _ _ keyed)

pub pull_sub-returns : goal.pull_sub-returns
pull_sub-returns t c =
    let k = 5 * c.args.levels + 1 in
    let version = c.args.declared.now.version in
    let setting = setting_of c.args.declared.now in
    let places = block_placed setting c.args.levels in
    let block = block_of setting c.args.levels in
    let scope = scope_of c.args.state.now.labels.entries in
    let start = c.args.state.now.counts in
    let counted = c.one_more_node.new.self in
    let inside = c.pull_block.new.state.counts in
    let next = c.pull_sub_rest.new.state.counts in
    let numbers = numbers_of c.args.state.now.numbering in
    let last = numbers_of c.pull_sub_rest.new.state.numbering in
    let old = c.args.reader.now in
    let mid = c.pull_block.new.reader in
    let new = c.pull_sub_rest.new.reader in
    let rest = c.in_ok-rest.rest in
    let done = c.in_ok-body.ensures in
    let behind = c.in_ok-rest.ensures in
    let label = option_map (λ text. text.now) rest.label in
    let handlers = option_map {T = Vec Handler Global} (λ list. map handler_view list.items) rest.handlers in
    let handler = option_map block_view rest.handler in
    let b = done.value in
    let tail = subst (λ s. SubTail c.args.levels c.args.declared.now s mid c.pull_block.new.state handlers handler label behind.0
    c.pull_sub_rest.new.state) done.scope behind.1 in
    let ms = sub_members b tail.reasons tail.every label in
    let one : IsMet start (one_more_node version ∷ []) counted = grind (arith, rules) in
    let members = reads_member k no_members (codes "sub") (Token.key (codes "sub") ∷ old) old mid new b ms refl (omega arith)
    (reads_deeper (5 * c.args.levels) k old b mid (omega arith) done.reads)
    (tail.reads b ms new (reads_no_members k ms behind.0 new behind.2)) in
    let flag : c.is_some.result ≡ is_some label = grind (arith, rules) in
    let shown = c.subaction_of-read.ensures ∙ ap (tried (block_view c.in_ok-body.body) handlers handler) flag in record {
      value = object ms;
      reads = reads_deeper (suc k) (5 * c.args.levels + 2) _ (object ms) new (omega arith)
          (reads_object k (Token.key (codes "sub") ∷ old) ms new members);
      met = λ earlier labels. sub_met version places block scope b tail.reasons tail.every label earlier start counted inside tail.mid next
          tail.allowed one done.met tail.first tail.second
          (label_anywhere version scope earlier (label_in (object ms)) next counted labels);
      spelled = ap (λ (x : Tried). (x, last)) shown
          ∙ sub_spelled version places block scope b tail.reasons tail.every label numbers _ tail.between last
          (block_view c.in_ok-body.body) handlers handler done.spelled tail.reasons_spelled tail.every_spelled;
      named = sym (sub_label b tail.reasons tail.every label);
      sort = sub_sort b tail.reasons tail.every label;
      scope = tail.same;
    }

pub pull_sub_step-returns : goal.pull_sub_step-returns
pull_sub_step-returns t c =
    let version = c.args.declared.now.version in
    let setting = setting_of c.args.declared.now in
    let places = block_placed setting c.args.levels in
    let block = block_of setting c.args.levels in
    let scope = scope_of c.args.state.now.labels.entries in
    let start = c.args.state.now.counts in
    let next = c.pull_sub.new.state.counts in
    let numbers = numbers_of c.args.state.now.numbering in
    let last = numbers_of c.pull_sub.new.state.numbering in
    let done = c.in_ok-read.ensures in
    let d = done.value in
    let label : option_map (λ text. text.now) c.in_ok-read.label ≡ label_in d = done.named in
    let within : scope_of c.pull_sub.new.state.labels.entries ≡ scope = done.scope in
    let named : IsMet next (label_asked version (scope_of c.pull_sub.new.state.labels.entries) [] (option_map
    (λ text. text.now) c.in_ok-read.label)) next = grind (arith, rules) in
    let added : scope_of c.new_sub_step.new.labels.entries ≡ with_label (option_map (λ text. text.now) c.in_ok-read.label) Outcome
    (scope_of c.pull_sub.new.state.labels.entries) = grind (arith, rules) in
    let shown : step_view c.in_ok-step.step ≡ sub_step (subaction_view c.in_ok-read.read) = grind (arith, rules) in
    let allowed = subst (λ s. IsMet next (label_asked version s [] (label_in d)) next) within
    (subst (λ o. IsMet next (label_asked version (scope_of c.pull_sub.new.state.labels.entries) [] o) next) label named) in record {
      value = d;
      reads = done.reads;
      met = sub_step_met setting scope d places start next done.sort (done.met [] allowed);
      spelled = ap (λ (x : tree.Step). (x, last)) shown ∙ ap (spelled_map sub_step) done.spelled
          ∙ sym (sub_step_spelled setting scope d block numbers done.sort);
      scope = added ∙ ap (λ s. with_label (option_map (λ text. text.now) c.in_ok-read.label) Outcome s) within
          ∙ ap (λ o. with_label o Outcome scope) label ∙ sym (sub_step_scope setting scope d done.sort);
    }

pub pull_children-loop-alloc-init : goal.pull_children-loop-alloc-init
pull_children-loop-alloc-init t c =
    subst (λ (xs : List Subaction). (new : List Token) (after : Scope) (q : ReaderState) (rest : List Subaction)
    → SpellsChildren (length xs) c.args.levels c.args.declared.now c.args.reader.now new (scope_of c.args.earlier.now.entries) after
    c.args.state.now q rest
    → SpellsChildren 0 c.args.levels c.args.declared.now c.args.reader.now new (scope_of c.args.earlier.now.entries) after
    c.args.state.now q (xs ++ rest))
    (sym c.new-children.ensures.items) (λ new after q rest w. w)

pub pull_children-loop-alloc-smaller : goal.pull_children-loop-alloc-smaller
pull_children-loop-alloc-smaller t c =
    let l = c.loop-alloc in
    let going : (after_end_array l.reader ≡ None) × (c.take_end_array.new.self ≡ l.reader) = grind arith in
    let begun : c.take_end_array.new.self ≡ Token.begin_object ∷ Token.key (codes "sub") ∷ c.pull_key.new.reader = grind (arith, rules) in
    let done = c.in_ok-child.ensures in
    let less = reads_shorter (5 * c.args.levels + 2) _ done.value _ done.reads in
    omega (arith, less, ap length going.1, ap length begun)

pub pull_children-loop-alloc-preserved : goal.pull_children-loop-alloc-preserved
pull_children-loop-alloc-preserved t c new after q rest w =
    let l = c.loop-alloc in
    let levels = c.args.levels in
    let declared = c.args.declared.now in
    let going : (after_end_array l.reader ≡ None) × (c.take_end_array.new.self ≡ l.reader) = grind arith in
    let begun : c.take_end_array.new.self ≡ first_key (codes "sub") c.pull_key.new.reader = grind (arith, rules) in
    let read = c.pull_sub.new in
    let x = c.in_ok-child.child in
    let label = option_map (λ text. text.now) c.in_ok-child.label in
    let items = l.children.items in
    let earlier = scope_of l.earlier.entries in
    let pushed : c.push.new.self.items ≡ items ++ x ∷ [] = grind (arith, rules) in
    let named : IsMet read.state.counts (label_asked declared.version earlier [] label) read.state.counts = grind (arith, rules) in
    let added : scope_of c.add_new_label.new.labels.entries ≡ with_label label Outcome earlier = grind (arith, rules) in
    let first = subst (λ ts. SpellsSub levels declared ts read.reader l.state read.state x label) (sym begun ∙ going.1)
    c.in_ok-child.ensures in
    let later = subst (λ i. SpellsChildren i levels declared read.reader new (with_label label Outcome earlier) after read.state q rest)
    (ap length pushed ∙ length-append items (x ∷ []))
    (subst (λ (s : Scope). SpellsChildren (length c.push.new.self.items) levels declared read.reader new s after read.state q rest) added
    w) in
    let before = scope_of c.args.earlier.now.entries in
    subst (λ (xs : List Subaction). SpellsChildren 0 levels declared c.args.reader.now new before after c.args.state.now q xs)
    (sym (append_assoc items (x ∷ []) rest) ∙ ap (λ xs. xs ++ rest) (sym pushed))
    (l.invariant new after q (x ∷ rest) (children_more (length items) levels declared l.reader read.reader new earlier after l.state
    read.state q x label rest going.0 first named later))

pub pull_children-returns : goal.pull_children-returns
pull_children-returns t c =
    let l = c.loop-alloc in
    let before = scope_of c.args.earlier.now.entries in
    let after = scope_of l.earlier.entries in
    let new = c.take_end_array.new.self in
    let closed : after_end_array l.reader ≡ Some new = grind arith in
    subst (λ (xs : List Subaction). SpellsChildren 0 c.args.levels c.args.declared.now c.args.reader.now new before after
    c.args.state.now l.state xs)
    (append-nil l.children.items ∙ sym c.shrink_to_fit.ensures.items)
    (l.invariant new after l.state [] (record {
      value = no_items;
      reads = reads_no_items (5 * c.args.levels + 2) l.reader new closed;
      met = λ unseen. refl;
      spelled = refl;
      labels = refl;
      scope = refl;
    }))

pub pull_parallel-returns : goal.pull_parallel-returns
pull_parallel-returns t c =
    let k = 5 * c.args.levels + 3 in
    let setting = setting_of c.args.declared.now in
    let version = c.args.declared.now.version in
    let places = block_placed setting c.args.levels in
    let block = block_of setting c.args.levels in
    let scope = scope_of c.args.state.now.labels.entries in
    let start = c.args.state.now.counts in
    let counted = c.begin_parallel.new.counts in
    let next = c.pull_children.new.state.counts in
    let numbers = numbers_of c.args.state.now.numbering in
    let last = numbers_of c.pull_children.new.state.numbering in
    let inside = c.begin_parallel.new.reader in
    let behind = c.pull_children.new.reader in
    let new = c.end_parallel.new.reader in
    let old = c.args.reader.now in
    let done = c.in_ok-children.ensures in
    let ds = done.value in
    let begun : old ≡ Token.begin_array ∷ inside = grind (arith, rules) in
    let ended = c.in_ok-step.ensures.tokens in
    let one : IsMet start (one_more_node version ∷ []) counted = grind (arith, rules) in
    let empty = c.no_labels-earlier.ensures in
    let found = scope_of c.pull_children.new.earlier.entries in
    let unseen : AreUnseen found scope = subst (λ (s : Scope). AreUnseen found s) done.scope c.in_ok-step.ensures.unseen in
    let met = subst (λ e. AreMet counted (children_placed version places scope e 0 ds) next) empty (done.met unseen) in
    let labels = done.labels ∙ ap (λ (e : Scope). labels_of e ds) empty in
    let added : scope_of c.end_parallel.new.labels.entries ≡ with_labels (scope_of c.pull_children.new.earlier.entries)
    (scope_of c.pull_children.new.state.labels.entries) = grind (arith, rules) in
    let ms = member (codes "parallel") (array ds) no_members in
    let list = subst (λ ts. ReadsValue k ts (array ds) behind) (sym begun)
    (reads_deeper (suc (5 * c.args.levels + 2)) k _ (array ds) behind (omega arith) (reads_array
    (5 * c.args.levels + 2) inside ds behind done.reads)) in
    let members = reads_member k no_members (codes "parallel") (Token.key (codes "parallel") ∷ old) old behind new (array ds) ms refl
    (omega arith) list
    (subst (λ ts. ReadsMembers k ms ts ms new) (sym ended) (reads_no_members k ms _ new refl)) in record {
      value = parallel_step ds;
      reads = reads_deeper (suc k) (5 * c.args.levels + 4) _ (object ms) new (omega arith) (reads_object k (Token.key
          (codes "parallel") ∷ old) ms new members);
      met = parallel_met setting scope ds places start counted next one met;
      spelled = ap (λ (x : tree.Step). (x, last)) c.in_ok-step.ensures.value
          ∙ ap (spelled_map (λ (children : List Tried). tree.Parallel (children_of children))) done.spelled
          ∙ sym (parallel_spelled setting scope ds block numbers);
      scope = added ∙ ap₂ (λ (a b : Scope). with_labels a b) labels done.scope ∙ sym (parallel_scope setting scope ds);
    }

pub pull_if-returns : goal.pull_if-returns
pull_if-returns t c =
    let k = 5 * c.args.levels in
    let setting = setting_of c.args.declared.now in
    let places = block_placed setting c.args.levels in
    let block = block_of setting c.args.levels in
    let scope = scope_of c.args.state.now.labels.entries in
    let start = c.args.state.now.counts in
    let counted = c.pull_if_head.new.state.counts in
    let inside_counts = c.pull_block.new.state.counts in
    let next = c.pull_else.new.state.counts in
    let numbers = numbers_of c.args.state.now.numbering in
    let tested = numbers_of c.pull_if_head.new.state.numbering in
    let after = numbers_of c.pull_block.new.state.numbering in
    let last = numbers_of c.pull_else.new.state.numbering in
    let old = c.args.reader.now in
    let r3 = c.pull_if_head.new.reader in
    let r4 = c.pull_block.new.reader in
    let new = c.pull_else.new.reader in
    let head = c.in_ok-head.ensures in
    let s = head.0 in
    let key = head.1 in
    let v = head.2 in
    let within = head.9 in
    let done = c.in_ok-then.ensures in
    let rest = c.in_ok-otherwise.ensures in
    let first = done.value in
    let second = rest.0 in
    let m1 = member (codes "if") (string s) no_members in
    let m2 = put (test_key key) v m1 in
    let m3 = put (codes "then") first m2 in
    let ms = with_else second m3 in
    let whole = if_step s key v first second in
    let same = done.scope ∙ within in
    let met = subst (λ l. AreMet counted (places l first) inside_counts) within done.met in
    let spells = subst (λ l. (block_view c.in_ok-then.then, after) ≡ block l tested first) within done.spelled in
    let later = subst (λ l. AreMet inside_counts (block_placed_if places l second) next) same rest.2 in
    let ends = subst (λ l. (block_view c.in_ok-otherwise.otherwise, last)
    ≡ spelled_map or_no_step (block_of_if block l after second)) same rest.3 in
    let reads = head.3 k ms new (reads_member k m2 (codes "then") (Token.key (codes "then") ∷ r3) r3 r4 new first ms refl (omega arith)
    done.reads (rest.1 m3)) in
    let shown : step_view c.in_ok-step.step ≡ tree.If c.in_ok-head.head.label c.in_ok-head.head.test (block_view c.in_ok-then.then)
    (block_view c.in_ok-otherwise.otherwise) = grind (arith, rules) in record {
      value = whole;
      reads = reads_deeper (suc k) (5 * c.args.levels + 1) _ whole new (omega arith)
          (reads_object k (Token.key (codes "if") ∷ old) ms new reads);
      met = if_met setting scope s key v first second places start counted inside_counts next head.4 head.5 (head.6 first second) met later;
      spelled = ap (λ (x : tree.Step). (x, last)) (shown ∙ ap (λ n. tree.If n c.in_ok-head.head.test (block_view c.in_ok-then.then)
          (block_view c.in_ok-otherwise.otherwise)) head.8)
          ∙ if_spelled setting scope s key v first second block numbers tested after last c.in_ok-head.head.test
          (block_view c.in_ok-then.then) (block_view c.in_ok-otherwise.otherwise) (head.7 first second) spells ends;
      scope = rest.4 ∙ same ∙ sym (if_scope setting scope s key v first second);
    }

pub pull_else-returns-in-Some-EndObject : goal.pull_else-returns-in-Some-EndObject
unfolding block_placed_if block_of_if
pull_else-returns-in-Some-EndObject t c =
    let k = 5 * c.args.levels in
    let new = c.next.new.self in
    let ended : c.args.reader.now ≡ Token.end_object ∷ new = grind (arith, rules) in
    let none : c.new.result.items ≡ [] = c.new.ensures.items in
    let shown : block_view (roll-Block (record { steps = c.new.result }))
    ≡ tree.NoStep = block_view-is (roll-Block (record { steps = c.new.result }))
    ∙ ap (λ (xs : List _). steps_of (map step_view xs)) none in (
      None,
      λ found. subst (λ ts. ReadsMembers k found ts found new) (sym ended) (reads_no_members k found _ new refl),
      refl,
      ap (λ (b : tree.Block). (b, numbers_of c.args.state.now.numbering)) shown,
      refl,
    )

pub pull_else-returns-in_ok-pull_end_object-in-Some-Key-else : goal.pull_else-returns-in_ok-pull_end_object-in-Some-Key-else
unfolding block_placed_if block_of_if
pull_else-returns-in_ok-pull_end_object-in-Some-Key-else t c =
    let k = 5 * c.args.levels in
    let inside = c.next.new.self in
    let mid = c.pull_block.new.reader in
    let new = c.pull_end_object.new.reader in
    let done = c.in_ok-otherwise-in-Some-Key-else.ensures in
    let d = done.value in
    let keyed : c.args.reader.now ≡ Token.key (codes "else") ∷ inside = grind (arith, rules) in
    let ended : mid ≡ Token.end_object ∷ new = grind (arith, rules) in (
      Some d,
      λ found. subst (λ ts. ReadsMembers k found ts (put (codes "else") d found) new) (sym keyed)
          (reads_member k found (codes "else") (Token.key (codes "else") ∷ inside) inside mid new d (put (codes "else") d found) refl
          (omega arith) done.reads
          (subst (λ ts. ReadsMembers k (put (codes "else") d found) ts (put (codes "else") d found) new) (sym ended)
          (reads_no_members k _ _ new refl))),
      done.met,
      done.spelled,
      done.scope,
    )

pub pull_step-returns-in-op : goal.pull_step-returns-in-op
pull_step-returns-in-op t c =
    let named : c.in_ok-name.name.now ≡ codes "op" = grind (arith, rules) in
    let begun = c.in_ok-name.ensures ∙ ap (λ n. first_key n c.pull_first_key.new.reader) named in
    IfOk_then c.pull_operation.result c.pull_operation.ensures (λ step w. step_begun begun (plain_step c.args.levels w) (omega arith))

pub pull_step-returns-in-sub : goal.pull_step-returns-in-sub
pull_step-returns-in-sub t c =
    let named : c.in_ok-name.name.now ≡ codes "sub" = grind (arith, rules) in
    let begun = c.in_ok-name.ensures ∙ ap (λ n. first_key n c.pull_first_key.new.reader) named in
    IfOk_then c.pull_sub_step.result c.pull_sub_step.ensures (λ step w. step_begun begun w (omega arith))

pub pull_step-returns-in-if : goal.pull_step-returns-in-if
pull_step-returns-in-if t c =
    let named : c.in_ok-name.name.now ≡ codes "if" = grind (arith, rules) in
    let begun = c.in_ok-name.ensures ∙ ap (λ n. first_key n c.pull_first_key.new.reader) named in
    IfOk_then c.pull_if.result c.pull_if.ensures (λ step w. step_begun begun w (omega arith))

pub pull_step-returns-in-parallel : goal.pull_step-returns-in-parallel
pull_step-returns-in-parallel t c =
    let named : c.in_ok-name.name.now ≡ codes "parallel" = grind (arith, rules) in
    let begun = c.in_ok-name.ensures ∙ ap (λ n. first_key n c.pull_first_key.new.reader) named in
    IfOk_then c.pull_parallel.result c.pull_parallel.ensures (λ step w. step_begun begun w (omega arith))

pub pull_step-returns-in-abort : goal.pull_step-returns-in-abort
pull_step-returns-in-abort t c =
    let named : c.in_ok-name.name.now ≡ codes "abort" = grind (arith, rules) in
    let begun = c.in_ok-name.ensures ∙ ap (λ n. first_key n c.pull_first_key.new.reader) named in
    IfOk_then c.pull_abort.result c.pull_abort.ensures (λ step w. step_begun begun (plain_step c.args.levels w) (omega arith))

pub pull_step-returns-in_default : goal.pull_step-returns-in_default
pull_step-returns-in_default t c =
    IfOk_then c.pull_other_step.result c.pull_other_step.ensures (λ step w. step_begun c.in_ok-name.ensures w (omega arith))
