-- What is read with other numbers before it is the same with other numbers.
use Rattle.std.proofs.Common.{◌≡◌, ℕ, zero, suc, ◌≤◌, Bool, true, false, cond, List, [], ◌∷◌, length, map, Option, None, Some, refl}
use Rattle.std.proofs.Common.{sym, ap, ◌∙◌}
use Rattle.std.specs.Prelude.{codes, is_some, option_map}
use Rattle.serde_json.specs.Data.{Data, Items, no_items, item, Members, no_members, member}
use Rattle.serde_json.specs.Find.{as_array, as_str, get}
use Rattle.atoms.specs.declared.amount.Amount.{Amount}
use Rattle.atoms.specs.declared.item.Item.{Item}
use Rattle.meaning.specs.Amounts.{amount_of}
use Rattle.meaning.specs.declared.template.Argument.{Argument}
use Rattle.meaning.specs.declared.template.Argument.TheVariants as argument
use Rattle.meaning.specs.declared.template.Refusal.{Refusal}
use Rattle.meaning.specs.declared.template.Refusal.TheVariants.{GoesOn, Aborts}
use Rattle.meaning.specs.declared.template.Template.{Template}
use Rattle.meaning.specs.declared.template.Template.TheVariants as template
use Rattle.meaning.specs.declared.test.Test.{Test}
use Rattle.meaning.specs.declared.test.Test.TheVariants.{IsItem}
use Rattle.meaning.specs.Trees.{Block, If, Abort, Parallel, Handlers, Otherwise}
use Rattle.meaning.specs.Trees.{handlers_of}
use Rattle.batch.specs.Views.{Tried, children_of, steps_of}
use Rattle.vocabulary.specs.Words.{amount_call}
use Rattle.vocabulary.proofs.Words.{amount_phrase, item_phrase, lone_phrase, pair_phrase}
use Rattle.vocabulary.specs.declared.verb.AmountVerb.{AmountVerb}
use Rattle.vocabulary.specs.declared.verb.ItemVerb.{ItemVerb}
use Rattle.vocabulary.specs.declared.verb.PairVerb.{PairVerb}
use Rattle.vocabulary.specs.declared.verb.Verb.{Verb}
use Rattle.vocabulary.specs.declared.verb.Verb.TheVariants.{OfAmount, OfItem, OfPair, Alone}
use Rattle.meaning.specs.declared.limits.TheConstants.{MAX_DEPTH}
use Rattle.doc_rules.specs.declared.subject.Subject.{Subject}
use Rattle.doc_tree.specs.declared.steps.Sort.{Sort}
use Rattle.doc_tree.specs.declared.steps.Sort.TheVariants.{Operation as an_operation, If as an_if, Sub as a_sub, Abort as an_abort}
use Rattle.doc_tree.specs.declared.steps.Sort.TheVariants.{Parallel as a_parallel}
use Rattle.doc_tree.specs.Asked.{amount_item, children_in, else_reason, handlers_in, if_label, is_source, label_in, name_item, object_of}
use Rattle.doc_tree.specs.Asked.{or_no_items, part, scope_after, sort_of, subject_of, verb_in}
use Rattle.doc_tree.specs.Look.{has, or_empty, text_member}
use Rattle.doc_tree.specs.Scope.{Numbers, Scope, Setting, Table, label_number, number_of, with_item, with_reason, with_text}
use Rattle.doc_tree.specs.Spelled.{Spelling, abort_of, argument_of, block_of, block_of_if, blocks_of, children_spelled, handlers_spelled}
use Rattle.doc_tree.specs.Spelled.{if_of, item_of, item_template, members_of, operation_of, operation_step, or_no_step, or_zero}
use Rattle.doc_tree.specs.Spelled.{pair_template, parallel_of, reason_of, refusal_of, source_of, spelled_map, step_of, step_of_by}
use Rattle.doc_tree.specs.Spelled.{steps_spelled, sub_of, sub_step, target_of, template_of, test_of}
use Rattle.doc_merge.specs.declared.tables.TheConstants.{MOST_TEXTS}
use Rattle.doc_merge.specs.Renumbered.{renumbered_member, renumbered_tried}
use Rattle.doc_merge.specs.Renumbered.{number_in, numbered_item, renumbered, renumbered_argument, renumbered_handlers}
use Rattle.doc_merge.specs.Renumbered.{renumbered_refusal, renumbered_step, renumbered_template, renumbered_test, said_with}
use Rattle.doc_merge.proofs.RenumberedBlocks.{children_again, members_again, steps_again}
use Rattle.doc_merge.proofs.Growing.{Begins, argument_longer, begins_both, block_if_longer, block_longer, blocks_longer, children_longer}
use Rattle.doc_merge.proofs.Growing.{Longer, handlers_longer, members_longer, refusal_longer, steps_longer, weight}
use Rattle.doc_merge.proofs.NumberedTexts.{Grows, number_later, text_later}

-- a text's number is sent to its number
pub number_sent : (text : List ℕ) (a b old new : Table) → length old ≤ MOST_TEXTS → Grows (with_text text a) old
    → Grows (with_text text b) new → number_of text b ≡ number_in new old (number_of text a)
number_sent text a b old new few here there =
    number_later text b new there ∙ ap (λ t. number_of t new) (sym (text_later text a old here few))

-- two tables, of which the one is read after other texts, and how the numbers of the texts that follow are sent
pub record Sends (Beside : Table → Table → Type 0) (old new : Table) (number : ℕ → ℕ) : Type 0 where
  pub one_more : (text : List ℕ) (a b : Table) → Beside a b → Beside (with_text text a) (with_text text b)
  pub sent : (text : List ℕ) (a b : Table) → Beside a b → Grows (with_text text a) old → Grows (with_text text b) new
      → number_of text b ≡ number (number_of text a)

module _ (items reasons : ℕ → ℕ) (BesideItems BesideReasons : Table → Table → Type 0) (old new : Numbers)
    (items_sent : Sends BesideItems old.items new.items items) (reasons_sent : Sends BesideReasons old.reasons new.reasons reasons) where
  abbrev Beside : Numbers → Numbers → Type 0
  Beside a b = BesideItems a.items b.items × BesideReasons a.reasons b.reasons

  -- A part is spelled by either tables, and the one is the other with other numbers. What is numbered so far begins the last tables.
  abbrev Again : {A : Type 0} → (A → A) → Numbers → Numbers → A × Numbers → A × Numbers → Type 0
  Again renumber a b here there = Beside a b → Begins here.1 old → Begins there.1 new
      → (there.0 ≡ renumber here.0) × Beside here.1 there.1

  -- tables that are beside each other stay so
  beside_item : (text : List ℕ) (a b : Numbers) → Beside a b → Beside (with_item text a) (with_item text b)
  beside_item text a b beside = (items_sent.one_more text a.items b.items beside.0, beside.1)

  beside_reason : (text : List ℕ) (a b : Numbers) → Beside a b → Beside (with_reason text a) (with_reason text b)
  beside_reason text a b beside = (beside.0, reasons_sent.one_more text a.reasons b.reasons beside.1)

  -- an item and a reason are sent to those of the same text
  item_again : (text : List ℕ) (a b : Numbers) → Beside a b → Begins (with_item text a) old → Begins (with_item text b) new
      → item_of text b ≡ numbered_item items (item_of text a)
  item_again text a b beside here there =
      let make : ℕ → Item = λ n. record { 0 = n } in
      ap make (items_sent.sent text a.items b.items beside.0 here.items there.items)

  reason_again : (text : List ℕ) (a b : Numbers) → Beside a b → Begins (with_reason text a) old → Begins (with_reason text b) new
      → number_of text b.reasons ≡ reasons (number_of text a.reasons)
  reason_again text a b beside here there = reasons_sent.sent text a.reasons b.reasons beside.1 here.reasons there.reasons

  -- ---- templates, from arguments that were renumbered

  amount_again : (p : Bool) (v : AmountVerb) (label : ℕ) (n : Amount)
      → cond p (template.OfAmount v label) (template.Given (amount_call v n))
      ≡ renumbered_template items (cond p (template.OfAmount v label) (template.Given (amount_call v n)))
  amount_again true v label n = refl
  amount_again false v label n = ap (λ c. template.Given c) (sym (ap (said_with items) (amount_phrase v n)))

  item_template_again : (v : ItemVerb) (x : Argument)
      → item_template v (renumbered_argument items x) ≡ renumbered_template items (item_template v x)
  item_template_again v (argument.Is x) = ap (λ c. template.Given c) (sym (ap (said_with items) (item_phrase v x)))
  item_template_again v (argument.From label) = refl

  pair_template_again : (v : PairVerb) (key x : Argument)
      → pair_template v (renumbered_argument items key) (renumbered_argument items x)
      ≡ renumbered_template items (pair_template v key x)
  pair_template_again v (argument.Is key) (argument.Is x) = ap (λ c. template.Given c) (sym (ap (said_with items) (pair_phrase v key x)))
  pair_template_again v (argument.Is key) (argument.From label) = refl
  pair_template_again v (argument.From label) x = refl

  operation_step_again : (object : ℕ) (call : Template) (labelled : Bool) (refusal : Refusal)
      → operation_step object (renumbered_template items call) labelled (renumbered_refusal reasons refusal)
      ≡ renumbered_step items reasons (operation_step object call labelled refusal)
  operation_step_again object (template.Given call) labelled GoesOn = refl
  operation_step_again object (template.Given call) labelled (Aborts reason) = refl
  operation_step_again object (template.OfAmount v label) labelled refusal = refl
  operation_step_again object (template.OfItem v label) labelled refusal = refl
  operation_step_again object (template.OfPair v key x) labelled refusal = refl

  -- ---- operations, tests and aborts

  argument_again : (version : ℕ) (scope : Scope) (k : ℕ) (a b : Numbers) (op : Data)
      → Again (renumbered_argument items) a b (argument_of version scope k a op) (argument_of version scope k b op)
  argument_again version scope k a b op = by (is_source version k op)
    where
      text : List ℕ
      text = name_item k op

      read : Bool → Numbers → Argument × Numbers
      read p numbers = cond p (argument.From (source_of scope k op), numbers) (argument.Is (item_of text numbers), with_item text numbers)

      by : (p : Bool) → Again (renumbered_argument items) a b (read p a) (read p b)
      by true beside here there = (refl, beside)
      by false beside here there = (ap (λ x. argument.Is x) (item_again text a b beside here there), beside_item text a b beside)

  template_again : (version : ℕ) (scope : Scope) (v : Verb) (a b : Numbers) (op : Data)
      → Again (renumbered_template items) a b (template_of version scope v a op) (template_of version scope v b op)
  unfolding template_of
  template_again version scope (OfAmount v) a b op beside here there =
      (amount_again (is_source version 2 op) v (source_of scope 2 op) (amount_of (or_zero (amount_item 2 op))), beside)
  template_again version scope (OfItem v) a b op beside here there =
      let x = argument_again version scope 2 a b op beside here there in
      (ap (item_template v) x.0 ∙ item_template_again v (argument_of version scope 2 a op).0, x.1)
  template_again version scope (OfPair v) a b op beside here there =
      let ka = argument_of version scope 2 a op in
      let kb = argument_of version scope 2 b op in
      let xa = argument_of version scope 3 ka.1 op in
      let xb = argument_of version scope 3 kb.1 op in
      let key = argument_again version scope 2 a b op beside
      (begins_both ka.1 xa.1 old (argument_longer version scope 3 ka.1 op).begins here)
      (begins_both kb.1 xb.1 new (argument_longer version scope 3 kb.1 op).begins there) in
      let x = argument_again version scope 3 ka.1 kb.1 op key.1 here there in
      ((λ i. pair_template v (key.0 i) (x.0 i)) ∙ pair_template_again v ka.0 xa.0, x.1)
  template_again version scope (Alone v) a b op beside here there =
      (ap (λ c. template.Given c) (sym (ap (said_with items) (lone_phrase v))), beside)

  reason_of_again : (o : Option (List ℕ)) (a b : Numbers) → Again (option_map reasons) a b (reason_of a o) (reason_of b o)
  unfolding reason_of
  reason_of_again None a b beside here there = (refl, beside)
  reason_of_again (Some reason) a b beside here there =
      (ap (λ n. Some n) (reason_again reason a b beside here there), beside_reason reason a b beside)

  refusal_again : (a b : Numbers) (d : Data) → Again (renumbered_refusal reasons) a b (refusal_of a d) (refusal_of b d)
  unfolding refusal_of
  refusal_again a b d = by (has (codes "else") d)
    where
      read : Bool → Numbers → Refusal × Numbers
      read p numbers = cond p (spelled_map Aborts (reason_of numbers (else_reason d))) (GoesOn, numbers)

      by : (p : Bool) → Again (renumbered_refusal reasons) a b (read p a) (read p b)
      by true beside here there = let reason = reason_of_again (else_reason d) a b beside here there in (ap Aborts reason.0, reason.1)
      by false beside here there = (refl, beside)

  operation_again : (setting : Setting) (scope : Scope) (a b : Numbers) (d : Data)
      → Again (renumbered_step items reasons) a b (operation_of setting scope a d) (operation_of setting scope b d)
  unfolding operation_of
  operation_again setting scope a b d beside here there =
      let op = part (codes "op") d in
      let v = verb_in setting op in
      let object = target_of setting (object_of op) in
      let labelled = is_some (label_in d) in
      let ma = template_of setting.version scope v a op in
      let mb = template_of setting.version scope v b op in
      let ra = refusal_of ma.1 d in
      let rb = refusal_of mb.1 d in
      let made = template_again setting.version scope v a b op beside
      (begins_both ma.1 ra.1 old (refusal_longer ma.1 d).begins here) (begins_both mb.1 rb.1 new (refusal_longer mb.1 d).begins there) in
      let refused = refusal_again ma.1 mb.1 d made.1 here there in
      ((λ i. operation_step object (made.0 i) labelled (refused.0 i)) ∙ operation_step_again object ma.0 labelled ra.0, refused.1)

  -- one of three tests
  one_of_three : (p q : Bool) (a b : Numbers) (x y z x' y' z' : Test × Numbers) → Again (renumbered_test items) a b x x'
      → Again (renumbered_test items) a b y y' → Again (renumbered_test items) a b z z'
      → Again (renumbered_test items) a b (cond p x (cond q y z)) (cond p x' (cond q y' z'))
  one_of_three true q a b x y z x' y' z' first second third = first
  one_of_three false true a b x y z x' y' z' first second third = second
  one_of_three false false a b x y z x' y' z' first second third = third

  test_again : (subject : Subject) (a b : Numbers) (d : Data)
      → Again (renumbered_test items) a b (test_of subject a d) (test_of subject b d)
  unfolding test_of
  test_again subject a b d =
      let text = or_empty (text_member (codes "item") d) in
      one_of_three (has (codes "is") d) (has (codes "atleast") d) a b _ _ _ _ _ _ (λ beside here there. (refl, beside))
      (λ beside here there. (refl, beside))
      (λ beside here there. (ap (λ x. IsItem x) (item_again text a b beside here there), beside_item text a b beside))

  abort_again : (a b : Numbers) (d : Data) → Again (renumbered_step items reasons) a b (abort_of a d) (abort_of b d)
  unfolding abort_of
  abort_again a b d beside here there =
      let reason = reason_of_again (as_str (part (codes "abort") d)) a b beside here there in (ap Abort reason.0, reason.1)

  -- ---- the steps that hold blocks

  abbrev block_renumbered : Block → Block
  block_renumbered block = renumbered items reasons block

  abbrev member_renumbered : ℕ × Block → ℕ × Block
  member_renumbered = renumbered_member items reasons

  abbrev tried_renumbered : Tried → Tried
  tried_renumbered = renumbered_tried items reasons

  else_again : (o : Option Block) → or_no_step (option_map block_renumbered o) ≡ renumbered items reasons (or_no_step o)
  else_again None = refl
  else_again (Some block) = refl

  handlers_again : (members : Option (List (ℕ × Block))) (o : Option Block)
      → handlers_of (option_map (map member_renumbered) members) (option_map block_renumbered o)
      ≡ renumbered_handlers items reasons (handlers_of members o)
  handlers_again None None = refl
  handlers_again None (Some handler) = refl
  handlers_again (Some members) None = members_again items reasons members Handlers.Pass
  handlers_again (Some members) (Some handler) = members_again items reasons members (Otherwise handler)

  module _ (block : Spelling)
      (longer : (scope : Scope) (numbers : Numbers) (d : Data)
      → Longer (weight (block scope numbers d).0) numbers (block scope numbers d).1)
      (inner : (scope : Scope) (a b : Numbers) (d : Data) → Again block_renumbered a b (block scope a d) (block scope b d)) where
    block_if_spelled : (scope : Scope) (a b : Numbers) (o : Option Data)
        → Again (option_map block_renumbered) a b (block_of_if block scope a o) (block_of_if block scope b o)
    unfolding block_of_if
    block_if_spelled scope a b None beside here there = (refl, beside)
    block_if_spelled scope a b (Some d) beside here there =
        let it = inner scope a b d beside here there in (ap (λ x. Some x) it.0, it.1)

    if_spelled : (scope : Scope) (a b : Numbers) (d : Data)
        → Again (renumbered_step items reasons) a b (if_of block scope a d) (if_of block scope b d)
    unfolding if_of
    if_spelled scope a b d beside here there =
        let subject = subject_of (if_label d) scope in
        let then = part (codes "then") d in
        let else = get (codes "else") d in
        let ta = test_of subject a d in
        let tb = test_of subject b d in
        let fa = block scope ta.1 then in
        let fb = block scope tb.1 then in
        let sa = block_of_if block scope fa.1 else in
        let sb = block_of_if block scope fb.1 else in
        let fa_on = begins_both fa.1 sa.1 old (block_if_longer block longer scope fa.1 else).begins here in
        let fb_on = begins_both fb.1 sb.1 new (block_if_longer block longer scope fb.1 else).begins there in
        let ta_on = begins_both ta.1 fa.1 old (longer scope ta.1 then).begins fa_on in
        let tb_on = begins_both tb.1 fb.1 new (longer scope tb.1 then).begins fb_on in
        let test = test_again subject a b d beside ta_on tb_on in
        let first = inner scope ta.1 tb.1 then test.1 fa_on fb_on in
        let second = block_if_spelled scope fa.1 fb.1 else first.1 here there in
        let third = ap or_no_step second.0 ∙ else_again sa.0 in
        ((λ i. If (label_number (if_label d) scope) (test.0 i) (first.0 i) (third i)), second.1)

    members_spelled : (scope : Scope) (a b : Numbers) (ds : Members)
        → Again (map member_renumbered) a b (members_of block scope a ds) (members_of block scope b ds)
    members_spelled scope a b no_members beside here there = (refl, beside)
    members_spelled scope a b (member reason d ds) beside here there =
        let wa = with_reason reason a in
        let wb = with_reason reason b in
        let fa = block scope wa d in
        let fb = block scope wb d in
        let ra = members_of block scope fa.1 ds in
        let rb = members_of block scope fb.1 ds in
        let fa_on = begins_both fa.1 ra.1 old (members_longer block longer scope fa.1 ds).begins here in
        let fb_on = begins_both fb.1 rb.1 new (members_longer block longer scope fb.1 ds).begins there in
        let number = reason_again reason a b beside (begins_both wa fa.1 old (longer scope wa d).begins fa_on)
        (begins_both wb fb.1 new (longer scope wb d).begins fb_on) in
        let first = inner scope wa wb d (beside_reason reason a b beside) fa_on fb_on in
        let rest = members_spelled scope fa.1 fb.1 ds first.1 here there in
        ((λ i. (number i, first.0 i) ∷ rest.0 i), rest.1)

    handlers_are : (scope : Scope) (a b : Numbers) (o : Option Members)
        → Again (option_map (map member_renumbered)) a b (handlers_spelled block scope a o) (handlers_spelled block scope b o)
    unfolding handlers_spelled
    handlers_are scope a b None beside here there = (refl, beside)
    handlers_are scope a b (Some ds) beside here there =
        let it = members_spelled scope a b ds beside here there in (ap (λ x. Some x) it.0, it.1)

    sub_spelled : (scope : Scope) (a b : Numbers) (d : Data) → Again tried_renumbered a b (sub_of block scope a d) (sub_of block scope b d)
    unfolding sub_of
    sub_spelled scope a b d beside here there =
        let sub = part (codes "sub") d in
        let members = handlers_in d in
        let handler = get (codes "handler") d in
        let ba = block scope a sub in
        let bb = block scope b sub in
        let ha = handlers_spelled block scope ba.1 members in
        let hb = handlers_spelled block scope bb.1 members in
        let oa = block_of_if block scope ha.1 handler in
        let ob = block_of_if block scope hb.1 handler in
        let ha_on = begins_both ha.1 oa.1 old (block_if_longer block longer scope ha.1 handler).begins here in
        let hb_on = begins_both hb.1 ob.1 new (block_if_longer block longer scope hb.1 handler).begins there in
        let ba_on = begins_both ba.1 ha.1 old (handlers_longer block longer scope ba.1 members).begins ha_on in
        let bb_on = begins_both bb.1 hb.1 new (handlers_longer block longer scope bb.1 members).begins hb_on in
        let body = inner scope a b sub beside ba_on bb_on in
        let by_reason = handlers_are scope ba.1 bb.1 members body.1 ha_on hb_on in
        let last = block_if_spelled scope ha.1 hb.1 handler by_reason.1 here there in
        let handlers = (λ i. handlers_of (by_reason.0 i) (last.0 i)) ∙ handlers_again ha.0 oa.0 in
        let make : Block → Handlers → Tried = λ x hs. record { body = x; handlers = hs; labelled = is_some (label_in d) } in
        ((λ i. make (body.0 i) (handlers i)), last.1)

    children_are : (scope : Scope) (a b : Numbers) (ds : Items)
        → Again (map tried_renumbered) a b (children_spelled block scope a ds) (children_spelled block scope b ds)
    children_are scope a b no_items beside here there = (refl, beside)
    children_are scope a b (item d ds) beside here there =
        let fa = sub_of block scope a d in
        let fb = sub_of block scope b d in
        let ra = children_spelled block scope fa.1 ds in
        let rb = children_spelled block scope fb.1 ds in
        let first = sub_spelled scope a b d beside (begins_both fa.1 ra.1 old (children_longer block longer scope fa.1 ds).begins here)
        (begins_both fb.1 rb.1 new (children_longer block longer scope fb.1 ds).begins there) in
        let rest = children_are scope fa.1 fb.1 ds first.1 here there in
        ((λ i. first.0 i ∷ rest.0 i), rest.1)

    parallel_spelled : (scope : Scope) (a b : Numbers) (d : Data)
        → Again (renumbered_step items reasons) a b (parallel_of block scope a d) (parallel_of block scope b d)
    unfolding parallel_of
    parallel_spelled scope a b d beside here there =
        let it = children_are scope a b (children_in d) beside here there in
        (ap (λ children. Parallel (children_of children)) it.0 ∙ ap Parallel (children_again items reasons _), it.1)

    -- ---- any step

    step_spelled : (sort : Option Sort) (setting : Setting) (scope : Scope) (a b : Numbers) (d : Data)
        → Again (renumbered_step items reasons) a b (step_of_by sort block setting scope a d) (step_of_by sort block setting scope b d)
    step_spelled None setting scope a b d beside here there = (refl, beside)
    step_spelled (Some an_operation) setting scope a b d beside here there = operation_again setting scope a b d beside here there
    step_spelled (Some an_if) setting scope a b d beside here there = if_spelled scope a b d beside here there
    step_spelled (Some a_sub) setting scope a b d beside here there =
        let it = sub_spelled scope a b d beside here there in (ap sub_step it.0, it.1)
    step_spelled (Some an_abort) setting scope a b d beside here there = abort_again a b d beside here there
    step_spelled (Some a_parallel) setting scope a b d beside here there = parallel_spelled scope a b d beside here there

    steps_are : (setting : Setting) (scope : Scope) (a b : Numbers) (ds : Items)
        → Again (map (renumbered_step items reasons)) a b (steps_spelled block setting scope a ds) (steps_spelled block setting scope b ds)
    unfolding step_of
    steps_are setting scope a b no_items beside here there = (refl, beside)
    steps_are setting scope a b (item d ds) beside here there =
        let next = scope_after setting scope d in
        let fa = step_of block setting scope a d in
        let fb = step_of block setting scope b d in
        let ra = steps_spelled block setting next fa.1 ds in
        let rb = steps_spelled block setting next fb.1 ds in
        let first = step_spelled (sort_of d) setting scope a b d beside
        (begins_both fa.1 ra.1 old (steps_longer block longer setting next fa.1 ds).begins here)
        (begins_both fb.1 rb.1 new (steps_longer block longer setting next fb.1 ds).begins there) in
        let rest = steps_are setting next fa.1 fb.1 ds first.1 here there in
        ((λ i. first.0 i ∷ rest.0 i), rest.1)

  -- ---- blocks

  block_again : (setting : Setting) (n : ℕ) (scope : Scope) (a b : Numbers) (d : Data)
      → Again block_renumbered a b (block_of setting n scope a d) (block_of setting n scope b d)
  unfolding block_of
  block_again setting zero scope a b d beside here there = (refl, beside)
  block_again setting (suc n) scope a b d beside here there =
      let it = steps_are (block_of setting n) (block_longer setting n) (block_again setting n) setting scope a b (or_no_items (as_array d))
      beside here there in
      (ap steps_of it.0 ∙ steps_again items reasons _, it.1)

  pub blocks_again : (setting : Setting) (a b : Numbers) (ds : Items)
      → Again (map block_renumbered) a b (blocks_of setting a ds) (blocks_of setting b ds)
  blocks_again setting a b no_items beside here there = (refl, beside)
  blocks_again setting a b (item d ds) beside here there =
      let fa = block_of setting MAX_DEPTH [] a d in
      let fb = block_of setting MAX_DEPTH [] b d in
      let ra = blocks_of setting fa.1 ds in
      let rb = blocks_of setting fb.1 ds in
      let first = block_again setting MAX_DEPTH [] a b d beside (begins_both fa.1 ra.1 old (blocks_longer setting fa.1 ds).begins here)
      (begins_both fb.1 rb.1 new (blocks_longer setting fb.1 ds).begins there) in
      let rest = blocks_again setting fa.1 fb.1 ds first.1 here there in
      ((λ i. first.0 i ∷ rest.0 i), rest.1)
