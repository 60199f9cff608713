-- Subactions that were pulled from tokens, member by member.
use Rattle.std.proofs.Common.{◌≡◌, ◌≤◌, ◌+◌, ◌*◌, ℕ, suc, Bool, ◌||◌, true, false, List, [], ◌∷◌, Option, None, Some, Ok, map, refl, sym}
use Rattle.std.proofs.Common.{subst, ap, ◌∙◌, arith, le-leb}
use Rattle.std.specs.Prelude.{codes, is_some, not}
use Rattle.json.specs.Json.{after_end_array, read_key}
use Rattle.json.specs.Token.{Token}
use Rattle.json.proofs.Grammar.{read_key-shorter}
use Rattle.serde_json.specs.Data.{Data, Members, object, put, string, Items, array, item, member, no_members}
use Rattle.serde_json.specs.Find.{get}
use Rattle.doc_tree.specs.declared.counts.Counts.{Counts}
use Rattle.batch.specs.declared.tree.Block.{Block}
use Rattle.batch.specs.declared.tree.Handler.{Handler}
use Rattle.batch.specs.declared.tree.Subaction.{Subaction}
use Rattle.doc_tree.specs.declared.declared.Declared.{Declared}
use Rattle.doc_tree.specs.declared.state.ReaderState.{ReaderState}
use Rattle.doc_tree.specs.declared.steps.Sort.TheVariants.{Sub}
use Rattle.doc_rules.specs.declared.subject.Subject.TheVariants.{Outcome}
use Rattle.doc_tree.specs.Answer.{AreMet, IsMet}
use Rattle.doc_tree.specs.Asked.{handlers_in, label_asked, label_in, part, scope_after}
use Rattle.doc_tree.specs.Asked.{sort_of, sub_shape_asked, labels_of}
use Rattle.doc_tree.specs.Asked.{parallel_shape_asked}
use Rattle.doc_tree.specs.Demand.{check, holds, one_more_node}
use Rattle.doc_rules.specs.declared.rule.NameRule.TheVariants.{Label}
use Rattle.doc_rules.specs.declared.rule.Rule.TheVariants.{Name, NewLabel}
use Rattle.batch.specs.Names.{is_name}
use Rattle.doc_tokens.specs.Pulled.{ReadsMembers, are_allowed, sub_members}
use Rattle.doc_tokens.specs.PulledBlocks.{SpellsBlock, SpellsChildren, SpellsHandlers, SpellsSub, SubTail}
use Rattle.doc_tree.specs.Scope.{AreUnseen, Numbers, Scope, Setting, is_named, numbers_of, scope_of, setting_of, with_label, with_labels}
use Rattle.doc_tree.specs.Spelled.{Spelling, block_of, block_of_if, children_spelled, handlers_spelled, members_of, parallel_of}
use Rattle.doc_tree.specs.Spelled.{spelled_map, step_of, sub_of, sub_step, tried}
use Rattle.doc_tokens.proofs.PulledLemmas.{reads_deeper, reads_item, reads_member, reads_object, reads_string}
use Rattle.batch.specs.Views.{Tried, block_view, children_of, handler_view, subaction_view}
use Rattle.meaning.specs.Trees as tree
use Rattle.doc_tree.specs.Places.{Places, block_placed, block_placed_if, children_placed, handlers_placed, inside, item_at, itself}
use Rattle.doc_tree.specs.Places.{member_named, members_placed, nothing, parallel_placed, step_placed, sub_placed}
use Rattle.doc_tree.proofs.PlaceLemmas.{own_first, part_met}
use Rattle.doc_tree.proofs.LabelLemmas.{child_label_met}

-- ---- the members

-- the handler goes in at its place
put_handler : (body d : Data) (reasons : Option Members) (label : Option (List ℕ))
    → put (codes "handler") d (sub_members body reasons None label) ≡ sub_members body reasons (Some d) label
put_handler body d None None = refl
put_handler body d None (Some s) = refl
put_handler body d (Some hs) None = refl
put_handler body d (Some hs) (Some s) = refl

-- the handlers by reason go in at theirs
put_handlers : (body : Data) (hs : Members) (label : Option (List ℕ))
    → put (codes "handlers") (object hs) (sub_members body None None label) ≡ sub_members body (Some hs) None label
put_handlers body hs None = refl
put_handlers body hs (Some s) = refl

module _ (body : Data) where
  -- such a step is a subaction
  pub sub_sort : (reasons : Option Members) (every : Option Data) (label : Option (List ℕ))
      → sort_of (object (sub_members body reasons every label)) ≡ Some Sub
  unfolding sort_of
  sub_sort None None None = refl
  sub_sort None None (Some s) = refl
  sub_sort None (Some d) None = refl
  sub_sort None (Some d) (Some s) = refl
  sub_sort (Some hs) None None = refl
  sub_sort (Some hs) None (Some s) = refl
  sub_sort (Some hs) (Some d) None = refl
  sub_sort (Some hs) (Some d) (Some s) = refl

  -- its parts are found at their keys
  sub_body : (reasons : Option Members) (every : Option Data) (label : Option (List ℕ))
      → part (codes "sub") (object (sub_members body reasons every label)) ≡ body
  sub_body None None None = refl
  sub_body None None (Some s) = refl
  sub_body None (Some d) None = refl
  sub_body None (Some d) (Some s) = refl
  sub_body (Some hs) None None = refl
  sub_body (Some hs) None (Some s) = refl
  sub_body (Some hs) (Some d) None = refl
  sub_body (Some hs) (Some d) (Some s) = refl

  -- the handlers by reason
  sub_reasons : (reasons : Option Members) (every : Option Data) (label : Option (List ℕ))
      → handlers_in (object (sub_members body reasons every label)) ≡ reasons
  sub_reasons None None None = refl
  sub_reasons None None (Some s) = refl
  sub_reasons None (Some d) None = refl
  sub_reasons None (Some d) (Some s) = refl
  sub_reasons (Some hs) None None = refl
  sub_reasons (Some hs) None (Some s) = refl
  sub_reasons (Some hs) (Some d) None = refl
  sub_reasons (Some hs) (Some d) (Some s) = refl

  -- the handler
  sub_every : (reasons : Option Members) (every : Option Data) (label : Option (List ℕ))
      → get (codes "handler") (object (sub_members body reasons every label)) ≡ every
  sub_every None None None = refl
  sub_every None None (Some s) = refl
  sub_every None (Some d) None = refl
  sub_every None (Some d) (Some s) = refl
  sub_every (Some hs) None None = refl
  sub_every (Some hs) None (Some s) = refl
  sub_every (Some hs) (Some d) None = refl
  sub_every (Some hs) (Some d) (Some s) = refl

  -- the label
  pub sub_label : (reasons : Option Members) (every : Option Data) (label : Option (List ℕ))
      → label_in (object (sub_members body reasons every label)) ≡ label
  sub_label None None None = refl
  sub_label None None (Some s) = refl
  sub_label None (Some d) None = refl
  sub_label None (Some d) (Some s) = refl
  sub_label (Some hs) None None = refl
  sub_label (Some hs) None (Some s) = refl
  sub_label (Some hs) (Some d) None = refl
  sub_label (Some hs) (Some d) (Some s) = refl

  -- its shape is as asked, where the version has such handlers
  sub_shape : (reasons : Option Members) (every : Option Data) (label : Option (List ℕ)) (version : ℕ) (counts : Counts)
      → are_allowed version reasons ≡ true → IsMet counts (sub_shape_asked version (object (sub_members body reasons every label))) counts
  unfolding sub_shape_asked
  sub_shape None None None version counts h = refl
  sub_shape None None (Some s) version counts h = refl
  sub_shape None (Some d) None version counts h = refl
  sub_shape None (Some d) (Some s) version counts h = refl
  sub_shape (Some hs) None None version counts h = rw h refl
  sub_shape (Some hs) None (Some s) version counts h = rw h refl
  sub_shape (Some hs) (Some d) None version counts h = rw h refl
  sub_shape (Some hs) (Some d) (Some s) version counts h = rw h refl

-- ---- what comes after the body

-- where no handler was read, there is none
no_handler : (block : Spelling) (scope : Scope) (before after : Numbers) (every : Option Data)
    → (None, after) ≡ block_of_if block scope before every
    → (every ≡ None) × (before ≡ after)
unfolding block_of_if
no_handler block scope before after None e = (refl, sym (ap (λ p. p.1) e))
no_handler block scope before after (Some d) e = let first = ap (λ p. p.0) e in absurd (cc)

-- where no handlers by reason were read, there are none
no_handlers : (block : Spelling) (scope : Scope) (before after : Numbers) (reasons : Option Members)
    → (None, after) ≡ handlers_spelled block scope before reasons → (reasons ≡ None) × (before ≡ after)
unfolding handlers_spelled
no_handlers block scope before after None e = (refl, sym (ap (λ p. p.1) e))
no_handlers block scope before after (Some hs) e = let first = ap (λ p. p.0) e in absurd (cc)

-- an absent handler places nothing
nothing_asked : (places : Places) (scope : Scope) (every : Option Data) (mid next : Counts) → every ≡ None
    → AreMet mid (block_placed_if places scope every) next → mid ≡ next
unfolding block_placed_if
nothing_asked places scope None mid next e met = cc
nothing_asked places scope (Some d) mid next e met = cc

-- absent handlers by reason ask nothing
none_asked : (version : ℕ) (places : Places) (scope : Scope) (reasons : Option Members) (mid next : Counts) → reasons ≡ None
    → AreMet mid (handlers_placed version places scope reasons) next → mid ≡ next
unfolding handlers_placed
none_asked version places scope None mid next e met = cc
none_asked version places scope (Some d) mid next e met = cc

module _ (levels : ℕ) (declared : Declared) (scope : Scope) (old : List Token) (p : ReaderState) where
  -- nothing yet
  pub tail_none : scope_of p.labels.entries ≡ scope → SubTail levels declared scope old p None None None old p
  unfolding handlers_placed handlers_spelled block_placed_if block_of_if
  tail_none same = record {
    reasons = None;
    every = None;
    mid = p.counts;
    between = numbers_of p.numbering;
    reads = λ body ms rest read. read;
    allowed = refl;
    first = refl;
    second = refl;
    reasons_spelled = refl;
    every_spelled = refl;
    same = same;
  }

  module _ (label : Option (List ℕ)) (now : List Token) (q : ReaderState) where
    -- the label
    pub tail_label : (handlers : Option (List (ℕ × tree.Block))) (handler : Option tree.Block) (s : List ℕ) (left : List Token)
        → label ≡ None → read_key now ≡ Some (Some (codes "as"), Token.string s ∷ left)
        → SubTail levels declared scope old p handlers handler label now q
        → SubTail levels declared scope old p handlers handler (Some s) left q
    tail_label handlers handler s left none is t =
        let k = 5 * levels + 1 in
        let bare : Data → Members = λ body. sub_members body t.reasons t.every None in
        record {
          reasons = t.reasons;
          every = t.every;
          mid = t.mid;
          between = t.between;
          reads = λ body ms rest read. t.reads body ms rest
              (subst (λ l. ReadsMembers k (sub_members body t.reasons t.every l) now ms rest) (sym none)
              (reads_member k (bare body) (codes "as") now (Token.string s ∷ left) left rest (string s) ms is (read_key-shorter _ _ _ is)
              (reads_string k s left) read));
          allowed = t.allowed;
          first = t.first;
          second = t.second;
          reasons_spelled = t.reasons_spelled;
          every_spelled = t.every_spelled;
          same = t.same;
        }

    -- the handler
    pub tail_handler : (handlers : Option (List (ℕ × tree.Block))) (handler : Option tree.Block) (block : Block) (inner left : List Token)
        (r : ReaderState) → read_key now ≡ Some (Some (codes "handler"), inner) → SpellsBlock levels declared inner left q r block
        → handler ≡ None → SubTail levels declared scope old p handlers handler label now q
        → SubTail levels declared scope old p handlers (Some (block_view block)) label left r
    unfolding block_placed_if block_of_if
    tail_handler handlers handler block inner left r is done free t =
        let k = 5 * levels + 1 in
        let places = block_placed (setting_of declared) levels in
        let spelling = block_of (setting_of declared) levels in
        let after = numbers_of q.numbering in
        let d = done.value in
        let none = no_handler spelling scope t.between after t.every
        (subst (λ h. (h, after) ≡ block_of_if spelling scope t.between t.every) free t.every_spelled) in
        let same = nothing_asked places scope t.every t.mid q.counts none.0 t.second in
        let value = subst (λ s. (block_view block, numbers_of r.numbering) ≡ spelling s after d) t.same done.spelled in
        let bare : Data → Members = λ body. sub_members body t.reasons None label in
        record {
          reasons = t.reasons;
          every = Some d;
          mid = t.mid;
          between = t.between;
          reads = λ body ms rest read. t.reads body ms rest
              (subst (λ e. ReadsMembers k (sub_members body t.reasons e label) now ms rest) (sym none.0)
              (reads_member k (bare body) (codes "handler") now inner left rest d ms is (read_key-shorter _ _ _ is)
              (reads_deeper (5 * levels) k inner d left (omega arith) done.reads)
              (subst (λ found. ReadsMembers k found left ms rest) (sym (put_handler body d t.reasons label)) read)));
          allowed = t.allowed;
          first = t.first;
          second = subst (λ c. AreMet c (places scope d) r.counts) (sym same)
              (subst (λ s. AreMet q.counts (places s d) r.counts) t.same done.met);
          reasons_spelled = t.reasons_spelled;
          every_spelled = ap (spelled_map (λ (x : tree.Block). Some x)) value
              ∙ ap (λ n. spelled_map (λ (x : tree.Block). Some x) (spelling scope n d)) (sym none.1);
          same = done.scope ∙ t.same;
        }

    -- the handlers by reason
    pub tail_handlers : (handlers : Option (List (ℕ × tree.Block))) (handler : Option tree.Block) (read_handlers : List Handler)
        (members left : List Token) (r : ReaderState) → read_key now ≡ Some (Some (codes "handlers"), Token.begin_object ∷ members)
        → 3 ≤ declared.version → SpellsHandlers levels declared members left q r read_handlers → handlers ≡ None → handler ≡ None
        → SubTail levels declared scope old p handlers handler label now q
        → SubTail levels declared scope old p (Some (map handler_view read_handlers)) handler label left r
    unfolding block_placed_if block_of_if handlers_placed handlers_spelled
    tail_handlers handlers handler read_handlers members left r is late done neither free t =
        let k = 5 * levels + 1 in
        let version = declared.version in
        let places = block_placed (setting_of declared) levels in
        let spelling = block_of (setting_of declared) levels in
        let after = numbers_of q.numbering in
        let hs = done.value in
        let none = no_handler spelling scope t.between after t.every
        (subst (λ h. (h, after) ≡ block_of_if spelling scope t.between t.every) free t.every_spelled) in
        let empty = no_handlers spelling scope (numbers_of p.numbering) t.between t.reasons
        (subst (λ h. (h, t.between) ≡ handlers_spelled spelling scope (numbers_of p.numbering) t.reasons) neither t.reasons_spelled) in
        let counted = none_asked version places scope t.reasons p.counts t.mid empty.0 t.first
        ∙ nothing_asked places scope t.every t.mid q.counts none.0 t.second in
        let value = subst (λ s. (map handler_view read_handlers, numbers_of r.numbering) ≡ members_of spelling s after hs) t.same
        done.spelled in
        let first = reads_deeper (suc (5 * levels)) k (Token.begin_object ∷ members) (object hs) left (omega arith)
        (reads_object (5 * levels) members hs left done.reads) in
        let bare : Data → Members = λ body. sub_members body None None label in
        record {
          reasons = Some hs;
          every = None;
          mid = r.counts;
          between = numbers_of r.numbering;
          reads = λ body ms rest read. t.reads body ms rest
              (subst (λ e. ReadsMembers k (sub_members body t.reasons e label) now ms rest) (sym none.0)
              (subst (λ o. ReadsMembers k (sub_members body o None label) now ms rest) (sym empty.0)
              (reads_member k (bare body) (codes "handlers") now (Token.begin_object ∷ members) left rest (object hs) ms is
              (read_key-shorter _ _ _ is) first
              (subst (λ found. ReadsMembers k found left ms rest) (sym (put_handlers body hs label)) read))));
          allowed = le-leb _ _ late;
          first = subst (λ c. AreMet c (members_placed version places scope hs) r.counts) (sym counted)
              (subst (λ s. AreMet q.counts (members_placed version places s hs) r.counts) t.same done.met);
          second = refl;
          reasons_spelled = ap (spelled_map (λ (xs : List (ℕ × tree.Block)). Some xs)) value
              ∙ ap (λ n. spelled_map (λ (xs : List (ℕ × tree.Block)). Some xs) (members_of spelling scope n hs)) (sym (empty.1 ∙ none.1));
          every_spelled = ap (λ h. (h, numbers_of r.numbering)) free;
          same = done.scope ∙ t.same;
        }

-- ---- the whole

module _ (version : ℕ) (places : Places) (block : Spelling) (scope : Scope) (body : Data) (reasons : Option Members) (every : Option Data)
    (label : Option (List ℕ)) where
  abbrev whole : Data
  whole = object (sub_members body reasons every label)

  -- what is asked of the parts is what is asked of the whole
  pub sub_met : (earlier : Scope) (start counted inside_counts mid next : Counts) → are_allowed version reasons ≡ true
      → IsMet start (one_more_node version ∷ []) counted → AreMet counted (places scope body) inside_counts
      → AreMet inside_counts (handlers_placed version places scope reasons) mid → AreMet mid (block_placed_if places scope every) next
      → IsMet counted (label_asked version scope earlier (label_in whole)) counted
      → AreMet start (sub_placed version places scope earlier whole) next
  unfolding sub_placed
  sub_met earlier start counted inside_counts mid next may one first second third labels =
      let last = inside (member_named (codes "handler")) (block_placed_if places scope every) nothing in
      let taken = inside (member_named (codes "handlers")) (handlers_placed version places scope reasons) last in
      let steps = inside (member_named (codes "sub")) (places scope body) taken in
      let named = label_asked version scope earlier (label_in whole) in
      rw (sub_body body reasons every label, sub_reasons body reasons every label, sub_every body reasons every label)
      (own_first start start (sub_shape_asked version whole) (itself (one_more_node version ∷ []) (itself named steps))
      (sub_shape body reasons every label version start may)
      ∙ own_first start counted (one_more_node version ∷ []) (itself named steps) one
      ∙ own_first counted counted named steps labels
      ∙ part_met counted inside_counts (member_named (codes "sub")) (places scope body) taken first
      ∙ part_met inside_counts mid (member_named (codes "handlers")) (handlers_placed version places scope reasons) last second
      ∙ part_met mid next (member_named (codes "handler")) (block_placed_if places scope every) nothing third)

  -- what the parts spell is what the whole spells
  pub sub_spelled : (numbers after between last : Numbers) (b : tree.Block) (handlers : Option (List (ℕ × tree.Block)))
      (handler : Option tree.Block) → (b, after) ≡ block scope numbers body
      → (handlers, between) ≡ handlers_spelled block scope after reasons → (handler, last) ≡ block_of_if block scope between every
      → (tried b handlers handler (is_some label), last) ≡ sub_of block scope numbers whole
  unfolding sub_of
  sub_spelled numbers after between last b handlers handler first second third =
      rw (
        sub_body body reasons every label,
        sub_reasons body reasons every label,
        sub_every body reasons every label,
        sub_label body reasons every label,
        ← first,
        ← second,
        ← third,
      ) refl

-- a label that may be set where one thing was counted may be set where another was
pub label_anywhere : (version : ℕ) (scope earlier : Scope) (label : Option (List ℕ)) (here there : Counts)
    → IsMet here (label_asked version scope earlier label) here
    → IsMet there (label_asked version scope earlier label) there
unfolding label_asked
label_anywhere version scope earlier None here there met = refl
label_anywhere version scope earlier (Some name) here there met =
    by (is_name version name) (not (is_named name scope || is_named name earlier)) met
  where
    by : (a b : Bool) → check here (holds a (Name version Label) ∷ holds b NewLabel ∷ []) ≡ Ok here
        → check there (holds a (Name version Label) ∷ holds b NewLabel ∷ []) ≡ Ok there
    by true true e = refl
    by true false e = cc
    by false b e = cc

-- ---- the step

module _ (setting : Setting) (scope : Scope) (d : Data) where
  -- a subaction as a step
  pub sub_step_met : (places : Places) (start next : Counts) → sort_of d ≡ Some Sub
      → AreMet start (sub_placed setting.version places scope [] d) next
      → AreMet start (step_placed places setting scope d) next
  unfolding step_placed
  sub_step_met places start next is met = rw is met

  -- what it spells as a step
  pub sub_step_spelled : (block : Spelling) (numbers : Numbers) → sort_of d ≡ Some Sub
      → step_of block setting scope numbers d ≡ spelled_map sub_step (sub_of block scope numbers d)
  unfolding step_of
  sub_step_spelled block numbers is = rw is refl

  -- the label that is seen after it
  pub sub_step_scope : sort_of d ≡ Some Sub → scope_after setting scope d ≡ with_label (label_in d) Outcome scope
  unfolding scope_after
  sub_step_scope is = rw is refl

-- ---- children

-- a child before others, whose label is new among those of the children before it
pub children_more : (i levels : ℕ) (declared : Declared) (old mid new : List Token) (before after : Scope) (p q r : ReaderState)
    (child : Subaction) (label : Option (List ℕ)) (children : List Subaction) → after_end_array old ≡ None
    → SpellsSub levels declared old mid p q child label → IsMet q.counts (label_asked declared.version before [] label) q.counts
    → SpellsChildren (i + 1) levels declared mid new (with_label label Outcome before) after q r children
    → SpellsChildren i levels declared old new before after p r (child ∷ children)
children_more i levels declared old mid new before after p q r child label children going first named later =
    let version = declared.version in
    let places = block_placed (setting_of declared) levels in
    let block = block_of (setting_of declared) levels in
    let scope = scope_of p.labels.entries in
    let d = first.value in
    let ds = later.value in
    let next = with_label (label_in d) Outcome before in
    let labels = later.labels ∙ ap (λ o. labels_of (with_label o Outcome before) ds) first.named in
    let spelled = later.spelled ∙ ap (λ s. children_spelled block s (numbers_of q.numbering) ds) first.scope in
    let met : AreUnseen after scope → AreMet q.counts (children_placed version places scope next (i + 1) ds) r.counts = λ unseen.
    subst (λ o. AreMet q.counts (children_placed version places scope (with_label o Outcome before) (i + 1) ds) r.counts) first.named
    (subst (λ s. AreMet q.counts (children_placed version places s (with_label label Outcome before) (i + 1) ds) r.counts) first.scope
    (later.met (subst (λ s. AreUnseen after s) (sym first.scope) unseen))) in
    let allowed : AreUnseen after scope → IsMet q.counts (label_asked version scope before (label_in d)) q.counts = λ unseen.
    child_label_met version scope before (label_in d) ds q.counts (subst (λ (s : Scope). AreUnseen s scope) labels unseen)
    (subst (λ o. IsMet q.counts (label_asked version before [] o) q.counts) first.named named) in
    record {
      value = item d ds;
      reads = reads_item (5 * levels + 2) old mid new d ds going first.reads later.reads;
      met = λ unseen. part_met p.counts q.counts (item_at i) (sub_placed version places scope before d)
          (children_placed version places scope next (i + 1) ds) (first.met before (allowed unseen)) ∙ met unseen;
      spelled = ap (λ (w : List Tried × Numbers). (subaction_view child ∷ w.0, w.1)) spelled
          ∙ ap (λ (w : Tried × Numbers). (w.0 ∷ (children_spelled block scope w.1 ds).0, (children_spelled block scope w.1 ds).1))
          first.spelled;
      labels = labels;
      scope = later.scope ∙ first.scope;
    }

-- ---- parallel steps

abbrev pub parallel_step : Items → Data
parallel_step ds = object (member (codes "parallel") (array ds) no_members)

module _ (setting : Setting) (scope : Scope) (ds : Items) where
  -- what is asked of the children, and one more node
  pub parallel_met : (places : Places) (start counted next : Counts) → IsMet start (one_more_node setting.version ∷ []) counted
      → AreMet counted (children_placed setting.version places scope [] 0 ds) next
      → AreMet start (step_placed places setting scope (parallel_step ds)) next
  unfolding step_placed parallel_placed parallel_shape_asked sort_of
  parallel_met places start counted next one met =
      let children = children_placed setting.version places scope [] 0 ds in
      let list = inside (member_named (codes "parallel")) children nothing in
      own_first start start (parallel_shape_asked (parallel_step ds)) (itself (one_more_node setting.version ∷ []) list) refl
      ∙ own_first start counted (one_more_node setting.version ∷ []) list one
      ∙ part_met counted next (member_named (codes "parallel")) children nothing met

  -- what the children spell
  pub parallel_spelled : (block : Spelling) (numbers : Numbers) → step_of block setting scope numbers (parallel_step ds)
      ≡ spelled_map (λ (children : List Tried). tree.Parallel (children_of children)) (children_spelled block scope numbers ds)
  unfolding step_of parallel_of sort_of
  parallel_spelled block numbers = refl

  -- the labels that are seen after it
  pub parallel_scope : scope_after setting scope (parallel_step ds) ≡ with_labels (labels_of [] ds) scope
  unfolding scope_after sort_of
  parallel_scope = refl
