-- Steps that were pulled from tokens, as what is asked and spelled of their data.
use Rattle.std.proofs.Common.{◌≡◌, ◌≤◌, ◌+◌, ◌*◌, ℕ, true, false, List, [], ◌∷◌, ◌++◌, Option, None, Some, refl, ap, sym, subst, ◌∙◌, arith}
use Rattle.std.proofs.Common.{rules}
use Rattle.std.specs.Prelude.{codes, is_some}
use Rattle.json.specs.Json.{after_end_array}
use Rattle.json.specs.Token.{Token}
use Rattle.serde_json.specs.Data.{Data, Items, Members, item, member, no_members, string}
use Rattle.meaning.specs.Trees as tree
use Rattle.meaning.specs.declared.template.Template.{Template}
use Rattle.meaning.specs.declared.template.Template.TheVariants.{Given}
use Rattle.meaning.specs.declared.template.Refusal.{Refusal}
use Rattle.meaning.specs.declared.template.Refusal.TheVariants.{GoesOn}
use Rattle.objects.specs.declared.kind.Call.{Call}
use Rattle.batch.specs.declared.tree.Step.{Step, the_lemmas}
use Rattle.batch.specs.Views.{step_view}
use Rattle.doc_tree.specs.declared.counts.Counts.{Counts}
use Rattle.doc_tree.specs.declared.declared.Declared.{Declared}
use Rattle.doc_tree.specs.declared.state.ReaderState.{ReaderState}
use Rattle.doc_rules.specs.declared.rule.NameRule.TheVariants.{Else}
use Rattle.doc_rules.specs.declared.subject.Subject.TheVariants.{Reply}
use Rattle.doc_tree.specs.Answer.{AreMet, IsMet}
use Rattle.doc_tree.specs.Asked.{arguments_asked, else_reason, label_asked, label_in}
use Rattle.doc_tree.specs.Asked.{operation_asked, operation_verb, part, reason_asked, scope_after, sort_of, target_asked}
use Rattle.doc_tree.specs.Asked.{operation_shape_asked}
use Rattle.doc_tree.specs.Demand.{one_more_operation}
use Rattle.doc_tokens.specs.Pulled.{ReadsItems, ReadsMembers, ReadsValue, first_key, labelled, may_abort, op_array, op_step, reason_in}
use Rattle.doc_tokens.specs.Pulled.{refusal_told, with_abort}
use Rattle.doc_tokens.specs.PulledBlocks.{SpellsPlainStep, SpellsStep, SpellsSteps}
use Rattle.doc_tokens.proofs.PulledLemmas.{reads_array, reads_deeper, reads_item, reads_member, reads_object, reads_string}
use Rattle.doc_tree.specs.Scope.{Extends, Numbers, Scope, Setting, numbers_of, scope_of, setting_of, with_label}
use Rattle.doc_tree.specs.Spelled.{Spelling, block_of, operation_of, operation_step, refusal_of, spelled_map, step_of, steps_spelled}
use Rattle.doc_tree.specs.Spelled.{target_of, template_of}
use Rattle.doc_tree.specs.declared.steps.Sort.TheVariants.{Operation}
use Rattle.doc_tree.proofs.Checks.{check_met}
use Rattle.doc_tree.specs.Places.{Places, block_placed, item_at, step_placed, steps_placed}
use Rattle.doc_tree.proofs.PlaceLemmas.{own_met, part_met}
use Rattle.doc_tree.proofs.LabelLemmas.{extends_twice, scope_after_extends}

pub op_part : (label : Option (List ℕ)) (abort : Option (Option (List ℕ))) (op : Data) → part (codes "op") (op_step label abort op) ≡ op
op_part None None op = refl
op_part (Some name) None op = refl
op_part None (Some None) op = refl
op_part (Some name) (Some None) op = refl
op_part None (Some (Some reason)) op = refl
op_part (Some name) (Some (Some reason)) op = refl

pub op_label : (label : Option (List ℕ)) (abort : Option (Option (List ℕ))) (op : Data) → label_in (op_step label abort op) ≡ label
op_label None None op = refl
op_label (Some name) None op = refl
op_label None (Some None) op = refl
op_label (Some name) (Some None) op = refl
op_label None (Some (Some reason)) op = refl
op_label (Some name) (Some (Some reason)) op = refl

pub op_sort : (label : Option (List ℕ)) (abort : Option (Option (List ℕ))) (op : Data) → sort_of (op_step label abort op) ≡ Some Operation
unfolding sort_of
op_sort None None op = refl
op_sort (Some name) None op = refl
op_sort None (Some None) op = refl
op_sort (Some name) (Some None) op = refl
op_sort None (Some (Some reason)) op = refl
op_sort (Some name) (Some (Some reason)) op = refl

-- the reason of its `else` is found
op_reason : (label : Option (List ℕ)) (abort : Option (Option (List ℕ))) (op : Data)
    → else_reason (op_step label abort op) ≡ reason_in abort
op_reason None None op = refl
op_reason (Some name) None op = refl
op_reason None (Some None) op = refl
op_reason (Some name) (Some None) op = refl
op_reason None (Some (Some reason)) op = refl
op_reason (Some name) (Some (Some reason)) op = refl

-- of no reason nothing is asked
pub no_reason_met : (version : ℕ) (counts : Counts) → IsMet counts (reason_asked version Else None) counts
unfolding reason_asked
no_reason_met version counts = refl

-- and of no label
pub no_label_met : (version : ℕ) (scope : Scope) (counts : Counts) → IsMet counts (label_asked version scope [] None) counts
unfolding label_asked
no_label_met version scope counts = refl

-- what its refusal does is found too
op_refusal : (label : Option (List ℕ)) (abort : Option (Option (List ℕ))) (op : Data) (numbers : Numbers)
    → refusal_of numbers (op_step label abort op) ≡ refusal_told numbers abort
unfolding refusal_of
op_refusal None None op numbers = refl
op_refusal (Some name) None op numbers = refl
op_refusal None (Some None) op numbers = refl
op_refusal (Some name) (Some None) op numbers = refl
op_refusal None (Some (Some reason)) op numbers = refl
op_refusal (Some name) (Some (Some reason)) op numbers = refl

pub op_shape : (version : ℕ) (label : Option (List ℕ)) (abort : Option (Option (List ℕ))) (o c : List ℕ) (rest : Items) (counts : Counts)
    → may_abort version abort ≡ true → IsMet counts (operation_shape_asked version (op_step label abort (op_array o c rest))) counts
unfolding operation_shape_asked
op_shape version None None o c rest counts may = refl
op_shape version (Some name) None o c rest counts may = refl
op_shape version None (Some None) o c rest counts may = rw may refl
op_shape version (Some name) (Some None) o c rest counts may = rw may refl
op_shape version None (Some (Some reason)) o c rest counts may = rw may refl
op_shape version (Some name) (Some (Some reason)) o c rest counts may = rw may refl

-- ---- the operation

-- a step whose call is given, without a label
pub plain_shown : (object target : ℕ) (call : Call) (template : Template) → object ≡ target → template ≡ Given call
    → step_view (Step.Op object call false) ≡ operation_step target template false GoesOn
plain_shown object target call template placed given = rw (placed, given) (search (rules, the_lemmas))

-- its tokens are those of its array, and then of what follows the array
pub operation_reads : (label : Option (List ℕ)) (abort : Option (Option (List ℕ))) (o c : List ℕ) (rest : Items)
    (old args mid new : List Token)
    → old ≡ Token.begin_array ∷ Token.string o ∷ Token.string c ∷ args → ReadsItems 1 args rest mid
    → ((found : Members) → ReadsMembers 0 found mid (with_abort abort (labelled label found)) new)
    → ReadsValue 3 (Token.begin_object ∷ Token.key (codes "op") ∷ old) (op_step label abort (op_array o c rest)) new
operation_reads label abort o c rest old args mid new tokens given after =
    let op = op_array o c rest in
    let call = reads_item 1 _ _ _ (string c) _ refl (reads_string 1 c _) given in
    let list = reads_item 1 _ _ _ (string o) _ refl (reads_string 1 o _) call in
    let members = reads_member 2 no_members (codes "op") _ _ mid new op _ refl (omega arith) (reads_array 1 _ _ _ list)
    (λ depth n le enough. after (member (codes "op") op no_members) depth n (omega arith) enough) in
    subst (λ ts. ReadsValue 3 (Token.begin_object ∷ Token.key (codes "op") ∷ ts) (op_step label abort op) new) (sym tokens)
    (reads_object 2 _ _ new members)

module _ (setting : Setting) (scope : Scope) (label : Option (List ℕ)) (abort : Option (Option (List ℕ)))
    (o c : List ℕ) (rest : Items) where
  abbrev op : Data
  op = op_array o c rest

  pub operation_met : (places : Places) (start next last : Counts) → may_abort setting.version abort ≡ true
      → IsMet start (one_more_operation setting.version ∷ []) next
      → IsMet next (target_asked setting o c) next
      → IsMet next (arguments_asked setting.version scope (operation_verb setting o c) op) next
      → IsMet next (reason_asked setting.version Else (reason_in abort)) last
      → IsMet last (label_asked setting.version scope [] label) last
      → AreMet start (step_placed places setting scope (op_step label abort op)) last
  unfolding step_placed operation_asked
  operation_met places start next last may counted target arguments reason labels =
      let d = op_step label abort op in
      let named_last = label_asked setting.version scope [] label in
      let reasons = reason_asked setting.version Else (reason_in abort) in
      let given = arguments_asked setting.version scope (operation_verb setting o c) op in
      let named = target_asked setting o c in
      let one = one_more_operation setting.version ∷ [] in
      let shape = operation_shape_asked setting.version d in
      let first = check_met start start shape one (op_shape setting.version label abort o c rest start may) ∙ counted in
      let second = check_met start next (shape ++ one) named first ∙ target in
      let third = check_met start next (shape ++ one ++ named) given second ∙ arguments in
      let fourth = check_met start next (shape ++ one ++ named ++ given) reasons third ∙ reason in
      let fifth = check_met start last (shape ++ one ++ named ++ given ++ reasons) named_last fourth ∙ labels in
      rw (op_sort label abort op, op_part label abort op, op_label label abort op, op_reason label abort op)
      (own_met start last (shape ++ one ++ named ++ given ++ reasons ++ named_last) fifth)

  pub operation_spelled : (block : Spelling) (numbers mid after : Numbers) (template : Template) (refusal : Refusal) (step : tree.Step)
      → step ≡ operation_step (target_of setting o) template (is_some label) refusal
      → (template, mid) ≡ template_of setting.version scope (operation_verb setting o c) numbers op
      → (refusal, after) ≡ refusal_told mid abort
      → (step, after) ≡ step_of block setting scope numbers (op_step label abort op)
  unfolding step_of operation_of
  operation_spelled block numbers mid after template refusal step shown e told =
      rw (op_sort label abort op, op_part label abort op, op_label label abort op, ← e, op_refusal label abort op mid, shown)
      (ap (spelled_map (operation_step (target_of setting o) template (is_some label))) told)

  pub operation_scope : scope_after setting scope (op_step label abort op)
      ≡ with_label label (Reply (operation_verb setting o c)) scope
  unfolding scope_after
  operation_scope = rw (op_sort label abort op, op_part label abort op, op_label label abort op) refl

-- ---- any step

-- a step without blocks is one with blocks within any number of levels
pub plain_step : {k : ℕ} {declared : Declared} {old new : List Token} {p q : ReaderState} {step : Step} (levels : ℕ)
    → SpellsPlainStep k declared old new p q step → SpellsStep k levels declared old new p q step
plain_step {k} {declared} levels w = record {
  value = w.value;
  reads = w.reads;
  met = w.met (block_placed (setting_of declared) levels);
  spelled = w.spelled (block_of (setting_of declared) levels);
  scope = w.scope;
}

-- a step whose first key was read is one from its beginning on
pub step_begun : {k levels : ℕ} {declared : Declared} {old inside new : List Token} {p q : ReaderState} {name : List ℕ} {step : Step}
    → old ≡ first_key name inside → SpellsStep k levels declared (first_key name inside) new p q step → k ≤ 5 * levels + 4
    → SpellsStep (5 * levels + 4) levels declared old new p q step
step_begun {k} {levels} {declared} {old} {inside} {new} begun w le = record {
  value = w.value;
  reads = subst (λ ts. ReadsValue (5 * levels + 4) ts w.value new) (sym begun) (reads_deeper k (5 * levels + 4) _ w.value new le w.reads);
  met = w.met;
  spelled = w.spelled;
  scope = w.scope;
}

-- a step before others
pub steps_more : (i levels : ℕ) (declared : Declared) (old mid new : List Token) (p q r : ReaderState) (step : Step) (steps : List Step)
    → after_end_array old ≡ None → SpellsStep (5 * levels + 4) levels declared old mid p q step
    → SpellsSteps (i + 1) levels declared mid new q r steps → SpellsSteps i levels declared old new p r (step ∷ steps)
steps_more i levels declared old mid new p q r step steps going first later =
    let setting = setting_of declared in
    let places = block_placed setting levels in
    let block = block_of setting levels in
    let here = scope_of p.labels.entries in
    let d = first.value in
    let ds = later.value in
    let met = subst (λ s. AreMet q.counts (steps_placed places setting s (i + 1) ds) r.counts) first.scope later.met in
    let spelled = later.spelled ∙ ap (λ s. steps_spelled block setting s (numbers_of q.numbering) ds) first.scope in
    record {
      value = item d ds;
      reads = reads_item (5 * levels + 4) old mid new d ds going first.reads later.reads;
      met = part_met p.counts q.counts (item_at i) (step_placed places setting here d)
          (steps_placed places setting (scope_after setting here d) (i + 1) ds) first.met ∙ met;
      spelled = ap (λ (w : List tree.Step × Numbers). (step_view step ∷ w.0, w.1)) spelled
          ∙ ap (λ (w : tree.Step × Numbers). (
            w.0 ∷ (steps_spelled block setting (scope_after setting here d) w.1 ds).0,
            (steps_spelled block setting (scope_after setting here d) w.1 ds).1,
          )) first.spelled;
      extends = extends_twice _ _ _ (subst (λ s. Extends here s) (sym first.scope) (scope_after_extends setting here d)) later.extends;
    }
