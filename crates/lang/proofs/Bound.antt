-- Operations that fit, and labels that are bound.
use Rattle.std.proofs.Common.{◌≡◌, ℕ, zero, suc, ◌+◌, ◌≤◌, ◌<◌, Bool, true, false, cond, not, ◌||◌, List, [], ◌∷◌, length, map, Option}
use Rattle.std.proofs.Common.{None, Some, refl, sym, ap, subst, ◌∙◌, arith}
use Rattle.std.specs.Prelude.{is_some, unwrap_or, option_and_then, slice_get, IsTrue, IsSomeAnd}
use Rattle.std.specs.List.{position_or_len}
use Rattle.std.specs.Map.{keys_of}
use Rattle.std.specs.Str.{bytes_eq}
use Rattle.std.proofs.lemmas.Bool.{lt-ltb}
use Rattle.std.proofs.lemmas.Option.{slice_get_within}
use Rattle.std.proofs.lemmas.List.{length-map}
use Rattle.serde_json.specs.Data.{Data}
use Rattle.objects.specs.declared.kind.Kind.{Kind}
use Rattle.meaning.specs.declared.test.Test.{Test}
use Rattle.meaning.specs.declared.test.Test.TheVariants.{Is, AtLeast, IsItem}
use Rattle.meaning.specs.WellFormed.{Label, OfVerb, OfSubaction, CallFits, VerbFits, ArgumentFits, ArgumentsFit, IsSeenWith}
use Rattle.meaning.specs.WellFormed.{IsWellFormedStep}
use Rattle.meaning.specs.WellFormed.{added_by, added_if, label_has, operations_of_step, test_fits}
use Rattle.meaning.specs.Filling.{template_verb}
use Rattle.meaning.specs.declared.template.Argument.{Argument}
use Rattle.meaning.specs.declared.template.Argument.TheVariants as argument
use Rattle.meaning.specs.declared.template.Refusal.{Refusal}
use Rattle.meaning.specs.declared.template.Refusal.TheVariants.{GoesOn, Aborts}
use Rattle.meaning.specs.declared.template.Template.{Template}
use Rattle.meaning.specs.declared.template.Template.TheVariants as template
use Rattle.meaning.proofs.Fillings.{filled_law}
use Rattle.atoms.specs.declared.amount.Amount.{Amount}
use Rattle.atoms.specs.declared.item.Item.{Item}
use Rattle.objects.specs.declared.kind.Call.{Call}
use Rattle.batch.specs.Limits.{depth_of_step, nodes_of_step}
use Rattle.doc_rules.specs.declared.rule.OperandPlace.{OperandPlace}
use Rattle.doc_rules.specs.declared.rule.OperandPlace.TheVariants.{Third, Fourth}
use Rattle.doc_rules.specs.declared.rule.SourceRule.{SourceRule}
use Rattle.doc_rules.specs.declared.rule.SourceRule.TheVariants.{Number, Item as HasItem}
use Rattle.vocabulary.specs.declared.verb.AmountVerb.{AmountVerb}
use Rattle.vocabulary.specs.declared.verb.ItemVerb.{ItemVerb}
use Rattle.vocabulary.specs.declared.verb.PairVerb.{PairVerb}
use Rattle.doc_tree.specs.Demand.{Demand}
use Rattle.doc_tree.specs.Look.{or_empty}
use Rattle.vocabulary.specs.declared.verb.LoneVerb.TheVariants.{Balance}
use Rattle.vocabulary.specs.declared.verb.Verb.{Verb}
use Rattle.vocabulary.specs.declared.verb.Verb.TheVariants.{OfAmount, OfItem, OfPair, Alone}
use Rattle.doc_rules.specs.declared.subject.Subject.{Subject}
use Rattle.doc_rules.specs.declared.subject.Subject.TheVariants.{Reply, Outcome}
use Rattle.doc_tree.specs.Scope.{Numbers, Scope, Setting, Table, is_listed, kind_named, label_number, named, place_of}
use Rattle.doc_rules.specs.Subjects.{fits_item, fits_number, fits_word}
use Rattle.vocabulary.specs.Words.{HasKind, amount_call, has_item, has_number, phrase_verb, verb_of, verb_of_text}
use Rattle.vocabulary.proofs.Words.{amount_phrase, item_phrase, lone_phrase, named_has, pair_phrase}
use Rattle.doc_tree.specs.Asked.{amount_asked, argument_asked, arguments_asked, call_named, index_of, is_source, object_of, source_asked}
use Rattle.doc_tree.specs.Asked.{source_label, subject_of, target_asked, verb_at, verb_in}
use Rattle.doc_tree.specs.Spelled.{argument_of, item_template, operation_step, or_zero, pair_template, source_of, target_of, template_of}
use Rattle.doc_tree.proofs.MetLemmas.{AllMet, first_met, rest_met}
use Rattle.doc_merge.proofs.NumberedTexts.{fit_same}

-- ---- places

-- a listed text is at some place within the table
pub within : (text : List ℕ) (table : Table) → is_listed text table ≡ true → position_or_len (bytes_eq text) table + 1 ≤ length table
within text [] listed = cc
within text (t ∷ table) listed = by (bytes_eq text t) (λ h. within text table h) listed
  where
    by : (b : Bool) → (is_listed text table ≡ true → position_or_len (bytes_eq text) table + 1 ≤ length table)
        → (b || is_listed text table) ≡ true → cond (not b) (1 + position_or_len (bytes_eq text) table) 0 + 1 ≤ length (t ∷ table)
    by true later h = omega arith
    by false later h = omega (arith, later h)

pub found : (text : List ℕ) (table : Table) → is_listed text table ≡ true
    → place_of text table ≡ Some (position_or_len (bytes_eq text) table)
found text table listed = ap (λ b. cond b (Some (position_or_len (bytes_eq text) table)) None)
    (lt-ltb (position_or_len (bytes_eq text) table) (length table) (omega (arith, within text table listed)))

-- a place within a list has an element
pub there : {A : Type 0} (xs : List A) (i : ℕ) → i + 1 ≤ length xs → (x : A) × (slice_get xs i ≡ Some x)
there [] i h = absurd (omega arith)
there (x ∷ xs) zero h = (x, refl)
there (x ∷ xs) (suc i) h = there xs i (omega arith)

pub some_of : {A : Type 0} (o : Option A) → is_some o ≡ true → (x : A) × (o ≡ Some x)
some_of (Some x) h = (x, refl)
some_of None h = cc

-- ---- operations

item_template_verb : (v : ItemVerb) (x : Argument) → template_verb (item_template v x) ≡ OfItem v
item_template_verb v (argument.Is x) = ap phrase_verb (item_phrase v x)
item_template_verb v (argument.From label) = refl

pair_template_verb : (v : PairVerb) (k x : Argument) → template_verb (pair_template v k x) ≡ OfPair v
pair_template_verb v (argument.Is k) (argument.Is x) = ap phrase_verb (pair_phrase v k x)
pair_template_verb v (argument.Is k) (argument.From label) = refl
pair_template_verb v (argument.From label) x = refl

amount_template_verb : (v : AmountVerb) (source : Bool) (label : ℕ) (a : Amount)
    → template_verb (cond source (template.OfAmount v label) (template.Given (amount_call v a))) ≡ OfAmount v
amount_template_verb v true label a = refl
amount_template_verb v false label a = ap phrase_verb (amount_phrase v a)

-- what is spelled of a verb is of it
pub verb_is : (version : ℕ) (scope : Scope) (v : Verb) (numbers : Numbers) (op : Data)
    → template_verb (template_of version scope v numbers op).0 ≡ v
unfolding template_of
verb_is version scope (OfAmount v) numbers op = amount_template_verb v (is_source version 2 op) _ _
verb_is version scope (OfItem v) numbers op = item_template_verb v (argument_of version scope 2 numbers op).0
verb_is version scope (OfPair v) numbers op =
    let key = argument_of version scope 2 numbers op in
    pair_template_verb v key.0 (argument_of version scope 3 key.1 op).0
verb_is version scope (Alone v) numbers op = ap phrase_verb (lone_phrase v)

-- a given call fits where its verb does
given_fits : (ks : List Kind) (object : ℕ) (c : Call) → VerbFits ks object (verb_of c) → CallFits ks object c
given_fits ks object c fits = (filled_law [] (template.Given c) c refl).1 ks object fits

-- the verb that an operation names fits the object that it names
pub verb_fits : (setting : Setting) (op : Data) → length setting.names ≡ length setting.kinds
    → AllMet (target_asked setting (object_of op) (call_named op))
    → VerbFits setting.kinds (target_of setting (object_of op)) (verb_in setting op)
unfolding target_asked
verb_fits setting op paired met =
    let object = object_of op in
    let i = position_or_len (bytes_eq object) setting.names in
    let place = found object setting.names met.0 in
    let k = there setting.kinds i (omega (arith, within object setting.names met.0)) in
    let named_here : kind_named object setting ≡ Some k.0 = ap (option_and_then (slice_get setting.kinds)) place ∙ k.1 in
    let v = some_of (verb_at setting object (call_named op)) met.1.0 in
    let at_kind : verb_of_text setting.version k.0 (call_named op) ≡ Some v.0 =
    sym (ap (option_and_then (λ x. verb_of_text setting.version x (call_named op))) named_here) ∙ v.1 in
    let is_verb : verb_in setting op ≡ v.0 = ap (λ o. unwrap_or o (Alone Balance)) v.1 in
    let target : target_of setting object ≡ i = ap or_zero place in
    rw (target, is_verb)
    (subst (λ o. IsSomeAnd o (λ x. HasKind x v.0)) (sym k.1) (named_has setting.version k.0 (call_named op) v.0 at_kind))

-- the step fits where its verb and its arguments do
pub step_fits : (ks : List Kind) (object : ℕ) (t : Template) (labelled : Bool) (refusal : Refusal) (labels : List Label)
    → VerbFits ks object (template_verb t) → ArgumentsFit labels t → IsWellFormedStep (operation_step object t labelled refusal) labels ks
step_fits ks object (template.Given call) labelled GoesOn labels fits arguments = given_fits ks object call fits
step_fits ks object (template.Given call) labelled (Aborts reason) labels fits arguments = (fits, tt)
step_fits ks object (template.OfAmount v label) labelled refusal labels fits arguments = (fits, arguments)
step_fits ks object (template.OfItem v label) labelled refusal labels fits arguments = (fits, arguments)
step_fits ks object (template.OfPair v key x) labelled refusal labels fits arguments = (fits, arguments)

-- what the step counts as, and the label that it adds
pub step_adds : (object : ℕ) (t : Template) (labelled : Bool) (refusal : Refusal)
    → let step = operation_step object t labelled refusal in
    (added_by step ≡ added_if labelled (OfVerb (template_verb t))) × (operations_of_step step ≡ 1) × (nodes_of_step step ≡ 0)
    × (depth_of_step step ≡ 0)
step_adds object (template.Given call) labelled GoesOn = (refl, refl, refl, refl)
step_adds object (template.Given call) labelled (Aborts reason) = (refl, refl, refl, refl)
step_adds object (template.OfAmount v label) labelled refusal = (refl, refl, refl, refl)
step_adds object (template.OfItem v label) labelled refusal = (refl, refl, refl, refl)
step_adds object (template.OfPair v key x) labelled refusal = (refl, refl, refl, refl)

-- ---- labels

unfoldable pub subject_of_label : Label → Subject
subject_of_label (OfVerb v) = Reply v
subject_of_label OfSubaction = Outcome

abbrev pub subjects : Scope → List Subject
subjects scope = map (λ label. label.1) scope

-- the labels that a scope names
abbrev pub AreSeen : Scope → List Label → Type 0
AreSeen scope labels = subjects scope ≡ map subject_of_label labels

abbrev pub fits : Test → Subject → Bool
fits (Is w) subject = fits_word subject w
fits (AtLeast n) subject = fits_number subject
fits (IsItem i) subject = fits_item subject

test_fits_label : (test : Test) (label : Label) → test_fits test label ≡ fits test (subject_of_label label)
unfolding subject_of_label
test_fits_label (Is w) (OfVerb v) = refl
test_fits_label (AtLeast n) (OfVerb v) = refl
test_fits_label (IsItem i) (OfVerb v) = refl
test_fits_label (Is w) OfSubaction = refl
test_fits_label (AtLeast n) OfSubaction = refl
test_fits_label (IsItem i) OfSubaction = refl

suc_is : (n : ℕ) → suc n ≡ 1 + n
suc_is n = omega arith

-- what a label is of is at its place
named_at : (name : List ℕ) (scope : Scope) (subject : Subject) → named name scope ≡ Some subject
    → slice_get (subjects scope) (position_or_len (bytes_eq name) (keys_of scope)) ≡ Some subject
named_at name [] subject e = cc
named_at name (label ∷ scope) subject e = by (bytes_eq name label.0) (named_at name scope subject) e
  where
    by : (b : Bool) → (named name scope ≡ Some subject → slice_get (subjects scope) (position_or_len (bytes_eq name) (keys_of scope))
        ≡ Some subject) → cond b (Some label.1) (named name scope) ≡ Some subject
        → slice_get (subjects (label ∷ scope)) (cond (not b) (1 + position_or_len (bytes_eq name) (keys_of scope)) 0) ≡ Some subject
    by true later h = h
    by false later h = subst (λ i. slice_get (subjects (label ∷ scope)) i ≡ Some subject)
        (suc_is (position_or_len (bytes_eq name) (keys_of scope))) (later h)

of_label : (labels : List Label) (i : ℕ) (subject : Subject) → slice_get (map subject_of_label labels) i ≡ Some subject → (label : Label)
    × (slice_get labels i ≡ Some label) × (subject_of_label label ≡ subject)
of_label [] i subject e = cc
of_label (label ∷ labels) zero subject e = (label, refl, cc)
of_label (label ∷ labels) (suc i) subject e = of_label labels i subject e

-- a label that is seen is bound to what is true of it, where few are seen
bound_to : (name : List ℕ) (scope : Scope) (labels : List Label) (test : Label → Bool) (of : Subject → Bool) (subject : Subject)
    → ((label : Label) → test label ≡ of (subject_of_label label)) → AreSeen scope labels
    → length scope < 4294967295 → named name scope ≡ Some subject → of subject ≡ true
    → IsSomeAnd (slice_get labels (label_number name scope)) (λ seen. IsTrue (test seen))
bound_to name scope labels test of subject same seen few is fitting =
    let i = position_or_len (bytes_eq name) (keys_of scope) in
    let here = named_at name scope subject is in
    let short : i < length scope = subst (λ n. i < n) (length-map scope (λ label. label.1))
    (slice_get_within (subjects scope) i subject here) in
    let label = of_label labels i subject (ap (λ xs. slice_get xs i) (sym seen) ∙ here) in
    let number : label_number name scope ≡ i = fit_same i (omega arith) in
    let fits_here : test label.0 ≡ true = same label.0 ∙ ap of label.2 ∙ fitting in
    rw (number, label.1) fits_here

pub bound : (name : List ℕ) (scope : Scope) (labels : List Label) (test : Test) (subject : Subject) → AreSeen scope labels
    → length scope < 4294967295 → named name scope ≡ Some subject → fits test subject ≡ true
    → IsSomeAnd (slice_get labels (label_number name scope)) (λ seen. IsTrue (test_fits test seen))
bound name scope labels test subject seen few is fitting =
    bound_to name scope labels (test_fits test) (fits test) subject (test_fits_label test) seen few is fitting

-- ---- arguments that labels give

-- the labels that a scope names, and that they are few
module _ (scope : Scope) (labels : List Label) (seen : AreSeen scope labels) (few : length scope < 4294967295) where
  source_fits : (has : Verb → Bool) (of : Subject → Bool) (rule : Subject → SourceRule) (place : OperandPlace) (op : Data)
      → ((label : Label) → label_has has label ≡ of (subject_of_label label)) → AllMet (source_asked scope of rule place op)
      → IsSeenWith has labels (source_of scope (index_of place) op)
  unfolding source_asked
  source_fits has of rule place op same met =
      let name = or_empty (source_label (index_of place) op) in
      let subject = some_of (named name scope) met.1.0 in
      let is : subject_of name scope ≡ subject.0 = ap (λ o. unwrap_or o Outcome) subject.1 in
      bound_to name scope labels (label_has has) of subject.0 same seen few subject.1 (sym (ap of is) ∙ met.1.1.0)

  has_number_of : (label : Label) → label_has has_number label ≡ fits_number (subject_of_label label)
  unfolding subject_of_label
  has_number_of (OfVerb v) = refl
  has_number_of OfSubaction = refl

  has_item_of : (label : Label) → label_has has_item label ≡ fits_item (subject_of_label label)
  unfolding subject_of_label
  has_item_of (OfVerb v) = refl
  has_item_of OfSubaction = refl

  amount_fits : (v : AmountVerb) (op : Data) (source : Bool) (ds : List Demand) (call : Call)
      → AllMet (cond source (source_asked scope fits_number Number Third op) ds)
      → ArgumentsFit labels (cond source (template.OfAmount v (source_of scope 2 op)) (template.Given call))
  amount_fits v op true ds call met = source_fits has_number fits_number Number Third op has_number_of met
  amount_fits v op false ds call met = tt

  argument_fits : (place : OperandPlace) (op : Data) (source : Bool) (ds : List Demand) (x : Item) (before after : Numbers)
      → AllMet (cond source (source_asked scope fits_item HasItem place op) ds)
      → ArgumentFits labels
      (cond {A = Argument × Numbers} source (argument.From (source_of scope (index_of place) op), before) (argument.Is x, after)).0
  argument_fits place op true ds x before after met = source_fits has_item fits_item HasItem place op has_item_of met
  argument_fits place op false ds x before after met = tt

  item_fits : (v : ItemVerb) (x : Argument) → ArgumentFits labels x → ArgumentsFit labels (item_template v x)
  item_fits v (argument.Is x) fits_here = tt
  item_fits v (argument.From label) fits_here = fits_here

  pair_fits : (v : PairVerb) (k x : Argument) → ArgumentFits labels k → ArgumentFits labels x → ArgumentsFit labels (pair_template v k x)
  pair_fits v (argument.Is k) (argument.Is x) key other = tt
  pair_fits v (argument.Is k) (argument.From label) key other = (key, other)
  pair_fits v (argument.From label) x key other = (key, other)

  pub arguments_fit : (version : ℕ) (v : Verb) (numbers : Numbers) (op : Data) → AllMet (arguments_asked version scope v op)
      → ArgumentsFit labels (template_of version scope v numbers op).0
  unfolding arguments_asked amount_asked argument_asked template_of
  arguments_fit version (OfAmount v) numbers op met = amount_fits v op (is_source version 2 op) _ _ met.1
  arguments_fit version (OfItem v) numbers op met =
      item_fits v (argument_of version scope 2 numbers op).0 (argument_fits Third op (is_source version 2 op) _ _ _ _ met.1)
  arguments_fit version (OfPair v) numbers op met =
      let key = argument_of version scope 2 numbers op in
      let asked_first = argument_asked version scope Third op in
      let asked_second = argument_asked version scope Fourth op in
      pair_fits v key.0 (argument_of version scope 3 key.1 op).0
      (argument_fits Third op (is_source version 2 op) _ _ _ _ (first_met asked_first asked_second met.1))
      (argument_fits Fourth op (is_source version 3 op) _ _ _ _ (rest_met asked_first asked_second met.1))
  arguments_fit version (Alone v) numbers op met = tt
