-- What the run of a well-formed block keeps, and why no call in it lacks room.
use Rattle.std.specs.Prelude.{◌≡◌, ℕ, ◌+◌, ◌*◌, ◌≤◌, Bool, List, [], ◌∷◌, ◌++◌, length, take, Option, Some, IsTrue, IsSomeAnd, slice_get, ⊤}
use Rattle.objects.specs.Objects.{one_value, Fits, ObjectHasRoom}
use Rattle.objects.specs.declared.kind.Value.{Value}
use Rattle.objects.specs.declared.kind.Kind.{Kind}
use Rattle.objects.specs.declared.kind.Reply.{Reply}
use Rattle.objects.specs.declared.kind.Call.{Call}
use Rattle.vocabulary.specs.Words.{has_item, has_number, verb_of}
use Rattle.vocabulary.specs.declared.verb.Verb.{Verb}
use Rattle.meaning.specs.declared.template.Argument.{Argument}
use Rattle.meaning.specs.declared.template.Argument.TheVariants as argument
use Rattle.meaning.specs.declared.template.Template.{Template}
use Rattle.meaning.specs.declared.template.Template.TheVariants.{Given, OfAmount, OfItem, OfPair}
use Rattle.meaning.specs.Filling.{fill, template_verb}
use Rattle.meaning.specs.declared.end.End.TheVariants.{Ended}
use Rattle.meaning.specs.declared.test.Test.{Test}
use Rattle.objects.specs.declared.entry.Entry.{Entry}
use Rattle.objects.specs.Entries.{State, kinds, after_call, after}
use Rattle.meaning.specs.Records.{entries}
use Rattle.meaning.specs.Trees.{Block, Step, Handlers, Children}
use Rattle.meaning.specs.declared.held.Held.{Held}
use Rattle.meaning.specs.declared.held.Held.TheVariants.{Replied, Outcome}
use Rattle.meaning.specs.OneThread.{record_of, outcome_of, labels_of, state_of, one, one_step, one_handler, one_children}
use Rattle.meaning.specs.Batch.{state_at}
use Rattle.meaning.specs.WellFormed.{Label, OfVerb, OfSubaction, CallFits, VerbFits, label_has, ArgumentsFit, test_fits, added_by}
use Rattle.meaning.specs.WellFormed.{added_by_children, operations}
use Rattle.meaning.specs.WellFormed.{operations_of_step, operations_of_handlers, operations_of_children, largest, largest_amount}
use Rattle.meaning.specs.WellFormed.{StateHasRoom}
use Rattle.meaning.specs.declared.limits.TheConstants.{MAX_OPERATIONS, MAX_START}

-- after at most so many operations
pub record KeepsKinds (count : ℕ) (before after : State) : Type 0 where
  pub same_kinds : kinds after ≡ kinds before
  pub growth : largest after ≤ largest before + largest_amount * count

-- A call that fits, in a state with room for one more operation, can be performed.
pub record CanPerform (state : State) (object : ℕ) (call : Call) : Type 0 where
  pub fits : Fits state object call
  pub room : ObjectHasRoom state object call

abbrev pub PerformLaw : Type 0
PerformLaw =
    (state : State) (object : ℕ) (call : Call)
    → CallFits (kinds state) object call
    → StateHasRoom state 1
    → CanPerform state object call

-- A call that is made from a template is of its verb, so it fits where the template does.
abbrev pub FilledLaw : Type 0
FilledLaw =
    (held : List Held) (template : Template) (call : Call)
    → fill held template ≡ Some call
    → (verb_of call ≡ template_verb template)
    × ((ks : List Kind) (object : ℕ) → VerbFits ks object (template_verb template) → CallFits ks object call)

-- A state that some operations led to has room for the others.
abbrev pub LimitLaw : Type 0
LimitLaw =
    (state : State) (done left : ℕ)
    → largest state ≤ MAX_START + largest_amount * done
    → done + left ≤ MAX_OPERATIONS
    → StateHasRoom state left

abbrev pub CallKeepsLaw : Type 0
CallKeepsLaw = (state : State) (object : ℕ) (call : Call) → KeepsKinds 1 state (after_call state object call)

-- A run performs no more operations than its tree has.
abbrev pub BlockKeepsLaw : Type 0
BlockKeepsLaw = (block : Block) (labels : List Held) (state : State)
    → KeepsKinds (operations block) state (state_of (one block labels state))

abbrev pub StepKeepsLaw : Type 0
StepKeepsLaw = (step : Step) (labels : List Held) (state : State) → KeepsKinds (operations_of_step step) state
    (state_of (one_step step labels state))

abbrev pub HandlersKeepLaw : Type 0
HandlersKeepLaw =
    (handlers : Handlers) (labels : List Held) (reason : Option ℕ) (state : State) → KeepsKinds (operations_of_handlers handlers) state
    (state_of (one_handler handlers labels reason state))

abbrev pub ChildrenKeepLaw : Type 0
ChildrenKeepLaw = (children : Children) (labels : List Held) (state : State) → KeepsKinds (operations_of_children children) state
    (state_of (one_children children labels state))

-- So do entries, and a run has no more entries than its tree has operations.
abbrev pub EntriesKeepLaw : Type 0
EntriesKeepLaw = (state : State) (ps : List Entry) → KeepsKinds (length ps) state (after state ps)

abbrev pub EntriesCountLaw : Type 0
EntriesCountLaw = (block : Block) (labels : List Held) (state : State) → length (entries (record_of (one block labels state))) ≤ operations
    block

-- The states of a batch, too.
abbrev pub all_operations : List Block → ℕ
all_operations [] = 0
all_operations (block ∷ blocks) = operations block + all_operations blocks

abbrev pub BatchKeepsLaw : Type 0
BatchKeepsLaw = (start : State) (batch : List Block) (b : ℕ) → b ≤ length batch → KeepsKinds (all_operations (take b batch)) start
    (state_at start batch b)

-- a call of the verb has this reply at some value
pub record IsReplyTo (v : Verb) (reply : Reply) : Type 0 where
  pub call : Call
  pub is_of : verb_of call ≡ v
  pub value : Value
  pub is : one_value.reply value call ≡ Some reply

-- what a label of this kind can hold
abbrev pub IsHeldBy : Held → Label → Type 0
IsHeldBy (Replied reply) (OfVerb v) = IsReplyTo v reply
IsHeldBy (Outcome outcome) OfSubaction = ⊤
IsHeldBy held label = ⊥

-- each of the labels that are seen holds what it can
abbrev pub AreHeldBy : List Held → List Label → Type 0
AreHeldBy [] [] = ⊤
AreHeldBy (held ∷ others) (label ∷ labels) = IsHeldBy held label × AreHeldBy others labels
AreHeldBy held labels = ⊥

-- A step that ends adds its labels, and they hold what they can.
abbrev pub StepLabelsLaw : Type 0
StepLabelsLaw =
    (step : Step) (labels : List Held) (state : State)
    → outcome_of (one_step step labels state) ≡ Ended
    → AreHeldBy (labels_of (one_step step labels state)) (added_by step)

abbrev pub ChildrenLabelsLaw : Type 0
ChildrenLabelsLaw =
    (children : Children) (labels : List Held) (state : State)
    → outcome_of (one_children children labels state) ≡ Ended
    → AreHeldBy (labels_of (one_children children labels state)) (added_by_children children)

abbrev pub MoreLabelsLaw : Type 0
MoreLabelsLaw =
    (held more : List Held) (labels added : List Label)
    → AreHeldBy held labels
    → AreHeldBy more added
    → AreHeldBy (held ++ more) (labels ++ added)

-- The label is bound, and this is true of what it is of.
pub record IsBoundTo (held : List Held) (label : ℕ) (test : Label → Bool) : Type 0 where
  pub found : Held
  pub is : slice_get held label ≡ Some found
  pub of : Label
  pub held_by : IsHeldBy found of
  pub fits : IsTrue (test of)

-- A test in a well-formed block finds its label bound, and fits what it holds.
abbrev pub IsBound : List Held → ℕ → Test → Type 0
IsBound held label test = IsBoundTo held label (test_fits test)

-- So does each argument that comes from a label.
abbrev pub IsArgumentBound : List Held → Argument → Type 0
IsArgumentBound held (argument.Is item) = ⊤
IsArgumentBound held (argument.From label) = IsBoundTo held label (label_has has_item)

abbrev pub AreArgumentsBound : List Held → Template → Type 0
AreArgumentsBound held (Given call) = ⊤
AreArgumentsBound held (OfAmount v label) = IsBoundTo held label (label_has has_number)
AreArgumentsBound held (OfItem v label) = IsBoundTo held label (label_has has_item)
AreArgumentsBound held (OfPair v key item) = IsArgumentBound held key × IsArgumentBound held item

abbrev pub TestLaw : Type 0
TestLaw =
    (held : List Held) (labels : List Label) (label : ℕ) (test : Test)
    → AreHeldBy held labels
    → IsSomeAnd (slice_get labels label) (λ seen. IsTrue (test_fits test seen))
    → IsBound held label test

abbrev pub ArgumentsLaw : Type 0
ArgumentsLaw =
    (held : List Held) (labels : List Label) (template : Template)
    → AreHeldBy held labels
    → ArgumentsFit labels template
    → AreArgumentsBound held template
