-- What the labels hold that a run adds.
use Rattle.std.specs.Prelude.{IsTrue, IsSomeAnd, slice_get}
use Rattle.std.proofs.Common.{◌≡◌, ℕ, zero, suc, List, [], ◌∷◌, ◌++◌, Bool, true, false, Option, Some, None, refl, subst}
use Rattle.objects.specs.declared.kind.Call.{Call}
use Rattle.objects.specs.declared.kind.Reply.{Reply}
use Rattle.meaning.specs.declared.end.End.TheVariants.{Ended, Aborted}
use Rattle.objects.specs.Entries.{State, reply_at}
use Rattle.meaning.specs.Trees.{Operation, Fill, If, Subaction, Abort, Parallel, NoChild, Child}
use Rattle.meaning.specs.Labels.{holds}
use Rattle.meaning.specs.Filling.{fill, template_verb}
use Rattle.meaning.specs.declared.template.Refusal.{Refusal}
use Rattle.meaning.specs.declared.template.Argument.{Argument}
use Rattle.meaning.specs.declared.template.Argument.TheVariants as argument
use Rattle.meaning.specs.declared.template.Template.{Template}
use Rattle.meaning.specs.declared.template.Template.TheVariants.{Given, OfAmount, OfItem, OfPair}
use Rattle.vocabulary.specs.Words.{has_item, has_number, verb_of}
use Rattle.meaning.specs.declared.held.Held.{Held}
use Rattle.meaning.specs.Records.{Taken, TakenChild, TakenHandler, TakenChildren}
use Rattle.meaning.specs.OneThread.{Execution, Ran, outcome_of, labels_of, label_if, operate, operate_made, operate_filled, choose, act}
use Rattle.meaning.specs.OneThread.{go_on_children, one, one_handler}
use Rattle.meaning.specs.OneThread.{one_children}
use Rattle.meaning.specs.WellFormed.{Label, OfVerb, OfSubaction, label_has, test_fits, ArgumentFits, added_if, added_by_children}
use Rattle.meaning.specs.Running.{IsReplyTo, IsHeldBy, AreHeldBy, IsBoundTo, IsArgumentBound, StepLabelsLaw, ChildrenLabelsLaw}
use Rattle.meaning.specs.Running.{MoreLabelsLaw, TestLaw, ArgumentsLaw}
use Rattle.meaning.proofs.Fillings.{filled_law}

pub more_labels : MoreLabelsLaw
more_labels [] more [] added held h = h
more_labels (x ∷ held) more (label ∷ labels) added h k = (h.0, more_labels held more labels added h.1 k)
more_labels [] more (label ∷ labels) added h k = absurd h
more_labels (x ∷ held) more [] added h k = absurd h

replied_by : (state : State) (object : ℕ) (call : Call) (reply : Reply) → reply_at state object call ≡ Some reply
    → IsReplyTo (verb_of call) reply
replied_by [] object call reply is = absurd cc
replied_by (v ∷ vs) zero call reply is = record { call = call; is_of = refl; value = v; is = is }
replied_by (v ∷ vs) (suc object) call reply is = replied_by vs object call reply is

held_if : (labelled : Bool) (held : Held) (label : Label) → IsHeldBy held label → AreHeldBy (label_if labelled held)
    (added_if labelled label)
held_if true held label h = (h, tt)
held_if false held label h = tt

operation_labels : (object : ℕ) (call : Call) (labelled : Bool) (state : State) (reply : Option Reply) → reply_at state object call ≡ reply
    → outcome_of (operate object call labelled state reply) ≡ Ended → AreHeldBy (labels_of (operate object call labelled state reply))
    (added_if labelled (OfVerb (verb_of call)))
operation_labels object call labelled state None is ended = absurd cc
operation_labels object call labelled state (Some reply) is ended = held_if labelled _ _ (replied_by state object call reply is)

made_labels : (object : ℕ) (call : Call) (labelled : Bool) (refusal : Refusal) (state : State) (reply : Option Reply)
    → reply_at state object call ≡ reply → outcome_of (operate_made object call labelled refusal state reply) ≡ Ended
    → AreHeldBy (labels_of (operate_made object call labelled refusal state reply)) (added_if labelled (OfVerb (verb_of call)))
made_labels object call labelled refusal state None is ended = absurd cc
made_labels object call labelled refusal state (Some reply) is ended = held_if labelled _ _ (replied_by state object call reply is)

filled_labels : (object : ℕ) (labelled : Bool) (refusal : Refusal) (state : State) (labels : List Held) (template : Template)
    (call : Option Call) → fill labels template ≡ call → outcome_of (operate_filled object labelled refusal state call) ≡ Ended
    → AreHeldBy (labels_of (operate_filled object labelled refusal state call)) (added_if labelled (OfVerb (template_verb template)))
filled_labels object labelled refusal state labels template None is ended = absurd cc
filled_labels object labelled refusal state labels template (Some call) is ended =
    let run = operate_made object call labelled refusal state (reply_at state object call) in
    subst (λ v. AreHeldBy (labels_of run) (added_if labelled (OfVerb v))) (filled_law labels template call is).0
    (made_labels object call labelled refusal state (reply_at state object call) refl ended)

choice_labels : (test : Bool) (then else : State → Execution Taken) (state : State) → AreHeldBy (labels_of (choose test then else state)) []
choice_labels true then else state = tt
choice_labels false then else state = tt

act_labels : (labelled : Bool) (body : Execution Taken) (handlers : Option ℕ → State → Execution TakenHandler) (state : State)
    → AreHeldBy (labels_of (act labelled body handlers state)) (added_if labelled OfSubaction)
act_labels labelled (Ran body Ended labels after_body) handlers state = held_if labelled _ _ tt
act_labels labelled (Ran body (Aborted reason) labels after_body) handlers state = held_if labelled _ _ tt

go_on_labels : (child : Execution TakenChild) (younger : State → Execution TakenChildren) (added others : List Label)
    → AreHeldBy (labels_of child) added → ((mid : State) → outcome_of (younger mid) ≡ Ended → AreHeldBy (labels_of (younger mid)) others)
    → outcome_of (go_on_children child younger) ≡ Ended → AreHeldBy (labels_of (go_on_children child younger)) (added ++ others)
go_on_labels (Ran child Ended labels mid) younger added others h k ended = more_labels labels _ added others h (k mid ended)
go_on_labels (Ran child (Aborted reason) labels mid) younger added others h k ended = absurd cc

pub children_labels : ChildrenLabelsLaw
unfolding one
children_labels NoChild labels state ended = tt
children_labels (Child body handlers labelled younger) labels state ended =
    go_on_labels (act labelled (one body labels state) (one_handler handlers labels) state) (one_children younger labels)
    (added_if labelled OfSubaction) (added_by_children younger)
    (act_labels labelled (one body labels state) (one_handler handlers labels) state) (λ mid. children_labels younger labels mid) ended

pub step_labels : StepLabelsLaw
unfolding one
step_labels (Operation object call labelled) labels state ended = operation_labels object call labelled state
    (reply_at state object call) refl ended
step_labels (Fill object template labelled refusal) labels state ended = filled_labels object labelled refusal state labels template
    (fill labels template) refl ended
step_labels (If label test then else) labels state ended = choice_labels (holds labels label test) (one then labels) (one else labels) state
step_labels (Subaction body handlers labelled) labels state ended = act_labels labelled (one body labels state)
    (one_handler handlers labels) state
step_labels (Abort reason) labels state ended = tt
step_labels (Parallel children) labels state ended = children_labels children labels state ended

bound : (held : List Held) (labels : List Label) (label : ℕ) (test : Label → Bool) → AreHeldBy held labels
    → IsSomeAnd (slice_get labels label) (λ seen. IsTrue (test seen)) → IsBoundTo held label test
bound [] [] label t h seen = absurd seen
bound (x ∷ held) (l ∷ labels) zero t h seen = record { found = x; is = refl; of = l; held_by = h.0; fits = seen }
bound (x ∷ held) (l ∷ labels) (suc label) t h seen =
    let below : IsBoundTo held label t = bound held labels label t h.1 seen in
    record { found = below.found; is = below.is; of = below.of; held_by = below.held_by; fits = below.fits }
bound [] (l ∷ labels) label t h seen = absurd h
bound (x ∷ held) [] label t h seen = absurd h

pub test : TestLaw
test held labels label t h seen = bound held labels label (test_fits t) h seen

argument_bound : (held : List Held) (labels : List Label) (a : Argument) → AreHeldBy held labels → ArgumentFits labels a
    → IsArgumentBound held a
argument_bound held labels (argument.Is item) h fits = tt
argument_bound held labels (argument.From label) h fits = bound held labels label (label_has has_item) h fits

pub arguments : ArgumentsLaw
arguments held labels (Given call) h fit = tt
arguments held labels (OfAmount v label) h fit = bound held labels label (label_has has_number) h fit
arguments held labels (OfItem v label) h fit = bound held labels label (label_has has_item) h fit
arguments held labels (OfPair v key item) h fit = (argument_bound held labels key h fit.0, argument_bound held labels item h fit.1)
