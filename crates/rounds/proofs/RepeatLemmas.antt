-- A run whose operations were all kept is the same run on another state where they are legal.
use Rattle.std.proofs.Common.{◌≡◌, ℕ, zero, suc, ◌+◌, ◌<◌, ◌≤◌, List, [], ◌∷◌, ◌++◌, length, get_or, take, Bool, true, false, Option}
use Rattle.std.proofs.Common.{Some, None, refl, sym, ap, ◌∙◌, subst, arith, length-append}
use Rattle.std.specs.Prelude.{slice_get}
use Rattle.std.proofs.lemmas.List.{nil_from_length, length-map, length-take-le, get_or-take, take-map}
use native.Mathlib.Decide.{ℕ_discrete}
use Rattle.objects.specs.declared.entry.Entry.{Entry}
use Rattle.objects.specs.declared.kind.Call.{Call}
use Rattle.objects.specs.declared.kind.Reply.{Reply}
use Rattle.objects.specs.Entries.{State, kinds, reply_at, after_call, AreLegal, after}
use Rattle.meaning.specs.declared.end.End.{End}
use Rattle.meaning.specs.declared.end.End.TheVariants.{Ended, Aborted}
use Rattle.meaning.specs.Trees.{Block, NoStep, Steps, Step, Operation, Fill, If, Subaction, Abort, Parallel, Handlers, ForReason, Otherwise}
use Rattle.meaning.specs.Trees.{GoOn, Pass, Children, NoChild, Child}
use Rattle.meaning.specs.Labels.{holds}
use Rattle.meaning.specs.Filling.{fill}
use Rattle.meaning.specs.declared.template.Refusal.{Refusal}
use Rattle.meaning.specs.declared.held.Held.{Held}
use Rattle.meaning.specs.declared.held.Held.TheVariants.{Outcome}
use Rattle.meaning.specs.Records.{Taken, Nothing, Took, TakenStep, Acted, InParallel, TakenChild, Undone, TakenHandler, TakenChildren}
use Rattle.meaning.specs.Records.{entries, entries_of_step, entries_of_child, entries_of_handler, entries_of_children, kept, kept_of_step}
use Rattle.meaning.specs.Records.{kept_of_child, kept_of_handler, kept_of_children, net}
use Rattle.meaning.specs.OneThread.{Execution, Ran, record_of, outcome_of, labels_of, state_of, label_if, operate, operate_made}
use Rattle.meaning.specs.OneThread.{operate_filled, as_branch, choose, as_handler, is_for, choose_handler, after_abort, act, as_step}
use Rattle.meaning.specs.OneThread.{before_rest, go_on, before_younger, go_on_children, one, one_step, one_handler, one_children}
use Rattle.meaning.specs.Batch.{block_at}
use Rattle.meaning.proofs.Keeping.{after_call_rest, call_keeps}
use Rattle.batch.specs.declared.batch.Batch.{Batch}
use Rattle.committed.specs.Summaries.{entries_of}
use Rattle.committed.specs.declared.marks.MarkedEntry.{MarkedEntry}
use Rattle.committed.proofs.SummaryLemmas.{entry_at}
use Rattle.intentions.proofs.EntriesLemmas.{after-append, fitting_replies}
use Rattle.speculate.proofs.Room.{legal_call_fits, kept-le, kept_of_step-le, kept_of_child-le, kept_of_handler-le, kept_of_children-le}
use Rattle.rounds.specs.Views.{meaning, blocks_of}
use Rattle.rounds.specs.PendingRuns.{IsPendingOf}
use Rattle.rounds.specs.Repeated.{IsRepeated, AreOfOthers, AreApart, Repeats}
use Rattle.rounds.specs.declared.pending_run.PendingRun.{PendingRun}
use Rattle.rounds.proofs.Conflicts.{moved}
use Rattle.rounds.proofs.Wholes.{each_kept}

-- ---- calls that are asked of the objects as they are

-- a call on another object changes no reply
other_reply : (state : State) (other : ℕ) (done : Call) (object : ℕ) (call : Call) → ¬ (other ≡ object)
    → reply_at (after_call state other done) object call ≡ reply_at state object call
other_reply [] other done object call apart = refl
other_reply (v ∷ vs) zero done zero call apart = absurd (apart refl)
other_reply (v ∷ vs) zero done (suc object) call apart = refl
other_reply (v ∷ vs) (suc other) done zero call apart = ap (λ state. reply_at state zero call) (after_call_rest v vs other done)
other_reply (v ∷ vs) (suc other) done (suc object) call apart = ap (λ state. reply_at state (suc object) call)
    (after_call_rest v vs other done) ∙ other_reply vs other done object call (λ same. apart (ap suc same))

-- entries of which each gets its reply on the state are legal there, where no two are of one object
pub all_legal : (state : State) (ps : List Entry) → AreApart ps (length ps)
    → ((i : ℕ) (d : Entry) → i < length ps → IsRepeated state (get_or ps i d)) → AreLegal state ps
all_legal state [] apart each = tt
all_legal state (p ∷ ps) apart each = (
  each 0 p (omega arith),
  all_legal (after_call state p.object p.call) ps (λ i k d lt less. apart (suc i) (suc k) d (omega arith) (omega arith))
      (λ i d lt. other_reply state p.object p.call (get_or ps i d).object (get_or ps i d).call
      (apart (suc i) 0 d (omega arith) (omega arith)) ∙ each (suc i) d (omega arith)),
)

-- one more is apart from those before it
pub one_apart : (marked : List MarkedEntry) (place : ℕ) (m : MarkedEntry) → place < length marked → m ≡ get_or marked place m
    → AreApart (entries_of marked) place → AreOfOthers m.entry.object (entries_of (take place marked))
    → AreApart (entries_of marked) (place + 1)
one_apart marked place m inside is so_far others i k d lt less =
    let ps = entries_of marked in
    let size : length (entries_of (take place marked)) ≡ place =
    length-map (take place marked) (λ (n : MarkedEntry). n.entry) ∙ length-take-le place marked (omega arith) in
    let read : k < place → get_or (entries_of (take place marked)) k d ≡ get_or ps k d = λ early.
    ap (λ es. get_or es k d) (sym (take-map (λ (n : MarkedEntry). n.entry) place marked)) ∙ get_or-take place ps k d early in
    elim (ℕ_discrete place i) [
      | yes same ↦ λ alike. others k d (omega arith) (ap (λ (e : Entry). e.object) (read (omega arith))
          ∙ (alike ∙ (ap (λ j. (get_or ps j d).object) (sym same)
          ∙ sym (ap (λ (e : Entry). e.object) (entry_at marked place m d inside is)))))
      | no other ↦ so_far i k d (omega arith) less
    ]

-- ---- a call that doesn't fit is of another kind, and doesn't fit on other objects of these kinds

misfit_there : (here there : State) (object : ℕ) (call : Call) → kinds here ≡ kinds there → reply_at here object call ≡ None
    → (reply : Option Reply) → reply_at there object call ≡ reply → reply ≡ None
misfit_there here there object call same misfit None is = refl
misfit_there here there object call same misfit (Some reply) is =
    absurd (fitting_replies here object call misfit (ap (λ ks. slice_get ks object) same ∙ legal_call_fits there object call reply is))

-- a call leaves the kinds as they are
kinds_follow : (here there : State) (object : ℕ) (call : Call) → kinds here ≡ kinds there
    → kinds (after_call here object call) ≡ kinds (after_call there object call)
kinds_follow here there object call same =
    (call_keeps here object call).same_kinds ∙ (same ∙ sym (call_keeps there object call).same_kinds)

-- ---- each of the steps that were taken

-- legal entries are legal in two parts
split_legal : (state : State) (ps qs : List Entry) → AreLegal state (ps ++ qs) → AreLegal state ps × AreLegal (after state ps) qs
split_legal state [] qs legal = (tt, legal)
split_legal state (p ∷ ps) qs legal =
    let rest = split_legal (after_call state p.object p.call) ps qs legal.1 in
    ((legal.0, rest.0), rest.1)

-- where all is kept of the first run and is legal there, the second run is the first one, made there. The kinds stay the same
abbrev Again : {A : Type 0} → (A → List Entry) → (A → List Entry) → State → Execution A → Execution A → Type 0
Again entries_in kept_in there run again = length (entries_in (record_of run)) ≤ length (kept_in (record_of run))
    → AreLegal there (entries_in (record_of run))
    → (again ≡ Ran (record_of run) (outcome_of run) (labels_of run) (after there (entries_in (record_of run))))
    × (kinds (state_of run) ≡ kinds (after there (entries_in (record_of run))))

operation_again : (object : ℕ) (call : Call) (labelled : Bool) (here there : State) → kinds here ≡ kinds there → (reply : Option Reply)
    → reply_at here object call ≡ reply → Again entries_of_step kept_of_step there (operate object call labelled here reply)
    (operate object call labelled there (reply_at there object call))
operation_again object call labelled here there same None is all legal =
    (ap (operate object call labelled there) (misfit_there here there object call same is (reply_at there object call) refl), same)
operation_again object call labelled here there same (Some reply) is all legal =
    (ap (operate object call labelled there) legal.0, kinds_follow here there object call same)

made_again : (object : ℕ) (call : Call) (labelled : Bool) (refusal : Refusal) (here there : State) → kinds here ≡ kinds there
    → (reply : Option Reply) → reply_at here object call ≡ reply
    → Again entries_of_step kept_of_step there (operate_made object call labelled refusal here reply)
    (operate_made object call labelled refusal there (reply_at there object call))
made_again object call labelled refusal here there same None is all legal = (
  ap (operate_made object call labelled refusal there) (misfit_there here there object call same is (reply_at there object call) refl),
  same,
)
made_again object call labelled refusal here there same (Some reply) is all legal =
    (ap (operate_made object call labelled refusal there) legal.0, kinds_follow here there object call same)

filled_again : (object : ℕ) (labelled : Bool) (refusal : Refusal) (here there : State) → kinds here ≡ kinds there → (call : Option Call)
    → Again entries_of_step kept_of_step there (operate_filled object labelled refusal here call)
    (operate_filled object labelled refusal there call)
filled_again object labelled refusal here there same None all legal = (refl, same)
filled_again object labelled refusal here there same (Some call) all legal =
    made_again object call labelled refusal here there same (reply_at here object call) refl all legal

branch_again : (then : Bool) (there : State) (run again : Execution Taken) → Again entries kept there run again
    → Again entries_of_step kept_of_step there (as_branch then run) (as_branch then again)
branch_again then there run again repeats all legal = let made = repeats all legal in (ap (as_branch then) made.0, made.1)

choice_again : (test : Bool) (then else : State → Execution Taken) (here there : State)
    → Again entries kept there (then here) (then there) → Again entries kept there (else here) (else there)
    → Again entries_of_step kept_of_step there (choose test then else here) (choose test then else there)
choice_again true then else here there then_again else_again = branch_again true there (then here) (then there) then_again
choice_again false then else here there then_again else_again = branch_again false there (else here) (else there) else_again

handler_again : (there : State) (run again : Execution Taken) → Again entries kept there run again
    → Again entries_of_handler kept_of_handler there (as_handler run) (as_handler again)
handler_again there run again repeats all legal = let made = repeats all legal in (ap as_handler made.0, made.1)

handler_choice_again : (test : Bool) (handler : State → Execution Taken) (others : State → Execution TakenHandler) (here there : State)
    → Again entries kept there (handler here) (handler there)
    → Again entries_of_handler kept_of_handler there (others here) (others there)
    → Again entries_of_handler kept_of_handler there (choose_handler test handler others here) (choose_handler test handler others there)
handler_choice_again true handler others here there repeats others_repeat = handler_again there (handler here) (handler there) repeats
handler_choice_again false handler others here there repeats others_repeat = others_repeat

act_again : (labelled : Bool) (body again : Execution Taken) (handlers : Option ℕ → State → Execution TakenHandler) (here there : State)
    → Again entries kept there body again
    → ((reason : Option ℕ) → Again entries_of_handler kept_of_handler there (handlers reason here) (handlers reason there))
    → Again entries_of_child kept_of_child there (act labelled body handlers here) (act labelled again handlers there)
act_again labelled (Ran body Ended labels mid) again handlers here there body_again handlers_again all legal =
    let made = body_again all legal in
    (ap (λ run. act labelled run handlers there) made.0, made.1)
act_again labelled (Ran body (Aborted reason) labels mid) again handlers here there body_again handlers_again all legal =
    let handled = handlers reason here in
    let own = entries_of_handler (record_of handled) in
    let few = kept_of_handler-le (record_of handled) in
    let none : entries body ≡ [] = nil_from_length (entries body) (omega (arith, all, few, length-append (entries body) own)) in
    let leads : after there own ≡ after there (entries body ++ own) = ap (λ ps. after there (ps ++ own)) (sym none) in
    let body_made = body_again (omega (arith, ap length none)) (subst (AreLegal there) (sym none) tt) in
    let handler_made = handlers_again reason (omega (arith, all, length-append (entries body) own))
    (subst (λ ps. AreLegal there (ps ++ own)) none legal) in (
      ap (λ run. act labelled run handlers there) body_made.0 ∙ (ap (after_abort labelled body reason) handler_made.0
          ∙ ap (Ran (Undone body reason (record_of handled)) (outcome_of handled) (label_if labelled (Outcome (Aborted reason)))) leads),
      handler_made.1 ∙ ap kinds leads,
    )

go_on_again : (step again : Execution TakenStep) (rest : List Held → State → Execution Taken) (there : State)
    → Again entries_of_step kept_of_step there step again
    → ((labels : List Held) (mid other : State) → kinds mid ≡ kinds other → Again entries kept other (rest labels mid)
    (rest labels other)) → Again entries kept there (go_on step rest) (go_on again rest)
go_on_again (Ran step Ended labels mid) again rest there step_again rest_again all legal =
    let own = entries_of_step step in
    let more = rest labels mid in
    let each = each_kept own (entries (record_of more)) (kept_of_step step) (kept (record_of more)) (kept_of_step-le step)
    (kept-le (record_of more)) all in
    let parts = split_legal there own (entries (record_of more)) legal in
    let made = step_again each.0 parts.0 in
    let rest_made = rest_again labels mid (after there own) made.1 each.1 parts.1 in
    let leads = sym (after-append there own (entries (record_of more))) in (
      ap (λ run. go_on run rest) made.0
          ∙ (ap (before_rest step) rest_made.0 ∙ ap (Ran (Took step (record_of more)) (outcome_of more) []) leads),
      rest_made.1 ∙ ap kinds leads,
    )
go_on_again (Ran step (Aborted reason) labels mid) again rest there step_again rest_again all legal =
    let own = entries_of_step step in
    let each = each_kept own [] (kept_of_step step) [] (kept_of_step-le step) (omega arith) all in
    let made = step_again each.0 (split_legal there own [] legal).0 in
    let leads = sym (after-append there own []) in
    (ap (λ run. go_on run rest) made.0 ∙ ap (Ran (Took step Nothing) (Aborted reason) []) leads, made.1 ∙ ap kinds leads)

go_on_children_again : (child again : Execution TakenChild) (younger : State → Execution TakenChildren) (there : State)
    → Again entries_of_child kept_of_child there child again
    → ((mid other : State) → kinds mid ≡ kinds other → Again entries_of_children kept_of_children other (younger mid) (younger other))
    → Again entries_of_children kept_of_children there (go_on_children child younger) (go_on_children again younger)
go_on_children_again (Ran child Ended labels mid) again younger there child_again younger_again all legal =
    let own = entries_of_child child in
    let more = younger mid in
    let each = each_kept own (entries_of_children (record_of more)) (kept_of_child child) (kept_of_children (record_of more))
    (kept_of_child-le child) (kept_of_children-le (record_of more)) all in
    let parts = split_legal there own (entries_of_children (record_of more)) legal in
    let made = child_again each.0 parts.0 in
    let younger_made = younger_again mid (after there own) made.1 each.1 parts.1 in
    let leads = sym (after-append there own (entries_of_children (record_of more))) in (
      ap (λ run. go_on_children run younger) made.0 ∙ (ap (before_younger child labels) younger_made.0
          ∙ ap (Ran (TakenChildren.Child child (record_of more)) (outcome_of more) (labels ++ labels_of more)) leads),
      younger_made.1 ∙ ap kinds leads,
    )
go_on_children_again (Ran child (Aborted reason) labels mid) again younger there child_again younger_again all legal =
    let own = entries_of_child child in
    let each = each_kept own [] (kept_of_child child) [] (kept_of_child-le child) (omega arith) all in
    let made = child_again each.0 (split_legal there own [] legal).0 in
    let leads = sym (after-append there own []) in (
      ap (λ run. go_on_children run younger) made.0
          ∙ ap (Ran (TakenChildren.Child child TakenChildren.NoChild) (Aborted reason) []) leads,
      made.1 ∙ ap kinds leads,
    )

mutual
  unfolding one

  block_again : (block : Block) (labels : List Held) (here there : State) → kinds here ≡ kinds there
      → Again entries kept there (one block labels here) (one block labels there)
  block_again NoStep labels here there same all legal = (refl, same)
  block_again (Steps step rest) labels here there same all legal =
      go_on_again (one_step step labels here) (one_step step labels there) (λ added mid. one rest (labels ++ added) mid) there
      (step_again step labels here there same) (λ added mid other. block_again rest (labels ++ added) mid other) all legal

  step_again : (step : Step) (labels : List Held) (here there : State) → kinds here ≡ kinds there
      → Again entries_of_step kept_of_step there (one_step step labels here) (one_step step labels there)
  step_again (Operation object call labelled) labels here there same all legal =
      operation_again object call labelled here there same (reply_at here object call) refl all legal
  step_again (Fill object template labelled refusal) labels here there same all legal =
      filled_again object labelled refusal here there same (fill labels template) all legal
  step_again (If label test then else) labels here there same all legal =
      choice_again (holds labels label test) (one then labels) (one else labels) here there (block_again then labels here there same)
      (block_again else labels here there same) all legal
  step_again (Subaction body handlers labelled) labels here there same all legal =
      let made = act_again labelled (one body labels here) (one body labels there) (one_handler handlers labels) here there
      (block_again body labels here there same) (λ reason. handlers_again handlers labels reason here there same) all legal in
      (ap (as_step Acted) made.0, made.1)
  step_again (Abort reason) labels here there same all legal = (refl, same)
  step_again (Parallel children) labels here there same all legal =
      let made = children_again children labels here there same all legal in
      (ap (as_step InParallel) made.0, made.1)

  handlers_again : (handlers : Handlers) (labels : List Held) (reason : Option ℕ) (here there : State) → kinds here ≡ kinds there
      → Again entries_of_handler kept_of_handler there (one_handler handlers labels reason here)
      (one_handler handlers labels reason there)
  handlers_again (ForReason reason handler others) labels aborted here there same all legal =
      handler_choice_again (is_for reason aborted) (one handler labels) (one_handler others labels aborted) here there
      (block_again handler labels here there same) (handlers_again others labels aborted here there same) all legal
  handlers_again (Otherwise handler) labels aborted here there same all legal =
      handler_again there (one handler labels here) (one handler labels there) (block_again handler labels here there same) all legal
  handlers_again GoOn labels aborted here there same all legal = (refl, same)
  handlers_again Pass labels aborted here there same all legal = (refl, same)

  children_again : (children : Children) (labels : List Held) (here there : State) → kinds here ≡ kinds there
      → Again entries_of_children kept_of_children there (one_children children labels here) (one_children children labels there)
  children_again NoChild labels here there same all legal = (refl, same)
  children_again (Child body handlers labelled younger) labels here there same all legal =
      go_on_children_again (act labelled (one body labels here) (one_handler handlers labels) here)
      (act labelled (one body labels there) (one_handler handlers labels) there) (one_children younger labels) there
      (act_again labelled (one body labels here) (one body labels there) (one_handler handlers labels) here there
      (block_again body labels here there same) (λ reason. handlers_again handlers labels reason here there same))
      (children_again younger labels) all legal

-- ---- runs of transactions

-- what is left is kept
net-le_kept : (taken : Taken) (outcome : End) → length (net taken outcome) ≤ length (kept taken)
net-le_kept taken Ended = omega arith
net-le_kept taken (Aborted reason) = omega arith

-- a pending run that left all its entries is that of another state where they are legal
pub repeats_run : (batch : Batch) (i : ℕ) (here there : State) (run : PendingRun) → kinds here ≡ kinds there
    → IsPendingOf (meaning batch i here) run → Repeats there run → IsPendingOf (meaning batch i there) run
repeats_run batch i here there run same pending repeats =
    let meant = meaning batch i here in
    let few = net-le_kept (record_of meant) (outcome_of meant) in
    let whole = pending.sums.whole repeats.whole in
    let all = pending.committable.net repeats.listed ∙ whole in
    let made = block_again (block_at (blocks_of batch) i) [] here there same (omega (arith, ap length whole, few))
    (subst (AreLegal there) all repeats.legal) in
    moved meant (meaning batch i there) run pending (ap record_of made.0) (ap outcome_of made.0)
