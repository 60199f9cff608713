-- Runs of children that were made ahead, and what keeping them shows.
use Rattle.std.proofs.Common.{◌≡◌, ℕ, zero, suc, ◌+◌, ◌<◌, ◌≤◌, List, [], ◌∷◌, ◌++◌, length, get_or, max, take, drop, refl, sym, ap, subst}
use Rattle.std.proofs.Common.{◌∙◌, arith, add-one, drop-cons, length-append, Option, Some, None, Bool, true, ◌↔◌}
use Rattle.std.proofs.Common.{Global, Vec, Result, Ok, Err}
use Rattle.std.proofs.lemmas.List.{append-nil, length-take-le, take-append-drop, take_more}
use denote.Param.Weighed.{most, most-append}
use Rattle.std.proofs.Math.Seq.{drop-append_seam, take-length}
use Rattle.std.specs.Vec.Iter.{into_iter_items, into_iter_len, into_iter_steps}
use Rattle.std.specs.Bool.{IsTrue}
use Rattle.std.specs.Option.{ForSome}
use Rattle.std.specs.Result.{IfOk, IsOkAnd}
use Rattle.std.specs.declared.vec.IntoIter.{IntoIter}
use Rattle.objects.specs.declared.entry.Entry.{Entry}
use Rattle.meaning.specs.declared.end.End.TheVariants.{Ended, Aborted}
use Rattle.meaning.specs.declared.held.Held.{Held}
use Rattle.objects.specs.Entries.{State, AreLegal, after, AllCommute}
use Rattle.meaning.specs.Trees.{Children, NoChild, Child}
use Rattle.meaning.specs.Records.{TakenChild, TakenChildren, entries_of_child, entries_of_children, kept_of_child}
use Rattle.meaning.specs.Shown.{shown_child}
use Rattle.meaning.specs.OneThread.{Execution, Ran, record_of, outcome_of, labels_of, go_on_children, one, one_children}
use Rattle.meaning.specs.Laws.{carried}
use Rattle.meaning.proofs.Nets.{lead_on}
use Rattle.meaning.proofs.Parts.{one_children-Child}
use Rattle.meaning.proofs.Shift.{children_shift}
use Rattle.batch.specs.Views.{Tried, subaction_view, children_view}
use Rattle.batch.specs.Running.{CanTryHere, CanRunAllHere, acted}
use Rattle.batch.specs.declared.tree.Subaction.{Subaction, size-Subaction}
use Rattle.batch.proofs.CanRun.{can_try}
use Rattle.intentions.specs.Levels.{Intentions as View, shown_values as state_of_view, AllHaveRoom, opened, absorbed}
use Rattle.committed.specs.Summaries.{entries_of, IsSummary}
use Rattle.committed.specs.declared.marks.MarkedEntry.{MarkedEntry}
use Rattle.committed.proofs.SummaryLemmas.{stands-summary}
use Rattle.batch.specs.Shows.{ShowsTried}
use Rattle.speculate.specs.Running.{in_view}
use Rattle.speculate.specs.Ahead.{CanAllTry, Leads, IsRunAhead, AreRunAhead, IsRunBefore, IsKept}
use Rattle.speculate.specs.declared.ahead.Ahead.{Ahead}
use Rattle.batch.specs.declared.tried.Tried as executed
use Rattle.speculate.proofs.Absorbed.{shown-absorbed}
use Rattle.batch.proofs.PartTried.{acted_leads}
use Rattle.speculate.proofs.Room.{child_has_room}

-- ---- a child past what its earlier siblings left

-- the run of a child is known from that of the child alone
record IsAlone (run : Execution TakenChild) (all : Execution TakenChildren) : Type 0 where
  taken : record_of all ≡ TakenChildren.Child (record_of run) TakenChildren.NoChild
  outcome : outcome_of all ≡ outcome_of run
  labels : outcome_of run ≡ Ended → labels_of all ≡ labels_of run

go_on-alone : (run : Execution TakenChild) (held : List Held) → IsAlone run (go_on_children run (one_children NoChild held))
unfolding one
go_on-alone (Ran child Ended labels state) held = record { taken = refl; outcome = refl; labels = λ _. append-nil labels }
go_on-alone (Ran child (Aborted reason) labels state) held = record { taken = refl; outcome = refl; labels = λ ended. absurd cc }

abbrev alone : Tried → Children
alone child = Child child.body child.handlers child.labelled NoChild

is_alone : (child : Tried) (held : List Held) (state : State) → IsAlone (acted child held state) (one_children (alone child) held state)
is_alone child held state =
    subst (IsAlone (acted child held state)) (sym (one_children-Child child.body child.handlers child.labelled NoChild held state))
    (go_on-alone (acted child held state) held)

same_first : (child other : TakenChild) → TakenChildren.Child child TakenChildren.NoChild ≡ TakenChildren.Child other TakenChildren.NoChild
    → child ≡ other
same_first child other same = cc

-- the second run is the first one, made elsewhere
record IsSameRun (here there : Execution TakenChild) : Type 0 where
  taken : record_of there ≡ record_of here
  outcome : outcome_of there ≡ outcome_of here
  labels : outcome_of here ≡ Ended → labels_of there ≡ labels_of here

-- a child moves past entries with which each of its own commutes forward
child_moves : (child : Tried) (held : List Held) (state : State) (since : List Entry) → AreLegal state since
    → AllCommute (entries_of_child (record_of (acted child held state))) since
    → IsSameRun (acted child held state) (acted child held (after state since))
child_moves child held state since legal commute =
    let here = is_alone child held state in
    let there = is_alone child held (after state since) in
    let all : AllCommute (entries_of_children (record_of (one_children (alone child) held state))) since =
    subst (λ taken. AllCommute (entries_of_children taken) since) (sym here.taken)
    (subst (λ es. AllCommute es since) (sym (append-nil (entries_of_child (record_of (acted child held state))))) commute) in
    let moved : one_children (alone child) held (after state since) ≡ carried since (one_children (alone child) held state) =
    (children_shift (alone child) held state since legal all).1 in
    let outcome : outcome_of (acted child held (after state since)) ≡ outcome_of (acted child held state) = sym there.outcome
    ∙ ap outcome_of moved ∙ here.outcome in
    record {
      taken = same_first _ _ (sym there.taken ∙ ap record_of moved ∙ here.taken);
      outcome = outcome;
      labels = λ ended. sym (there.labels (outcome ∙ ended)) ∙ ap labels_of moved ∙ here.labels ended;
    }

-- that a test was true of its entries and all that was listed
pub stand : (run : Ahead) → IsSummary (entries_of run.summary.items) run.entries.items → (since : List Entry) (summary : List MarkedEntry)
    (count : ℕ) (stands : Bool)
    → (IsTrue stands ↔ AllCommute (entries_of summary) (take count since)) → stands ≡ true → summary ≡ run.summary.items
    → count ≡ length since
    → AllCommute run.entries.items since
stand run sums since summary count stands exact so is all =
    let whole : take count since ≡ since = ap (λ n. take n since) all ∙ take-length since in
    let summed = subst (AllCommute (entries_of run.summary.items)) whole (subst (λ es. AllCommute (entries_of es) (take count since)) is
    (exact.0 so)) in
    (stands-summary (entries_of run.summary.items) run.entries.items since sums).0 summed

-- where its entries are still valid, a child that was run before is run the same here
module _ (child : Tried) (held : List Held) (since : List Entry) (state : State) (run : Ahead)
    (before : IsRunBefore child held since state run) (stand : AllCommute run.entries.items since) where
  same_here : IsSameRun (acted child held before.from) (acted child held state)
  same_here =
      let entries = ap (λ (v : View). v.entries) before.ahead.0.took in
      subst (λ s. IsSameRun (acted child held before.from) (acted child held s)) (sym before.leads.1)
      (child_moves child held before.from since before.leads.0 (subst (λ es. AllCommute es since) entries stand))

  -- so its net is what it leaves here
  net_here : run.net.items ≡ kept_of_child (record_of (acted child held state))
  net_here = ap (λ (v : View). v.net) before.ahead.0.took ∙ ap kept_of_child (sym same_here.taken)

  -- and that is what is added to the list of what siblings left
  net_listed : (net later : List Entry) → net ≡ run.net.items → later ≡ since ++ net
      → later ≡ since ++ kept_of_child (record_of (acted child held state))
  net_listed net later is more = more ∙ ap (λ es. since ++ es) (is ∙ net_here)

  entries_here : run.entries.items ≡ entries_of_child (record_of (acted child held state))
  entries_here = ap (λ (v : View). v.entries) before.ahead.0.took ∙ ap entries_of_child (sym same_here.taken)

  pub net_is_legal : AreLegal state run.net.items
  net_is_legal = subst (AreLegal state) (sym net_here) (acted_leads child held state).0

  pub net_has_room : CanTryHere child held state → AllHaveRoom state run.net.items
  net_has_room can = subst (AllHaveRoom state) (sym net_here) (child_has_room child held state can (acted_leads child held state).0)

  -- and its run can be taken in
  taken_in : (view next : View) (entries net : List Entry) → entries ≡ run.entries.items → net ≡ run.net.items
      → next ≡ absorbed view entries net → ShowsTried in_view child (acted child held state) run.tried view next
  taken_in view next entries net entries_are net_is is =
      let shows = before.ahead.0 in
      record {
        tree = shows.tree ∙ ap shown_child (sym same_here.taken);
        end = shows.end ∙ sym same_here.outcome;
        labels = λ ended. same_here.labels (sym shows.end ∙ ended) ∙ shows.labels ended;
        took = is ∙ ap (λ es. absorbed view es net) (entries_are ∙ entries_here)
            ∙ ap (absorbed view (entries_of_child (record_of (acted child held state)))) (net_is ∙ net_here);
      }

-- a run that was taken in shows what the child does here
pub kept_shows : (child : Tried) (held : List Held) (since later : List Entry) (run : Ahead) (view next : View) (done : executed.Tried)
    → IsRunBefore child held since (state_of_view view) run → IsKept run since view done later next
    → ShowsTried in_view child (acted child held (state_of_view view)) done view next
kept_shows child held since later run view next done before kept =
    subst (λ t. ShowsTried in_view child (acted child held (state_of_view view)) t view next) (sym kept.tried)
    (taken_in child held since (state_of_view view) run before kept.commute view next run.entries.items run.net.items refl refl kept.took)

-- and is listed as what the child leaves here
pub kept_listed : (child : Tried) (held : List Held) (since later : List Entry) (run : Ahead) (view next : View) (done : executed.Tried)
    → IsRunBefore child held since (state_of_view view) run → IsKept run since view done later next
    → later ≡ since ++ kept_of_child (record_of (acted child held (state_of_view view)))
kept_listed child held since later run view next done before kept =
    net_listed child held since (state_of_view view) run before kept.commute run.net.items later refl kept.listed

-- the run of a child alone, in a view that was opened for it
pub ran_alone : (child : Tried) (held labels : List Held) (state : State) (fresh now : View) (tried : executed.Tried) (run : Ahead)
    → labels ≡ held → fresh ≡ opened state → ShowsTried in_view child (acted child labels (state_of_view fresh)) tried fresh now
    → run.tried ≡ tried → run.entries.items ≡ now.entries → run.net.items ≡ now.net
    → IsSummary (entries_of run.summary.items) run.entries.items → IsRunAhead child held state run
ran_alone child held labels state fresh now tried run same opens shows tried_is entries_is net_is sums =
    let here : ShowsTried in_view child (acted child held state) tried (opened state) now =
    subst (λ ls. ShowsTried in_view child (acted child ls state) tried (opened state) now) same
    (subst (λ v. ShowsTried in_view child (acted child labels (state_of_view v)) tried v now) opens shows) in
    let entries = entries_of_child (record_of (acted child held state)) in
    let net = kept_of_child (record_of (acted child held state)) in
    let all : run.entries.items ≡ entries = entries_is ∙ ap (λ (v : View). v.entries) here.took in
    let left : run.net.items ≡ net = net_is ∙ ap (λ (v : View). v.net) here.took in
    let took : now ≡ absorbed (opened state) run.entries.items run.net.items = here.took
    ∙ ap (λ es. absorbed (opened state) es net) (sym all) ∙ ap (absorbed (opened state) run.entries.items) (sym left) in (
      subst (λ v. ShowsTried in_view child (acted child held state) run.tried (opened state) v) took
          (subst (λ t. ShowsTried in_view child (acted child held state) t (opened state) now) (sym tried_is) here),
      sums,
    )

-- ---- children that are run ahead, in halves and one after the other

-- each child can be tried on the state of the step
pub each_can_try : (children : List Subaction) (held : List Held) (state : State) → CanRunAllHere (children_view children) held state
    → CanAllTry children held state
each_can_try [] held state can k d lt = absurd (omega arith)
each_can_try (child ∷ children) held state can zero d lt = can_try (subaction_view child) (children_view children) held state can
each_can_try (child ∷ children) held state can (suc k) d lt =
    each_can_try children held state (record {
      labels = can.labels;
      held_by = can.held_by;
      well_formed = can.well_formed.2;
      room =
          omega (arith, can.room);
    }) k d (omega arith)

pub runs-append : (front back : List Subaction) (held : List Held) (state : State) (runs others : List Ahead) → length runs ≡ length front
    → AreRunAhead front held state runs → AreRunAhead back held state others → AreRunAhead (front ++ back) held state (runs ++ others)
runs-append [] back held state [] others same first second = second
runs-append [] back held state (run ∷ runs) others same first second = absurd (omega arith)
runs-append (child ∷ front) back held state [] others same first second = absurd (omega arith)
runs-append (child ∷ front) back held state (run ∷ runs) others same first second =
    (first.0, runs-append front back held state runs others (omega arith) first.1 second)

-- these are the runs of all of the children
abbrev AreOfAll : List Subaction → List Held → State → List Ahead → Type 0
AreOfAll children held state runs = (length runs ≡ length children) × AreRunAhead children held state runs

-- two halves that were joined
pub joined_halves : {E : Type 0} (children older younger : List Subaction) (middle : ℕ) (held : List Held) (state : State)
    (front back : Result (Vec Ahead Global) E) (runs : List Ahead) → older ≡ take middle children → younger ≡ drop middle children
    → IfOk front (λ first. AreOfAll older held state first.items) → IfOk back (λ second. AreOfAll younger held state second.items)
    → IsOkAnd front (λ first. IsOkAnd back (λ second. runs ≡ first.items ++ second.items)) → AreOfAll children held state runs
joined_halves children older younger middle held state (Ok first) (Ok second) runs older_is younger_is here there is =
    let long : length (first.items ++ second.items) ≡ length (older ++ younger) =
    omega (arith, length-append first.items second.items, length-append older younger, here.0, there.0) in
    let whole : older ++ younger ≡ children = ap (λ cs. cs ++ younger) older_is ∙ ap (λ cs. take middle children ++ cs) younger_is
    ∙ take-append-drop middle children in
    subst (AreOfAll children held state) (sym is)
    (subst (λ cs. AreOfAll cs held state (first.items ++ second.items)) whole
    (long, runs-append older younger held state first.items second.items here.0 here.1 there.1))
joined_halves children older younger middle held state (Ok first) (Err e) runs older_is younger_is here there is = absurd is
joined_halves children older younger middle held state (Err e) back runs older_is younger_is here there is = absurd is

-- a half of some children has none that is larger than all of them
halves_largest : (children : List Subaction) (middle : ℕ)
    → max (most size-Subaction (take middle children)) (most size-Subaction (drop middle children)) ≡ most size-Subaction children
halves_largest children middle = sym (most-append size-Subaction (take middle children) (drop middle children))
    ∙ ap (most size-Subaction) (take-append-drop middle children)

pub older_no_larger : (children : List Subaction) (middle : ℕ)
    → most size-Subaction (take middle children) ≤ most size-Subaction children
older_no_larger children middle = omega (arith, halves_largest children middle)

pub younger_no_larger : (children : List Subaction) (middle : ℕ)
    → most size-Subaction (drop middle children) ≤ most size-Subaction children
younger_no_larger children middle = omega (arith, halves_largest children middle)

-- what shows that each half takes fewer calls
pub ruleset no_larger_rules = (older_no_larger, younger_no_larger)

-- one more
pub one_more : (children : List Subaction) (place : ℕ) (held : List Held) (state : State) (runs : List Ahead) (child : Subaction)
    (run : Ahead) → place < length children → child ≡ get_or children place child → length runs ≡ place
    → AreRunAhead (take place children) held state runs → IsRunAhead (subaction_view child) held state run
    → AreRunAhead (take (place + 1) children) held state (runs ++ run ∷ [])
one_more children place held state runs child run lt is all so_far last =
    let more : take place children ++ child ∷ [] ≡ take (place + 1) children =
    ap (λ y. take place children ++ y ∷ []) is ∙ sym (take_more children place child lt) in
    let long : length runs ≡ length (take place children) = omega (arith, all, length-take-le place children (omega arith)) in
    subst (λ cs. AreRunAhead cs held state (runs ++ run ∷ [])) more
    (runs-append (take place children) (child ∷ []) held state runs (run ∷ []) long so_far (last, tt))

pub one_longer : (runs : List Ahead) (run : Ahead) (place : ℕ) → length runs ≡ place → length (runs ++ run ∷ []) ≡ place + 1
one_longer runs run place all = omega (arith, length-append runs (run ∷ []))

-- ---- children that are kept one after the other

-- these runs were made of these children on a state from which these entries have led here
pub record AreLeft (children : List Subaction) (held : List Held) (since : List Entry) (state : State) (runs : List Ahead) : Type 0 where
  pub from : State
  pub leads : Leads from since state
  pub ahead : AreRunAhead children held from runs

pub left-start : (children : List Subaction) (held : List Held) (state : State) (runs : List Ahead) → AreRunAhead children held state runs
    → AreLeft children held [] state runs
left-start children held state runs ahead = record { from = state; leads = (tt, refl); ahead = ahead }

left-others : (child : Subaction) (children : List Subaction) (held : List Held) (since : List Entry) (view next : View)
    (tried : executed.Tried) (run : Ahead) (runs : List Ahead)
    → AreLeft (child ∷ children) held since (state_of_view view) (run ∷ runs) → ShowsTried in_view (subaction_view child)
    (acted (subaction_view child) held (state_of_view view)) tried view next
    → AreLeft children held (since ++ kept_of_child (record_of (acted (subaction_view child) held (state_of_view view))))
    (state_of_view next) runs
left-others child children held since view next tried run runs left shows =
    let here = subaction_view child in
    let net = kept_of_child (record_of (acted here held (state_of_view view))) in
    let there : state_of_view next ≡ after (state_of_view view) net = ap state_of_view shows.took
    ∙ shown-absorbed view (entries_of_child (record_of (acted here held (state_of_view view)))) net in
    record {
      from = left.from;
      leads = lead_on left.from (state_of_view view) (state_of_view next) since net left.leads
          ((acted_leads here held (state_of_view view)).0, there);
      ahead = left.ahead.1;
    }

-- what a child adds to the net of its parent's level
module _ (child : Tried) (held : List Held) (view next : View) (tried : executed.Tried) (was : List Entry)
    (shows : ShowsTried in_view child (acted child held (state_of_view view)) tried view next) (was_is : was ≡ view.net) where
  net_after : next.net ≡ was ++ kept_of_child (record_of (acted child held (state_of_view view)))
  net_after = ap (λ (v : View). v.net) shows.took
      ∙ ap (λ es. es ++ kept_of_child (record_of (acted child held (state_of_view view)))) (sym was_is)

  pub net_grows : length was ≤ length next.net
  net_grows = omega (arith, ap length net_after, length-append was (kept_of_child (record_of (acted child held (state_of_view view)))))

  pub added_listed : (since later : List Entry) → later ≡ since ++ drop (length was) next.net
      → later ≡ since ++ kept_of_child (record_of (acted child held (state_of_view view)))
  added_listed since later listed =
      listed ∙ ap (λ es. since ++ drop (length was) es) net_after
      ∙ ap (λ es. since ++ es) (drop-append_seam was (kept_of_child (record_of (acted child held (state_of_view view)))))

next_of : (children : List Subaction) (place : ℕ) (x : Subaction) → place < length children → x ≡ get_or children place x
    → drop place children ≡ x ∷ drop (place + 1) children
next_of children place x lt is = drop-cons children place x lt ∙ ap (λ y. y ∷ drop (suc place) children) (sym is) ∙ rw add-one refl

module _ (children : List Subaction) (place : ℕ) (x : Subaction) (held : List Held) (since : List Entry) (view : View)
    (before after : IntoIter Ahead Global)
    (left : 0 < into_iter_len before → AreLeft (drop place children) held since (state_of_view view) (into_iter_items before))
    (within : place < length children) (is : x ≡ get_or children place x) where
  left_here : (run : Ahead) → into_iter_steps before (Some run) after → AreLeft (x ∷ drop (place + 1) children) held since
      (state_of_view view) (run ∷ into_iter_items after)
  left_here run steps =
      subst (λ cs. AreLeft cs held since (state_of_view view) (run ∷ into_iter_items after)) (next_of children place x within is)
      (subst (AreLeft (drop place children) held since (state_of_view view)) steps.0 (left (omega (arith, steps.1))))

  -- the next run was made of the next child
  pub next_before : (ahead : Option Ahead) → into_iter_steps before ahead after
      → ForSome ahead (IsRunBefore (subaction_view x) held since (state_of_view view))
  next_before ahead steps = λ run some.
      let here = left_here run (subst (λ a. into_iter_steps before a after) some steps) in
      record { from = here.from; leads = here.leads; ahead = here.ahead.0 }

  -- the runs after the next one were made of the children after the next child
  pub left-more : (ahead : Option Ahead) (next : View) (tried : executed.Tried) (later : List Entry) → into_iter_steps before ahead after
      → ShowsTried in_view (subaction_view x) (acted (subaction_view x) held (state_of_view view)) tried view next
      → ForSome ahead (λ _. later ≡ since ++ kept_of_child (record_of (acted (subaction_view x) held (state_of_view view))))
      → 0 < into_iter_len after → AreLeft (drop (place + 1) children) held later (state_of_view next) (into_iter_items after)
  left-more None next tried later steps shows kept some = absurd (omega (arith, steps.1))
  left-more (Some run) next tried later steps shows kept some =
      subst (λ es. AreLeft (drop (place + 1) children) held es (state_of_view next) (into_iter_items after)) (sym (kept run refl))
      (left-others x (drop (place + 1) children) held since view next tried run (into_iter_items after) (left_here run steps) shows)
