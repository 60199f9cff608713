-- Subactions by how their bodies end, and children of which the first were run.
use Rattle.std.proofs.Common.{◌≡◌, ℕ, ◌+◌, ◌<◌, ◌≤◌, List, [], ◌∷◌, ◌++◌, map, length, get_or, drop, refl, sym, ap, subst, ◌∙◌}
use Rattle.std.proofs.Common.{append_assoc, Option, None}
use Rattle.std.proofs.Math.ListN.{drop_of_length-le}
use Rattle.std.proofs.lemmas.List.{append-nil}
use Rattle.std.specs.Prelude.{option_map}
use Rattle.objects.specs.declared.entry.Entry.{Entry}
use Rattle.meaning.specs.declared.end.End.{End}
use Rattle.meaning.specs.declared.end.End.TheVariants.{Ended, Aborted}
use Rattle.meaning.specs.declared.held.Held.{Held}
use Rattle.meaning.specs.declared.held.Held.TheVariants.{Outcome}
use Rattle.objects.specs.Entries.{State}
use Rattle.meaning.specs.Records.{Taken, TakenChild, TakenChildren, entries_of_child, entries_of_children, kept_of_child, kept_of_children}
use Rattle.meaning.specs.Records.{entries_of_handler, kept_of_handler, entries}
use Rattle.meaning.specs.Shown.{shown, shown_child, shown_children, ShownChild, ShownChildren}
use Rattle.meaning.specs.OneThread.{Execution, Ran, record_of, outcome_of, labels_of, state_of, label_if, one, one_handler, one_children}
use Rattle.meaning.proofs.Nets.{block_leads, handlers_lead, act_leads}
use Rattle.meaning.proofs.Parts.{act-ended, act-aborted, one_children-NoChild, one_children-Child, GoesOn, go_on_children-ended}
use Rattle.meaning.proofs.Parts.{go_on_children-aborted}
use Rattle.batch.specs.Views as views
use Rattle.batch.specs.Views.{Tried, subaction_view, children_view, record_view, tried_view, before_younger}
use Rattle.batch.specs.Running.{CanHandleHere, CanTryHere, CanRunAllHere, acted}
use Rattle.batch.specs.declared.tree.Subaction.{Subaction}
use Rattle.batch.specs.declared.record.Record.{Record}
use Rattle.batch.proofs.CanRun.{can_try, can_run_younger}
use Rattle.batch.proofs.TakenLemmas.{shown_undone, children_from, next_child, children_after, children_after-more, shown_children-after}
use Rattle.batch.proofs.TakenLemmas.{more_children}
use Rattle.batch.specs.Grounds.{Ground, IsGround}
use Rattle.batch.specs.Shows.{ShowsRun, ShowsHandler, ShowsTried, ShowsChildren}
use Rattle.meaning.proofs.Nets.{Leads}
use Rattle.batch.specs.declared.tried.Tried as executed

-- ---- children

-- what children that were reached performed, and what of it is kept
pub all_entries : List TakenChild → List Entry
all_entries [] = []
all_entries (child ∷ children) = entries_of_child child ++ all_entries children

pub all_kept : List TakenChild → List Entry
all_kept [] = []
all_kept (child ∷ children) = kept_of_child child ++ all_kept children

all_entries-more : (children : List TakenChild) (child : TakenChild) → all_entries children ++ entries_of_child child ≡ all_entries
    (children ++ child ∷ [])
unfolding all_entries
all_entries-more [] child = sym (append-nil (entries_of_child child))
all_entries-more (first ∷ children) child = append_assoc (entries_of_child first) (all_entries children) (entries_of_child child)
    ∙ ap (λ es. entries_of_child first ++ es) (all_entries-more children child)

all_kept-more : (children : List TakenChild) (child : TakenChild) → all_kept children ++ kept_of_child child ≡ all_kept
    (children ++ child ∷ [])
unfolding all_kept
all_kept-more [] child = sym (append-nil (kept_of_child child))
all_kept-more (first ∷ children) child = append_assoc (kept_of_child first) (all_kept children) (kept_of_child child)
    ∙ ap (λ es. kept_of_child first ++ es) (all_kept-more children child)

entries-after : (children : List TakenChild) → entries_of_children (children_after children TakenChildren.NoChild) ≡ all_entries children
unfolding children_after all_entries
entries-after [] = refl
entries-after (child ∷ children) = ap (λ es. entries_of_child child ++ es) (entries-after children)

kept-after : (children : List TakenChild) → kept_of_children (children_after children TakenChildren.NoChild) ≡ all_kept children
unfolding children_after all_kept
kept-after [] = refl
kept-after (child ∷ children) = ap (λ es. kept_of_child child ++ es) (kept-after children)

-- what a subaction keeps leads from where it began to where it came
pub acted_leads : (child : Tried) (held : List Held) (state : State) → Leads state (kept_of_child (record_of (acted child held state)))
    (state_of (acted child held state))
acted_leads child held state =
    act_leads child.labelled (one child.body held state) (one_handler child.handlers held) state (block_leads child.body held state)
    (λ reason. handlers_lead child.handlers held reason state)

-- an aborted body's record and end, and that nothing of it is kept
pub record IsUndone {V : Type 0} (g : Ground V) (run : Execution Taken) (body : Record) (before next : V) : Type 0 where
  pub tree : record_view body ≡ shown (record_of run) (outcome_of run)
  pub end : body.outcome ≡ outcome_of run
  pub took : g.Took before (entries (record_of run)) [] next

-- of these children the first i were run, from one to another
pub record ArePartTried {V : Type 0} (g : Ground V) (children : List Subaction) (held : List Held) (before : V) (i : ℕ)
    (tried : List (Record × Option Record)) (outcomes : List Held) (now : V) : Type 0 where
  pub done : List TakenChild
  pub whole : record_of (one_children (children_view children) held (g.state before)) ≡ children_after done
      (record_of (one_children (children_view (drop i children)) held (g.state now)))
  pub outcome : outcome_of (one_children (children_view children) held (g.state before)) ≡ outcome_of
      (one_children (children_view (drop i children)) held (g.state now))
  pub labels : labels_of (one_children (children_view children) held (g.state before)) ≡ outcomes ++ labels_of
      (one_children (children_view (drop i children)) held (g.state now))
  pub can : CanRunAllHere (children_view (drop i children)) held (g.state now)
  pub tree : map tried_view tried ≡ map shown_child done
  pub took : g.Took before (all_entries done) (all_kept done) now

module _ {V : Type 0} {g : Ground V} (on : IsGround g) where
  -- ---- one subaction

  -- a subaction whose body ended
  pub tried-committed : (child : Tried) (held : List Held) (before now : V) (body : Record) (done : executed.Tried)
      → ShowsRun g (one child.body held (g.state before)) body before now → body.outcome ≡ Ended
      → done.body ≡ body → done.handler ≡ None → done.end ≡ Ended → ShowsTried g child (acted child held (g.state before)) done before now
  tried-committed child held before now body done shows ended body_is handler_is end_is =
      let run = one child.body held (g.state before) in
      let acts = act-ended child.labelled run (one_handler child.handlers held) (g.state before) (sym shows.end ∙ ended) in
      record {
        tree = ap (λ b. tried_view (b, done.handler)) body_is ∙ ap (λ h. tried_view (body, h)) handler_is
            ∙ ap ShownChild.Body (shows.tree ∙ ap (shown (record_of run)) (sym shows.end ∙ ended)) ∙ ap (λ r. shown_child (record_of r))
            (sym acts);
        end = end_is ∙ ap outcome_of (sym acts);
        labels = λ _. ap labels_of acts ∙ ap (λ e. label_if child.labelled (Outcome e))
            (sym (ap (λ (b : Record). b.outcome) body_is ∙ ended));
        took = subst (λ r. g.Took before (entries_of_child (record_of r)) (kept_of_child (record_of r)) now) (sym acts) shows.took;
      }

  undone_state : (run : Execution Taken) (body : Record) (before next : V) → IsUndone g run body before next → g.state next ≡ g.state before
  undone_state run body before next undone = on.leads before next _ [] undone.took

  pub handlers_can_run : (child : Tried) (held : List Held) (before next : V) (body : Record) → CanTryHere child held (g.state before)
      → IsUndone g (one child.body held (g.state before)) body before next → CanHandleHere child.handlers held (g.state next)
  handlers_can_run child held before next body can undone = subst (CanHandleHere child.handlers held)
      (sym (undone_state _ body before next undone)) can.handlers

  -- a subaction whose body aborted
  pub tried-aborted : (child : Tried) (held : List Held) (before next now : V) (body : Record) (reason : Option ℕ)
      (handler : Option Record) (how : End) (done : executed.Tried)
      → IsUndone g (one child.body held (g.state before)) body before next → body.outcome ≡ Aborted reason
      → ShowsHandler g (one_handler child.handlers held reason (g.state next)) handler how next now
      → done.body ≡ body → done.handler ≡ handler → done.end ≡ how → ShowsTried g child (acted child held (g.state before)) done before now
  tried-aborted child held before next now body reason handler how done undone ended handled_there body_is handler_is end_is =
      let run = one child.body held (g.state before) in
      let handled : ShowsHandler g (one_handler child.handlers held reason (g.state before)) handler how next now =
      subst (λ s. ShowsHandler g (one_handler child.handlers held reason s) handler how next now)
      (undone_state run body before next undone) handled_there in
      let handler_run = one_handler child.handlers held reason (g.state before) in
      let acts = act-aborted child.labelled run (one_handler child.handlers held) (g.state before) reason (sym undone.end ∙ ended) in
      record {
        tree = ap (λ b. tried_view (b, done.handler)) body_is ∙ ap (λ h. tried_view (body, h)) handler_is
            ∙ ap (λ b. views.shown_child (b, option_map record_view handler))
            (undone.tree ∙ ap (shown (record_of run)) (sym undone.end ∙ ended))
            ∙ ap (λ h. views.shown_child (shown (record_of run) (Aborted reason), h)) handled.tree
            ∙ shown_undone (record_of run) reason (record_of handler_run) ∙ ap (λ r. shown_child (record_of r)) (sym acts);
        end = end_is ∙ handled.end ∙ ap outcome_of (sym acts);
        labels = λ _. ap labels_of acts ∙ ap (λ e. label_if child.labelled (Outcome e))
            (sym (ap (λ (b : Record). b.outcome) body_is ∙ ended));
        took = subst (λ r. g.Took before (entries_of_child (record_of r)) (kept_of_child (record_of r)) now) (sym acts)
            (on.both before next now (entries (record_of run)) [] (entries_of_handler (record_of handler_run))
            (kept_of_handler (record_of handler_run)) undone.took handled.took);
      }

  pub part_tried-start : (children : List Subaction) (held : List Held) (before : V) → CanRunAllHere (children_view children) held
      (g.state before) → ArePartTried g children held before 0 [] [] before
  unfolding children_after all_entries all_kept
  part_tried-start children held before h = record {
    done = [];
    whole = refl;
    outcome = refl;
    labels = refl;
    can = h;
    tree = refl;
    took =
        on.none before;
  }

  pub part_tried-can_try : (children : List Subaction) (held : List Held) (before : V) (i : ℕ) (tried : List (Record × Option Record))
      (outcomes : List Held) (now : V) (x : Subaction)
      → ArePartTried g children held before i tried outcomes now → i < length children → x ≡ get_or children i x
      → CanTryHere (subaction_view x) held (g.state now)
  part_tried-can_try children held before i tried outcomes now x h lt is =
      can_try (subaction_view x) (children_view (drop (i + 1) children)) held (g.state now)
      (subst (λ c. CanRunAllHere c held (g.state now)) (next_child children i x lt is) h.can)

  -- what is shown after a child is the state of the child's run
  shows_state : (child : Tried) (held : List Held) (now next : V)
      → g.Took now (entries_of_child (record_of (acted child held (g.state now))))
      (kept_of_child (record_of (acted child held (g.state now)))) next
      → state_of (acted child held (g.state now)) ≡ g.state next
  shows_state child held now next took = (acted_leads child held (g.state now)).1 ∙ sym (on.leads now next _ _ took)

  -- what was taken in of the children so far, and of one more
  more_took : (before now next : V) (done : List TakenChild) (child : TakenChild) → g.Took before (all_entries done) (all_kept done) now
      → g.Took now (entries_of_child child) (kept_of_child child) next
      → g.Took before (all_entries (done ++ child ∷ [])) (all_kept (done ++ child ∷ [])) next
  more_took before now next done child first second =
      subst (λ es. g.Took before es (all_kept (done ++ child ∷ [])) next) (all_entries-more done child)
      (subst (λ ns. g.Took before (all_entries done ++ entries_of_child child) ns next) (all_kept-more done child)
      (on.both before now next _ _ _ _ first second))

  pub part_tried-more : (children : List Subaction) (held : List Held) (before : V) (i : ℕ) (tried : List (Record × Option Record))
      (outcomes : List Held) (now : V) (x : Subaction) (done : executed.Tried) (next : V) (pair : Record × Option Record) (more : List Held)
      → ArePartTried g children held before i tried outcomes now → i < length children → x ≡ get_or children i x
      → ShowsTried g (subaction_view x) (acted (subaction_view x) held (g.state now)) done now next → done.end ≡ Ended
      → pair ≡ (done.body, done.handler) → more ≡ label_if (subaction_view x).labelled (Outcome done.body.outcome)
      → ArePartTried g children held before (i + 1) (tried ++ pair ∷ []) (outcomes ++ more) next
  part_tried-more children held before i tried outcomes now x done next pair more h lt is shows ended pair_is more_is =
      let child = subaction_view x in
      let younger = children_view (drop (i + 1) children) in
      let run = acted child held (g.state now) in
      let state : state_of run ≡ g.state next = shows_state child held now next shows.took in
      let goes : GoesOn run (one_children younger held (state_of run)) (one_children (children_from child younger) held (g.state now)) =
      subst (GoesOn run (one_children younger held (state_of run)))
      (sym (one_children-Child child.body child.handlers child.labelled younger held (g.state now)))
      (go_on_children-ended run (one_children younger held) (sym shows.end ∙ ended)) in
      let here = ap (λ c. one_children c held (g.state now)) (next_child children i x lt is) in
      let there = ap (one_children younger held) state in
      record {
        done = h.done ++ record_of run ∷ [];
        whole = h.whole ∙ ap (children_after h.done) (ap record_of here ∙ goes.taken
            ∙ ap (λ r. TakenChildren.Child (record_of run) (record_of r)) there) ∙ sym (children_after-more h.done (record_of run) _);
        outcome = h.outcome ∙ ap outcome_of here ∙ goes.outcome ∙ ap outcome_of there;
        labels = h.labels ∙ ap (λ ls. outcomes ++ ls) (ap labels_of here ∙ goes.labels
            ∙ ap (λ ls. ls ++ labels_of (one_children younger held (state_of run))) (shows.labels ended ∙ sym more_is)
            ∙ ap (λ r. more ++ labels_of r) there) ∙ sym (append_assoc outcomes more _);
        can = subst (CanRunAllHere younger held) state
            (can_run_younger child younger held (g.state now)
            (subst (λ c. CanRunAllHere c held (g.state now)) (next_child children i x lt is) h.can));
        tree = more_children tried h.done pair (record_of run) h.tree (ap tried_view pair_is ∙ shows.tree);
        took = more_took before now next h.done (record_of run) h.took shows.took;
      }

  -- the run of children that were tried, with this end
  shows_children : (run : Execution TakenChildren) (before now : V) (tried : List (Record × Option Record)) (done : List TakenChild)
      (outcomes : List Held) (how : End)
      → record_of run ≡ children_after done TakenChildren.NoChild → outcome_of run ≡ how → (how ≡ Ended → outcomes ≡ labels_of run)
      → map tried_view tried ≡ map shown_child done → g.Took before (all_entries done) (all_kept done) now
      → ShowsChildren g run tried how outcomes before now
  shows_children run before now tried done outcomes how is ends labels tree took =
      record {
        tree = ap (λ ts. before_younger ts ShownChildren.NoChild) tree ∙ sym (shown_children-after done) ∙ ap shown_children (sym is);
        end = sym ends;
        labels = labels;
        took = subst (λ es. g.Took before es (kept_of_children (record_of run)) now) (sym (entries-after done)
            ∙ ap entries_of_children (sym is)) (subst (λ ns. g.Took before (all_entries done) ns now) (sym (kept-after done)
            ∙ ap kept_of_children (sym is)) took);
      }

  -- the run of children that are all tried
  pub part_tried-ended : (children : List Subaction) (held : List Held) (before : V) (i : ℕ) (tried : List (Record × Option Record))
      (outcomes : List Held) (now : V)
      → ArePartTried g children held before i tried outcomes now → length children ≤ i
      → ShowsChildren g (one_children (children_view children) held (g.state before)) tried Ended outcomes before now
  part_tried-ended children held before i tried outcomes now h le =
      let over : one_children (children_view (drop i children)) held (g.state now) ≡ Ran TakenChildren.NoChild Ended [] (g.state now) =
      ap (λ xs. one_children (children_view xs) held (g.state now)) (drop_of_length-le children le)
      ∙ one_children-NoChild held (g.state now) in
      shows_children _ before now tried h.done outcomes Ended (h.whole ∙ ap (λ r. children_after h.done (record_of r)) over)
      (h.outcome ∙ ap outcome_of over)
      (λ _. sym (h.labels ∙ ap (λ r. outcomes ++ labels_of r) over ∙ append-nil outcomes)) h.tree h.took

  -- the run of children of which one's handlers aborted
  pub part_tried-aborted : (children : List Subaction) (held : List Held) (before : V) (i : ℕ) (tried : List (Record × Option Record))
      (outcomes : List Held) (now : V) (x : Subaction) (done : executed.Tried) (next : V) (reason : Option ℕ)
      (pair : Record × Option Record) (more : List Held)
      → ArePartTried g children held before i tried outcomes now → i < length children → x ≡ get_or children i x
      → ShowsTried g (subaction_view x) (acted (subaction_view x) held (g.state now)) done now next → done.end ≡ Aborted reason
      → pair ≡ (done.body, done.handler) → ShowsChildren g (one_children (children_view children) held (g.state before))
      (tried ++ pair ∷ []) done.end more before next
  part_tried-aborted children held before i tried outcomes now x done next reason pair more h lt is shows aborted pair_is =
      let child = subaction_view x in
      let younger = children_view (drop (i + 1) children) in
      let run = acted child held (g.state now) in
      let off = go_on_children-aborted run (one_children younger held) reason (sym shows.end ∙ aborted) in
      let goes = ap (λ c. one_children c held (g.state now)) (next_child children i x lt is)
      ∙ one_children-Child child.body child.handlers child.labelled younger held (g.state now) in
      shows_children _ before next (tried ++ pair ∷ []) (h.done ++ record_of run ∷ []) more done.end
      (h.whole ∙ ap (children_after h.done) (ap record_of goes ∙ off.0)
      ∙ sym (children_after-more h.done (record_of run) TakenChildren.NoChild))
      (h.outcome ∙ ap outcome_of goes ∙ off.1 ∙ sym aborted)
      (λ ended. let absurd_end : Ended ≡ Aborted reason = sym ended ∙ aborted in absurd cc)
      (more_children tried h.done pair (record_of run) h.tree (ap tried_view pair_is ∙ shows.tree))
      (more_took before now next h.done (record_of run) h.took shows.took)

-- what an executor needs of a child that it tries
pub ruleset can_try_rules = (part_tried-can_try)
