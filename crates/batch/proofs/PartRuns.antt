-- A run of a block of which the first steps are taken.
use Rattle.std.proofs.Common.{◌≡◌, ℕ, ◌+◌, ◌<◌, ◌≤◌, List, [], ◌∷◌, ◌++◌, map, length, get_or, drop, refl, sym, ap, subst, ◌∙◌}
use Rattle.std.proofs.Common.{append_assoc, Option}
use Rattle.std.proofs.Math.ListN.{drop_of_length-le}
use Rattle.std.proofs.lemmas.List.{append-nil}
use Rattle.objects.specs.declared.entry.Entry.{Entry}
use Rattle.meaning.specs.declared.end.End.{End}
use Rattle.meaning.specs.declared.end.End.TheVariants.{Ended, Aborted}
use Rattle.meaning.specs.declared.held.Held.{Held}
use Rattle.meaning.specs.Trees as meant
use Rattle.meaning.specs.Records as record_tree
use Rattle.meaning.specs.Records.{Nothing, Took, TakenStep, entries, entries_of_step, kept, kept_of_step}
use Rattle.meaning.specs.Shown.{AtEnd, shown_step, shown}
use Rattle.meaning.specs.OneThread.{Execution, record_of, outcome_of, labels_of, state_of, one, one_step}
use Rattle.meaning.proofs.Nets.{step_leads}
use Rattle.meaning.proofs.Parts.{one-Steps, one-NoStep, go_on-ended, go_on-aborted}
use Rattle.batch.specs.Views.{step_view, steps_view, taken_view, before_end}
use Rattle.batch.specs.Running.{CanRunHere, CanStepHere, StillSeen}
use Rattle.batch.specs.declared.tree.Step.{Step}
use Rattle.batch.specs.declared.record.Record.{Record}
use Rattle.batch.specs.declared.record.Taken.{Taken}
use Rattle.batch.proofs.ViewLemmas.{record_view-is}
use Rattle.batch.proofs.CanRun.{can_step, can_run_rest, still_same, still_then}
use Rattle.batch.proofs.TakenLemmas.{next_step, record_after, record_after-more, shown_record-after, more_steps}
use Rattle.batch.specs.Grounds.{Ground, IsGround}
use Rattle.batch.specs.Shows.{ShowsRun, ShowsStep}

-- what steps that were taken performed, and what of it is kept
pub all_entries : List TakenStep → List Entry
all_entries [] = []
all_entries (step ∷ steps) = entries_of_step step ++ all_entries steps

pub all_kept : List TakenStep → List Entry
all_kept [] = []
all_kept (step ∷ steps) = kept_of_step step ++ all_kept steps

all_entries-more : (steps : List TakenStep) (step : TakenStep) → all_entries steps ++ entries_of_step step ≡ all_entries
    (steps ++ step ∷ [])
unfolding all_entries
all_entries-more [] step = sym (append-nil (entries_of_step step))
all_entries-more (first ∷ steps) step = append_assoc (entries_of_step first) (all_entries steps) (entries_of_step step)
    ∙ ap (λ es. entries_of_step first ++ es) (all_entries-more steps step)

all_kept-more : (steps : List TakenStep) (step : TakenStep) → all_kept steps ++ kept_of_step step ≡ all_kept (steps ++ step ∷ [])
unfolding all_kept
all_kept-more [] step = sym (append-nil (kept_of_step step))
all_kept-more (first ∷ steps) step = append_assoc (kept_of_step first) (all_kept steps) (kept_of_step step)
    ∙ ap (λ es. kept_of_step first ++ es) (all_kept-more steps step)

entries-after : (steps : List TakenStep) → entries (record_after steps Nothing) ≡ all_entries steps
unfolding record_after all_entries
entries-after [] = refl
entries-after (step ∷ steps) = ap (λ es. entries_of_step step ++ es) (entries-after steps)

kept-after : (steps : List TakenStep) → kept (record_after steps Nothing) ≡ all_kept steps
unfolding record_after all_kept
kept-after [] = refl
kept-after (step ∷ steps) = ap (λ es. kept_of_step step ++ es) (kept-after steps)

-- ---- a part of a run

-- of these steps the first i are taken, from labels and a ground to others
pub record IsPartRun {V : Type 0} (g : Ground V) (steps : List Step) (held : List Held) (before : V) (i : ℕ) (taken : List Taken)
    (seen : List Held) (now : V) : Type 0 where
  pub done : List TakenStep
  pub whole : record_of (one (steps_view steps) held (g.state before)) ≡ record_after done
      (record_of (one (steps_view (drop i steps)) seen (g.state now)))
  pub outcome : outcome_of (one (steps_view steps) held (g.state before)) ≡ outcome_of (one (steps_view (drop i steps)) seen (g.state now))
  pub can : CanRunHere (steps_view (drop i steps)) seen (g.state now)
  pub still : StillSeen held seen
  pub tree : map taken_view taken ≡ map shown_step done
  pub took : g.Took before (all_entries done) (all_kept done) now

module _ {V : Type 0} {g : Ground V} (on : IsGround g) where
  pub part_run-start : (steps : List Step) (held : List Held) (before : V) → CanRunHere (steps_view steps) held (g.state before)
      → IsPartRun g steps held before 0 [] held before
  unfolding record_after all_entries all_kept
  part_run-start steps held before h = record {
    done = [];
    whole = refl;
    outcome = refl;
    can = h;
    still = still_same held;
    tree = refl;
    took = on.none before;
  }

  pub part_run-can_step : (steps : List Step) (held : List Held) (before : V) (i : ℕ) (taken : List Taken) (seen : List Held) (now : V)
      (x : Step)
      → IsPartRun g steps held before i taken seen now → i < length steps → x ≡ get_or steps i x
      → CanStepHere (step_view x) seen (g.state now)
  part_run-can_step steps held before i taken seen now x h lt is =
      can_step (step_view x) (steps_view (drop (i + 1) steps)) seen (g.state now)
      (subst (λ b. CanRunHere b seen (g.state now)) (next_step steps i x lt is) h.can)

  -- what is shown after a step is the state of the step's run
  shows_state : (step : meant.Step) (seen : List Held) (now next : V)
      → g.Took now (entries_of_step (record_of (one_step step seen (g.state now))))
      (kept_of_step (record_of (one_step step seen (g.state now)))) next
      → state_of (one_step step seen (g.state now)) ≡ g.state next
  shows_state step seen now next took = (step_leads step seen (g.state now)).1 ∙ sym (on.leads now next _ _ took)

  -- what was taken in of the steps so far, and of one more
  more_took : (before now next : V) (done : List TakenStep) (step : TakenStep) → g.Took before (all_entries done) (all_kept done) now
      → g.Took now (entries_of_step step) (kept_of_step step) next
      → g.Took before (all_entries (done ++ step ∷ [])) (all_kept (done ++ step ∷ [])) next
  more_took before now next done step first second =
      subst (λ es. g.Took before es (all_kept (done ++ step ∷ [])) next) (all_entries-more done step)
      (subst (λ ns. g.Took before (all_entries done ++ entries_of_step step) ns next) (all_kept-more done step)
      (on.both before now next _ _ _ _ first second))

  pub part_run-more : (steps : List Step) (held : List Held) (before : V) (i : ℕ) (taken : List Taken) (seen : List Held) (now : V)
      (x : Step) (done : Taken) (how : End) (seen_next : List Held) (next : V)
      → IsPartRun g steps held before i taken seen now → i < length steps → x ≡ get_or steps i x
      → ShowsStep g (one_step (step_view x) seen (g.state now)) done how seen seen_next now next → how ≡ Ended
      → StillSeen seen seen_next
      → IsPartRun g steps held before (i + 1) (taken ++ done ∷ []) seen_next next
  part_run-more steps held before i taken seen now x done how seen_next next h lt is shows ended still =
      let step = step_view x in
      let rest = steps_view (drop (i + 1) steps) in
      let run = one_step step seen (g.state now) in
      let ends : outcome_of run ≡ Ended = sym shows.end ∙ ended in
      let labels : seen ++ labels_of run ≡ seen_next = sym (shows.labels ended) in
      let state : state_of run ≡ g.state next = shows_state step seen now next shows.took in
      let on = go_on-ended run (λ added mid. one rest (seen ++ added) mid) ends in
      let here : steps_view (drop i steps) ≡ meant.Steps step rest = next_step steps i x lt is in
      let goes = ap (λ b. one b seen (g.state now)) here ∙ one-Steps step rest seen (g.state now) in
      let there : one rest (seen ++ labels_of run) (state_of run) ≡ one rest seen_next (g.state next) =
      ap (λ l. one rest l (state_of run)) labels ∙ ap (one rest seen_next) state in
      let can : CanRunHere rest (seen ++ labels_of run) (state_of run) = can_run_rest step rest seen (g.state now)
      (subst (λ b. CanRunHere b seen (g.state now)) here h.can) ends in
      record {
        done = h.done ++ record_of run ∷ [];
        whole = h.whole ∙ ap (record_after h.done) (ap record_of goes ∙ on.0 ∙ ap (λ r. Took (record_of run) (record_of r)) there)
            ∙ sym (record_after-more h.done (record_of run) _);
        outcome = h.outcome ∙ ap outcome_of goes ∙ on.1 ∙ ap outcome_of there;
        can = subst (CanRunHere rest seen_next) state (subst (λ l. CanRunHere rest l (state_of run)) labels can);
        still = still_then held seen seen_next h.still still;
        tree = more_steps taken h.done done (record_of run) h.tree shows.tree;
        took = more_took before now next h.done (record_of run) h.took shows.took;
      }

  -- the run of steps that were taken, with this end
  shows_run : (run : Execution record_tree.Taken) (before now : V) (taken : List Taken) (done : List TakenStep) (made : Record)
      → record_of run ≡ record_after done Nothing → outcome_of run ≡ made.outcome → made.taken.items ≡ taken
      → map taken_view taken ≡ map shown_step done → g.Took before (all_entries done) (all_kept done) now
      → ShowsRun g run made before now
  shows_run run before now taken done made is ends items tree took =
      record {
        tree = record_view-is made ∙ ap (λ ts. before_end (map taken_view ts) (AtEnd made.outcome)) items
            ∙ ap (λ ts. before_end ts (AtEnd made.outcome)) tree ∙ sym (shown_record-after done made.outcome)
            ∙ ap (λ e. shown (record_after done Nothing) e) (sym ends) ∙ ap (λ t. shown t (outcome_of run)) (sym is);
        end = sym ends;
        took = subst (λ es. g.Took before es (kept (record_of run)) now) (sym (entries-after done) ∙ ap entries (sym is))
            (subst (λ ns. g.Took before (all_entries done) ns now) (sym (kept-after done) ∙ ap kept (sym is)) took);
      }

  -- the run of steps that are all taken
  pub part_run-ended : (steps : List Step) (held : List Held) (before : V) (i : ℕ) (taken : List Taken) (seen : List Held) (now : V)
      (made : Record)
      → IsPartRun g steps held before i taken seen now → length steps ≤ i → made.taken.items ≡ taken → made.outcome ≡ Ended
      → ShowsRun g (one (steps_view steps) held (g.state before)) made before now
  part_run-ended steps held before i taken seen now made h le items ends =
      let over : one (steps_view (drop i steps)) seen (g.state now) ≡ _ = ap (λ xs. one (steps_view xs) seen (g.state now))
      (drop_of_length-le steps le) ∙ one-NoStep seen (g.state now) in
      shows_run _ before now taken h.done made (h.whole ∙ ap (λ r. record_after h.done (record_of r)) over) (h.outcome ∙ ap outcome_of over
      ∙ sym ends) items h.tree h.took

  -- the run of steps of which one aborted
  pub part_run-aborted : (steps : List Step) (held : List Held) (before : V) (i : ℕ) (taken : List Taken) (seen : List Held) (now : V)
      (x : Step) (done : Taken) (how : End) (seen_next : List Held) (next : V) (reason : Option ℕ) (made : Record)
      → IsPartRun g steps held before i taken seen now → i < length steps → x ≡ get_or steps i x
      → ShowsStep g (one_step (step_view x) seen (g.state now)) done how seen seen_next now next → how ≡ Aborted reason
      → made.taken.items ≡ taken ++ done ∷ [] → made.outcome ≡ how → ShowsRun g (one (steps_view steps) held (g.state before)) made before
      next
  part_run-aborted steps held before i taken seen now x done how seen_next next reason made h lt is shows aborted items ends =
      let step = step_view x in
      let rest = steps_view (drop (i + 1) steps) in
      let run = one_step step seen (g.state now) in
      let off = go_on-aborted run (λ added mid. one rest (seen ++ added) mid) reason (sym shows.end ∙ aborted) in
      let goes = ap (λ b. one b seen (g.state now)) (next_step steps i x lt is) ∙ one-Steps step rest seen (g.state now) in
      shows_run _ before next (taken ++ done ∷ []) (h.done ++ record_of run ∷ []) made
      (h.whole ∙ ap (record_after h.done) (ap record_of goes ∙ off.0) ∙ sym (record_after-more h.done (record_of run) Nothing))
      (h.outcome ∙ ap outcome_of goes ∙ off.1 ∙ sym aborted ∙ sym ends)
      items
      (more_steps taken h.done done (record_of run) h.tree shows.tree)
      (more_took before now next h.done (record_of run) h.took shows.took)
