-- What a round commits, and what it leaves of its runs.
use Rattle.std.proofs.Common.{◌≡◌, ◌⊎◌, ⊎_elim, inl, inr, ◌↔◌, [], ◌++◌, ℕ, ◌+◌, ◌-◌, ◌<◌, ◌≤◌, Bool, true, false, List, length, get_or}
use Rattle.std.proofs.Common.{take, drop, map, refl, sym, ap, ◌∙◌, subst, arith}
use Rattle.std.proofs.lemmas.List.{take_all}
use Rattle.std.proofs.lemmas.Bool.{false≢true}
use native.Mathlib.Decide.{dec_le, ℕ_discrete}
use Rattle.std.specs.Prelude.{IsTrue}
use Rattle.std.specs.declared.vec.Vec.{Vec}
use Rattle.std.specs.declared.alloc.Global.{Global}
use Rattle.objects.specs.Entries.{State, kinds, AreLegal, after}
use Rattle.intentions.specs.Levels.{AllHaveRoom}
use Rattle.objects.specs.declared.entry.Entry.{Entry}
use Rattle.meaning.specs.OneThread.{one}
use Rattle.meaning.specs.Batch.{block_at, state_at, alone, answer, nets, shown_from}
use Rattle.meaning.specs.Rounds.{Keeps, IsNextOpening}
use Rattle.meaning.proofs.Batches.{batch_leads}
use Rattle.batch.specs.Views.{record_view}
use Rattle.batch.specs.declared.batch.Batch.{Batch}
use Rattle.batch.specs.declared.record.Record.{Record}
use Rattle.speculate.proofs.Room.{kinds_at, nets_have_room}
use Rattle.rounds.specs.Views.{start_of, blocks_of, meaning}
use Rattle.rounds.specs.Repeated.{Repeats}
use Rattle.rounds.specs.declared.pending_run.PendingRun.{PendingRun}
use Rattle.rounds.specs.declared.window.Window.{Window}
use Rattle.rounds.specs.PendingRuns.{IsCommittable, IsPendingOf, HoldsPast, own_nets, AreSpanned}
use Rattle.rounds.specs.Windows.{run_at, flag_at, end_of, runs_between, IsValid, IsWindowAt, IsListedTo, AreKept, IsRenewed, Stands}
use Rattle.rounds.proofs.Conflicts.{AreAnswers, nets_agree, spanned, holds_past, still_stands, some_run}
use Rattle.rounds.proofs.Listing.{alone_at}
use Rattle.rounds.proofs.Records.{recorded_on}
use Rattle.rounds.proofs.RepeatLemmas.{repeats_run}
use Rattle.rounds.proofs.WindowLemmas.{run_read, none_past, between_at}

module _ (batch : Batch) (b first : ℕ) (state : State) (window : Window) (listed : List Entry)
    (reached : state ≡ state_at (start_of batch) (blocks_of batch) b) (opened : b ≤ length (blocks_of batch))
    (at : IsWindowAt batch first (state_at (start_of batch) (blocks_of batch) b) window) (inside : first ≤ end_of window)
    (seen : IsListedTo batch b first window listed) where
  -- the runs that the round commits
  abbrev pub passed : List PendingRun
  passed = runs_between window b first

  size : length passed ≡ first - b
  size = (between_at window b first seen.begun seen.from inside).0

  passed_at : (k : ℕ) (d : PendingRun) → k < length passed → get_or passed k d ≡ run_at window (b + k) d
  passed_at k d lt =
      let all = size in
      (between_at window b first seen.begun seen.from inside).1 k d (omega arith)

  answers_of : AreAnswers (start_of batch) (blocks_of batch) b passed
  answers_of k d lt =
      let all = size in
      let from = seen.from in
      subst (IsCommittable (answer (start_of batch) (blocks_of batch) (b + k))) (sym (passed_at k d lt))
      (seen.made (b + k) d (omega arith) (omega arith))

  -- they leave what one thread leaves
  pub leave : own_nets (blocks_of batch) b passed ≡ nets (start_of batch) (blocks_of batch) b (first - b)
  leave =
      subst (λ rs. own_nets (blocks_of batch) b rs ≡ nets (start_of batch) (blocks_of batch) b (length passed))
      (take_all (length passed) passed (omega arith))
      (nets_agree (start_of batch) (blocks_of batch) b (length passed) passed (omega arith) answers_of)
      ∙ ap (nets (start_of batch) (blocks_of batch) b) size

  pub commits : AreLegal state (own_nets (blocks_of batch) b passed) × AllHaveRoom state (own_nets (blocks_of batch) b passed)
      × AreSpanned (blocks_of batch) b passed
  commits =
      let legal = (batch_leads (start_of batch) (blocks_of batch) b (first - b)).0 in
      let room = nets_have_room batch b opened (first - b) legal in (
        subst (λ s. AreLegal s (own_nets (blocks_of batch) b passed)) (sym reached)
            (subst (AreLegal (state_at (start_of batch) (blocks_of batch) b)) (sym leave) legal),
        subst (λ s. AllHaveRoom s (own_nets (blocks_of batch) b passed)) (sym reached)
            (subst (AllHaveRoom (state_at (start_of batch) (blocks_of batch) b)) (sym leave) room),
        subst (AreSpanned (blocks_of batch) b) (take_all (length passed) passed (omega arith))
            (spanned (start_of batch) (blocks_of batch) b (length passed) passed answers_of (omega arith)),
      )

  -- the objects are then those after the last of them
  pub moved_on : (next : State) → next ≡ after state (own_nets (blocks_of batch) b passed)
      → next ≡ state_at (start_of batch) (blocks_of batch) first
  moved_on next on =
      let from = seen.from in
      let same : b + (first - b) ≡ first = omega arith in
      on ∙ (ap (after state) leave
      ∙ (ap (λ s. after s (nets (start_of batch) (blocks_of batch) b (first - b))) reached
      ∙ (sym (batch_leads (start_of batch) (blocks_of batch) b (first - b)).1
      ∙ ap (state_at (start_of batch) (blocks_of batch)) same)))

  -- a run stands past what the round commits exactly where it holds past what is listed
  stands_where_holds : (i : ℕ) (d : PendingRun) → first ≤ i → IsValid window i
      → HoldsPast listed (run_at window i d) ↔ Stands batch b first i
  stands_where_holds i d low valid =
      let here = alone_at batch b first (state_at (start_of batch) (blocks_of batch) b) window refl at i d low valid in
      holds_past (start_of batch) (blocks_of batch) i b listed (nets (start_of batch) (blocks_of batch) b (first - b))
      (run_at window i d) here seen.nets

  -- the run at the next opening doesn't, where it is valid
  pub falls : IsNextOpening (start_of batch) (blocks_of batch) b first → (d : PendingRun) → IsValid window first
      → ¬ HoldsPast listed (run_at window first d)
  falls next d valid holds = elim (dec_le (end_of window) first) [
    | yes beyond ↦ false≢true (sym (none_past window first at.flags beyond) ∙ valid)
    | no within ↦
        let most = at.within in
        let from = seen.from in
        let stands = (stands_where_holds first d (omega arith) valid).0 holds in
        let further = next.largest (first + 1) (omega arith) (λ i low high. elim (dec_le first i) [
          | no before ↦ next.all_keep i low (omega arith)
          | yes here ↦ subst (λ k. Keeps (start_of batch) (blocks_of batch) k b) (omega arith) stands
        ]) in
        omega arith
  ]

  module _ (next : State) (new : Window) (next_is : next ≡ state_at (start_of batch) (blocks_of batch) first)
      (kept : AreKept first listed window new) where
    runs_are : (i : ℕ) (d : PendingRun) → run_at new i d ≡ run_at window i d
    runs_are i d = run_read window new window.runs.items i d kept.first (ap (λ rs. rs.items) kept.runs)

    -- a valid run stays so exactly where it commutes forward with what the round commits
    pub kept_at : (i : ℕ) → first ≤ i → IsValid window i → (IsValid new i × Stands batch b first i)
        ⊎ ((flag_at new i ≡ false) × (¬ Stands batch b first i))
    kept_at i low valid = elim (dec_le (end_of window) i) [
      | yes beyond ↦ absurd (false≢true (sym (none_past window i at.flags beyond) ∙ valid))
      | no within ↦
          let begun = at.begun in
          some_run ((IsValid new i × Stands batch b first i) ⊎ ((flag_at new i ≡ false) × (¬ Stands batch b first i)))
          window.runs.items (i - window.first) (omega arith)
          (λ d. ⊎_elim
          (λ (stays : IsValid new i × HoldsPast listed (run_at window i d)).
          inl (stays.0, (stands_where_holds i d low valid).0 stays.1))
          (λ (falls : (flag_at new i ≡ false) × (¬ HoldsPast listed (run_at window i d))).
          inr (falls.0, λ stands. falls.1 ((stands_where_holds i d low valid).1 stands)))
          (kept.each i d low valid))
    ]

    -- the runs that are kept are those of the next opening
    pub kept_window : IsWindowAt batch first next new
    kept_window =
        let from = seen.from in
        let begun = at.begun in
        let same = kept.first in
        let few = at.within in
        let sizes = ap (λ rs. length rs.items) kept.runs in
        let number : b + (first - b) ≡ first = omega arith in record {
          begun = omega arith;
          flags = kept.flags ∙ (at.flags ∙ sym sizes);
          within = omega arith;
          made = λ i d low valid.
              let was = kept.valid i low valid in
              let run = run_at window i d in
              let here = alone_at batch b first (state_at (start_of batch) (blocks_of batch) b) window refl at i d low was in
              ⊎_elim
              (λ (stays : IsValid new i × Stands batch b first i).
              let later = subst (λ j. IsPendingOf (alone (start_of batch) (blocks_of batch) i j) run) number
              (still_stands (start_of batch) (blocks_of batch) i b (first - b) run here stays.1) in
              subst (IsPendingOf (one (block_at (blocks_of batch) i) [] next)) (sym (runs_are i d))
              (subst (λ s. IsPendingOf (one (block_at (blocks_of batch) i) [] s) run) (sym next_is) later))
              (λ (falls : (flag_at new i ≡ false) × (¬ Stands batch b first i)).
              absurd (false≢true (sym falls.0 ∙ valid)))
              (kept_at i low was);
        }

    -- the kinds of the objects stay
    kinds_stay : kinds (state_at (start_of batch) (blocks_of batch) b) ≡ kinds next
    kinds_stay =
        let within = at.within in
        kinds_at batch b opened ∙ sym (ap kinds next_is ∙ kinds_at batch first (omega arith))

    -- the run at the next opening, which may be known to be one there
    first_made : (again : Bool) (renewed : Window) (d : PendingRun) → IsRenewed first again new renewed
        → (IsTrue again → IsValid window first) → (IsTrue again → (d : PendingRun) → Repeats next (run_at window first d))
        → IsValid renewed first → IsPendingOf (meaning batch first next) (run_at renewed first d)
    first_made true renewed d is was repeats valid =
        let run = run_at window first d in
        subst (IsPendingOf (meaning batch first next))
        (sym (run_read new renewed new.runs.items first d is.first (ap (λ rs. rs.items) is.runs) ∙ runs_are first d))
        (repeats_run batch first (state_at (start_of batch) (blocks_of batch) b) next run kinds_stay
        (at.made first d (omega arith) (was refl)) (repeats refl d))
    first_made false renewed d is was repeats valid =
        let same = is.same refl in
        subst (λ w. IsPendingOf (meaning batch first next) (run_at w first d)) (sym same)
        (kept_window.made first d (omega arith) (ap (λ w. flag_at w first) (sym same) ∙ valid))

    -- with it, the runs are those of the next opening
    pub renewed_window : (again : Bool) (renewed : Window) → IsRenewed first again new renewed → (IsTrue again → IsValid window first)
        → (IsTrue again → (d : PendingRun) → Repeats next (run_at window first d)) → IsWindowAt batch first next renewed
    renewed_window again renewed is was repeats =
        let here = kept_window in
        let begun = here.begun in
        let few = here.within in
        let begins = is.first in
        let size = ap (λ rs. length rs.items) is.runs in
        record {
          begun = omega arith;
          flags = is.flags ∙ (here.flags ∙ sym size);
          within = omega arith;
          made = λ i d low valid. elim (ℕ_discrete first i) [
            | yes same ↦ subst (λ j. IsPendingOf (meaning batch j next) (run_at renewed j d)) same
                (first_made again renewed d is was repeats (subst (λ j. IsValid renewed j) (sym same) valid))
            | no other ↦ subst (IsPendingOf (meaning batch i next))
                (sym (run_read new renewed new.runs.items i d is.first (ap (λ rs. rs.items) is.runs)))
                (here.made i d low (sym (is.others i (λ same. other (sym same)) (omega arith)) ∙ valid))
          ];
        }

    -- it is of the window
    pub renewed_within : (again : Bool) → (IsTrue again → IsValid window first) → IsTrue again
        → (new.first ≤ first) × (first < end_of new)
    renewed_within again was told =
        let begun = kept_window.begun in
        let begins = kept.first in
        let size = ap (λ rs. length rs.items) kept.runs in (
          begun,
          elim (dec_le (end_of window) first) [
            | yes beyond ↦ absurd (false≢true (sym (none_past window first at.flags beyond) ∙ was told))
            | no within ↦ omega arith
          ],
        )

    -- the runs that the round committed are those of before
    pub renewed_between : (again : Bool) (renewed : Window) → IsRenewed first again new renewed
        → runs_between renewed b first ≡ runs_between new b first
    renewed_between again renewed is = ap (λ rs. take (first - b) (drop (b - renewed.first) rs.items)) is.runs
        ∙ ap (λ n. take (first - b) (drop (b - n) new.runs.items)) is.first

    -- the records up to there are those of one thread
    pub committed_on : (before after : Vec Record Global)
        → map record_view before.items ≡ shown_from (start_of batch) (blocks_of batch) 0 b
        → after.items ≡ before.items ++ map (λ r. r.tree) (runs_between new b first)
        → map record_view after.items ≡ shown_from (start_of batch) (blocks_of batch) 0 first
    committed_on before after shown pushed =
        let from = seen.from in
        let runs : runs_between new b first ≡ passed = ap (λ rs. take (first - b) (drop (b - new.first) rs.items)) kept.runs
        ∙ ap (λ n. take (first - b) (drop (b - n) window.runs.items)) kept.first in
        let all = size in
        let number : b + length passed ≡ first = omega arith in
        recorded_on (start_of batch) (blocks_of batch) b passed before.items after.items answers_of shown
        (pushed ∙ ap (λ rs. before.items ++ map (λ (r : PendingRun). r.tree) rs) runs)
        ∙ ap (shown_from (start_of batch) (blocks_of batch) 0) number
