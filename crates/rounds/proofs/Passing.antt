-- Which runs pass the nets that are listed, and what the check of a run leads to.
use Rattle.std.proofs.Common.{◌≡◌, ◌≢◌, ℕ, ◌+◌, ◌-◌, ◌<◌, ◌≤◌, Bool, true, false, List, ◌++◌, length, get_or, set, take, refl, sym, ap, ◌∙◌}
use Rattle.std.proofs.Common.{subst, arith, drop, append_assoc}
use Rattle.std.proofs.lemmas.Bool.{false≢true}
use Rattle.std.proofs.lemmas.List.{get_or-set_same, get_or-set_other, take_all, take-append-drop}
use Rattle.std.proofs.Math.Seq.{take-append_seam}
use native.Mathlib.Decide.{ℕ_discrete}
use Rattle.std.specs.Bool.{IsTrue}
use Rattle.objects.specs.Entries.{State}
use Rattle.objects.specs.declared.entry.Entry.{Entry}
use Rattle.meaning.specs.Batch.{state_at}
use Rattle.batch.specs.declared.batch.Batch.{Batch}
use Rattle.rounds.specs.Views.{start_of, blocks_of}
use Rattle.rounds.specs.declared.pending_run.PendingRun.{PendingRun}
use Rattle.rounds.specs.declared.window.Window.{Window}
use Rattle.rounds.specs.PendingRuns.{Passes}
use Rattle.rounds.specs.Windows.{run_at, end_of, IsValid, IsWindowAt, IsFreedAt, IsListedTo, IsBlockSeen, ArePassing, IsChecked}
use Rattle.rounds.proofs.Conflicts.{some_run}
use Rattle.rounds.proofs.Firsts.{all_taken}
use Rattle.rounds.proofs.Listing.{keeps_where_holds, listed_more, freed_listed}
use Rattle.rounds.proofs.WindowLemmas.{run_set, freed_window}

-- a run is put in its place, and its flag says whether it passes
pub flag_passing : (listed : List Entry) (from : ℕ) (old new : Window) (number : ℕ) (run : PendingRun) (passes : Bool)
    (flags more : List Bool) → old.first ≤ number → number < end_of old → from ≤ number → number - from < length flags
    → ArePassing listed from old flags → (IsTrue passes → Passes listed run) → new.first ≡ old.first
    → new.runs.items ≡ set old.runs.items (number - old.first) run → more ≡ set flags (number - from) passes
    → old.first ≤ from → ArePassing listed from new more
flag_passing listed from old new number run passes flags more low inside later room so_far here first runs are begun i d from_ is_set =
    let put = run_set old new number run d low inside first runs in
    elim (ℕ_discrete i number) [
      | yes is ↦
          let at : number - from ≡ i - from = ap (λ n. n - from) (sym is) in
          let flag : get_or more (i - from) false ≡ passes = ap (λ fs. get_or fs (i - from) false) are
          ∙ (ap (λ n. get_or (set flags (number - from) passes) n false) (sym at)
          ∙ get_or-set_same flags (number - from) passes false room) in
          subst (λ j. Passes listed (run_at new j d)) (sym is)
          (subst (Passes listed) (sym put.0) (here (sym flag ∙ is_set)))
      | no other ↦
          let apart : i - from ≢ number - from = λ same. other (omega arith) in
          let flag : get_or more (i - from) false ≡ get_or flags (i - from) false = ap (λ fs. get_or fs (i - from) false) are
          ∙ get_or-set_other flags (number - from) (i - from) passes false apart in
          subst (Passes listed) (sym (put.1 i (omega arith) other)) (so_far i d from_ (sym flag ∙ is_set))
    ]

-- a run that isn't the one whose summaries were freed passes as before
pub still_passing : (listed : List Entry) (number : ℕ) (old new : Window) → IsFreedAt number old new → (i : ℕ) (d : PendingRun)
    → old.first ≤ i → i ≢ number → Passes listed (run_at old i d) → Passes listed (run_at new i d)
still_passing listed number old new freed i d low other passes = subst (Passes listed) (sym (freed.others i d low other)) passes

-- what is in front stays in front, as more is listed
pub front_kept : (first old new : List Entry) → take (length first) old ≡ first → take (length old) new ≡ old
    → take (length first) new ≡ first
front_kept first old new begins kept =
    let later = drop (length first) old in
    let added = drop (length old) new in
    let old_is : old ≡ first ++ later = sym (take-append-drop (length first) old) ∙ ap (λ es. es ++ later) begins in
    let new_is : new ≡ old ++ added = sym (take-append-drop (length old) new) ∙ ap (λ es. es ++ added) kept in
    ap (take (length first)) (new_is ∙ (ap (λ es. es ++ added) old_is ∙ append_assoc first later added))
    ∙ take-append_seam first (later ++ added)

-- a list that is no longer than its front is its front
pub no_longer : (first nets : List Entry) → take (length first) nets ≡ first → length nets ≡ length first → nets ≡ first
no_longer first nets begins same = sym (take_all (length first) nets (omega arith)) ∙ begins

module _ (batch : Batch) (b place : ℕ) (state : State) (old new : Window) (nets more : List Entry)
    (reached : state ≡ state_at (start_of batch) (blocks_of batch) b) (at : IsWindowAt batch place state old) (inside : place < end_of old)
    (valid : IsValid old place) (so_far : IsListedTo batch b place old nets) where
  -- where the run stands past the list, one more is listed
  pub checked_on : IsChecked place nets more old new true → IsWindowAt batch (place + 1) state new × IsListedTo batch b (place + 1) new more
  checked_on checked =
      let freed = checked.freed refl in
      let begun = at.begun in
      some_run (IsWindowAt batch (place + 1) state new × IsListedTo batch b (place + 1) new more) old.runs.items (place - old.first)
      (omega arith) (λ d.
      let keeps = (keeps_where_holds batch b place state old reached at place d nets (omega arith) so_far valid).0
      (checked.holds.0 refl d) in (
        freed_window batch place state old new at freed,
        freed_listed batch b (place + 1) place old new more freed
            (listed_more batch b place state old reached at place d nets more (omega arith) so_far valid keeps (checked.summary refl d)),
      ))

  -- else the block was seen up to this conflict
  pub checked_conflict : (upto end_ : ℕ) → place < end_ → upto ≡ length nets → IsChecked place nets more old new false
      → IsBlockSeen batch b end_ new more (record { first = place; upto = upto })
  checked_conflict upto end_ before size checked =
      let same = checked.same refl in
      let listed = all_taken nets upto size in
      let begun = at.begun in
      subst (λ w. IsBlockSeen batch b end_ w more (record { first = place; upto = upto })) (sym same.0)
      (subst (λ es. IsBlockSeen batch b end_ old es (record { first = place; upto = upto })) (sym same.1) (record {
        within = omega arith;
        pending = subst (λ s. IsWindowAt batch place s old) reached at;
        upto = omega arith;
        listed = subst (IsListedTo batch b place old) (sym listed) so_far;
        conflict = λ lt keeps. false≢true (checked.holds.1 (λ d.
            (keeps_where_holds batch b place state old reached at place d nets (omega arith) so_far valid).1 keeps));
        all = λ is. size;
      }))

-- a block without a conflict was seen up to its end
pub all_seen : (batch : Batch) (b end_ upto : ℕ) (window : Window) (nets : List Entry)
    → IsWindowAt batch end_ (state_at (start_of batch) (blocks_of batch) b) window → IsListedTo batch b end_ window nets
    → upto ≡ length nets → IsBlockSeen batch b end_ window nets (record { first = end_; upto = upto })
all_seen batch b end_ upto window nets at so_far size = record {
  within = omega arith;
  pending = at;
  upto = omega arith;
  listed = subst (IsListedTo batch b end_ window) (sym (all_taken nets upto size)) so_far;
  conflict = λ lt. absurd (omega arith);
  all = λ is. size;
}
