-- The first run of a round that conflicts is where the next opening is.
use Rattle.std.proofs.Common.{◌≡◌, ℕ, zero, suc, ◌+◌, ◌-◌, ◌<◌, ◌≤◌, ◌↔◌, List, [], ◌∷◌, ◌++◌, length, get_or, take, refl, sym, ap, ◌∙◌}
use Rattle.std.proofs.Common.{subst, arith}
use Rattle.std.proofs.lemmas.List.{get_or-take, length-take-le}
use Rattle.objects.specs.Entries.{State}
use Rattle.objects.specs.declared.entry.Entry.{Entry}
use Rattle.objects.specs.Entries.{AllCommute}
use Rattle.meaning.specs.Shown.{shown}
use Rattle.meaning.specs.Trees.{Block}
use Rattle.meaning.specs.Records.{Taken, entries, net}
use Rattle.meaning.specs.OneThread as one_thread
use Rattle.meaning.specs.OneThread.{record_of, outcome_of, one}
use Rattle.meaning.specs.Batch.{net_of, block_at, state_at, alone, answer, nets}
use Rattle.meaning.specs.Rounds.{Keeps}
use Rattle.meaning.proofs.Batches.{standing_run}
use Rattle.committed.specs.Summaries.{entries_of, IsSummary}
use Rattle.committed.proofs.SummaryLemmas.{stands-summary, past-summary}
use Rattle.rounds.specs.declared.pending_run.PendingRun.{PendingRun}
use Rattle.rounds.specs.PendingRuns.{left_by, AreSumsOf, IsCommittable, IsPendingOf, net_in, IsListedNet, own_net, own_nets, HoldsPast}
use Rattle.rounds.specs.PendingRuns.{AreSpanned}
use Rattle.committed.specs.Spans.{AreIn}
use Rattle.rounds.specs.declared.pending_run.Net.{Net}
use Rattle.rounds.specs.declared.pending_run.Net.TheVariants.{Summed, Listed, Recorded}
use Rattle.batch.specs.Views.{record_view}
use Rattle.batch.specs.Left.{left_by_transaction}
use Rattle.batch.proofs.LeftNets.{left_is_net}

-- a pending run is that of another state where both have the same record and outcome
pub moved : (r s : one_thread.Execution Taken) (made : PendingRun) → IsPendingOf r made → record_of s ≡ record_of r → outcome_of s
    ≡ outcome_of r
    → IsPendingOf s made
moved r s made is taken outcome =
    let nets_are : net (record_of r) (outcome_of r) ≡ net (record_of s) (outcome_of s) =
    ap (λ t. net t (outcome_of r)) (sym taken) ∙ ap (λ o. net (record_of s) o) (sym outcome) in
    record {
      committable = record {
        tree = is.committable.tree ∙ (ap (λ t. shown t (outcome_of r)) (sym taken) ∙ ap (λ o. shown (record_of s) o) (sym outcome));
        net = λ listed. is.committable.net listed ∙ nets_are;
        span = subst (AreIn made.span) nets_are is.committable.span;
      };
      sums = subst (λ ns. AreSumsOf made.sums (entries (record_of s)) ns) nets_are
          (subst (λ es. AreSumsOf made.sums es (net (record_of r) (outcome_of r))) (ap entries (sym taken)) is.sums);
    }

-- where a run doesn't conflict there is one
pub some_run : (P : Type 0) (runs : List PendingRun) (i : ℕ) → i < length runs → (PendingRun → P) → P
some_run P [] i lt use_run = absurd (omega arith)
some_run P (run ∷ runs) i lt use_run = use_run run

-- a net is in its place, where the record has it too
net_at : (place : Net) (summed recorded net : List Entry) → (IsListedNet place → net_in summed [] place ≡ net) → recorded ≡ net
    → net_in summed recorded place ≡ net
net_at Summed summed recorded net listed told = listed tt
net_at (Listed entries) summed recorded net listed told = listed tt
net_at Recorded summed recorded net listed told = told

-- the net of a run that can be committed is that of its meaning
own_net_is : (block : Block) (state : State) (run : PendingRun) → IsCommittable (one block [] state) run
    → own_net block run ≡ net_of (one block [] state)
own_net_is block state run is =
    net_at run.net (left_by run.sums) (left_by_transaction block (record_view run.tree)) (net_of (one block [] state)) is.net
    (ap (left_by_transaction block) is.tree ∙ left_is_net block [] state)

module _ (start : State) (blocks : List Block) where
  -- where a summary holds past one of the entries, the entries commute with these
  pub holds_past : (i b : ℕ) (since past : List Entry) (run : PendingRun) → IsPendingOf (alone start blocks i b) run → IsSummary since past
      → HoldsPast since run ↔ AllCommute (entries (record_of (alone start blocks i b))) past
  holds_past i b since past run is same =
      let summary = entries_of run.sums.entries.items in
      let whole = entries (record_of (alone start blocks i b)) in
      let by_summary = stands-summary summary whole past is.sums.entries_are in
      let by_since = past-summary summary since past same in
      (λ holds. by_summary.0 (by_since.0 holds), λ commute. by_since.1 (by_summary.1 commute))

  -- a run that was made at an opening and stands past what came since is a run at the later one
  pub still_stands : (i b count : ℕ) (run : PendingRun) → IsPendingOf (alone start blocks i b) run
      → AllCommute (entries (record_of (alone start blocks i b))) (nets start blocks b count)
      → IsPendingOf (alone start blocks i (b + count)) run
  still_stands i b count run is commute =
      let law = standing_run start blocks i b count commute in
      moved (alone start blocks i b) (alone start blocks i (b + count)) run is law.0 law.1

  -- a run that keeps is a run of one thread
  pub keeps_answers : (i b : ℕ) (run : PendingRun) → b ≤ i → IsPendingOf (alone start blocks i b) run → Keeps start blocks i b
      → IsPendingOf (answer start blocks i) run
  keeps_answers i b run le is keeps =
      let same : b + (i - b) ≡ i = omega arith in
      subst (λ j. IsPendingOf (alone start blocks i j) run) same (still_stands i b (i - b) run is keeps)

  -- the first j runs leave what one thread leaves
  pub nets_agree : (b j : ℕ) (runs : List PendingRun) → j ≤ length runs
      → ((k : ℕ) (d : PendingRun) → k < j → IsCommittable (answer start blocks (b + k)) (get_or runs k d))
      → own_nets blocks b (take j runs) ≡ nets start blocks b j
  unfolding nets
  nets_agree b zero runs le answers = refl
  nets_agree b (suc j) [] le answers = absurd (omega arith)
  nets_agree b (suc j) (run ∷ runs) le answers =
      let here : b + 0 ≡ b = omega arith in
      let is : IsCommittable (answer start blocks b) run = subst (λ i. IsCommittable (answer start blocks i) run) here
      (answers 0 run (omega arith)) in
      let rest = nets_agree (suc b) j runs (omega arith) (λ k d lt. let there : b + suc k ≡ suc b + k = omega arith in
      subst (λ i. IsCommittable (answer start blocks i) (get_or runs k d)) there (answers (suc k) d (omega arith))) in
      ap (λ ns. ns ++ own_nets blocks (suc b) (take j runs)) (own_net_is (block_at blocks b) (state_at start blocks b) run is)
      ∙ ap (λ ns. net_of (answer start blocks b) ++ ns) rest

  -- each run can be committed as one thread's, by number from b on
  abbrev pub AreAnswers : ℕ → List PendingRun → Type 0
  AreAnswers b runs = (k : ℕ) (d : PendingRun) → k < length runs → IsCommittable (answer start blocks (b + k)) (get_or runs k d)

  -- what each of them leaves is in its span
  pub spanned : (b count : ℕ) (runs : List PendingRun) → AreAnswers b runs → count ≤ length runs → AreSpanned blocks b (take count runs)
  spanned b count runs are le k d lt =
      let size = length-take-le count runs le in
      let is = are k d (omega (arith, lt, size, le)) in
      subst (λ run. AreIn run.span (own_net (block_at blocks (b + k)) run)) (sym (get_or-take count runs k d (omega (arith, lt, size))))
      (subst (AreIn (get_or runs k d).span)
      (sym (own_net_is (block_at blocks (b + k)) (state_at start blocks (b + k)) (get_or runs k d) is)) is.span)
