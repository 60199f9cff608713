-- What a round lists as it goes on leads to the next opening.
use Rattle.std.proofs.Common.{◌≡◌, ℕ, zero, suc, ◌+◌, ◌-◌, ◌<◌, ◌≤◌, ◌↔◌, List, [], ◌++◌, length, get_or, take, refl, sym, ap, ◌∙◌}
use Rattle.std.proofs.Common.{subst, arith, append_assoc, append-nil}
use native.Mathlib.Decide.{ℕ_discrete, dec_le}
use Rattle.objects.specs.Entries.{State}
use Rattle.objects.specs.declared.entry.Entry.{Entry}
use Rattle.meaning.specs.Trees.{Block}
use Rattle.meaning.specs.OneThread.{one}
use Rattle.meaning.specs.Batch.{net_of, block_at, state_at, alone, answer, nets}
use Rattle.meaning.specs.Rounds.{Keeps, AllKeep, IsNextOpening}
use Rattle.committed.specs.Summaries.{IsSummary}
use Rattle.committed.proofs.SummaryLemmas.{summary_itself, summary-append, summary-nil, summary_of_summary}
use Rattle.batch.specs.declared.batch.Batch.{Batch}
use Rattle.rounds.specs.Views.{start_of, blocks_of}
use Rattle.rounds.specs.declared.pending_run.PendingRun.{PendingRun}
use Rattle.rounds.specs.declared.window.Window.{Window}
use Rattle.rounds.specs.PendingRuns.{IsCommittable, IsPendingOf, left_by, all_left, HoldsPast}
use Rattle.rounds.specs.Checks.{HoldsAfter}
use Rattle.rounds.proofs.Firsts.{next_nets}
use Rattle.std.proofs.lemmas.List.{get_or_default}
use Rattle.rounds.specs.Windows.{run_at, end_of, IsValid, IsWindowAt, HasGrown, IsFreedAt, IsListedTo}
use Rattle.rounds.proofs.Conflicts.{holds_past, keeps_answers, some_run}

-- what one transaction more leaves
pub nets_more : (start : State) (blocks : List Block) (b count : ℕ)
    → nets start blocks b (suc count) ≡ nets start blocks b count ++ net_of (answer start blocks (b + count))
unfolding nets
nets_more start blocks b zero =
    let here : b ≡ b + 0 = omega arith in
    append-nil (net_of (answer start blocks b)) ∙ ap (λ i. net_of (answer start blocks i)) here
nets_more start blocks b (suc count) =
    let there : suc b + count ≡ b + suc count = omega arith in
    let first = net_of (answer start blocks b) in
    ap (λ ns. first ++ ns) (nets_more start blocks (suc b) count
    ∙ ap (λ i. nets start blocks (suc b) count ++ net_of (answer start blocks i)) there)
    ∙ sym (append_assoc first (nets start blocks (suc b) count) (net_of (answer start blocks (b + suc count))))

module _ (batch : Batch) (b from : ℕ) (state : State) (window : Window) (reached : state ≡ state_at (start_of batch) (blocks_of batch) b)
    (at : IsWindowAt batch from state window) where
  -- a valid run is the run of its transaction at the opening
  pub alone_at : (i : ℕ) (d : PendingRun) → from ≤ i → IsValid window i
      → IsPendingOf (alone (start_of batch) (blocks_of batch) i b) (run_at window i d)
  alone_at i d low valid = subst (λ s. IsPendingOf (one (block_at (blocks_of batch) i) [] s) (run_at window i d)) reached
      (at.made i d low valid)

  -- a valid run holds past what was listed exactly where its transaction keeps
  pub keeps_where_holds : (place : ℕ) (d : PendingRun) (listed : List Entry) → from ≤ place → IsListedTo batch b place window listed
      → IsValid window place → HoldsPast listed (run_at window place d) ↔ Keeps (start_of batch) (blocks_of batch) place b
  keeps_where_holds place d listed low so_far valid =
      holds_past (start_of batch) (blocks_of batch) place b listed (nets (start_of batch) (blocks_of batch) b (place - b))
      (run_at window place d) (alone_at place d low valid) so_far.nets

  -- one more keeps, and the list sums up its net, too
  pub listed_more : (place : ℕ) (d : PendingRun) (listed more : List Entry) → from ≤ place → IsListedTo batch b place window listed
      → IsValid window place → Keeps (start_of batch) (blocks_of batch) place b
      → IsSummary more (listed ++ left_by (run_at window place d).sums) → IsListedTo batch b (place + 1) window more
  listed_more place d listed more low so_far valid keeps pushed =
      let opened = so_far.from in
      let size : (place + 1) - b ≡ suc (place - b) = omega arith in
      let here : b + (place - b) ≡ place = omega arith in
      let run = run_at window place d in
      let answers : (o : PendingRun) → IsPendingOf (answer (start_of batch) (blocks_of batch) place) (run_at window place o) =
      λ o. keeps_answers (start_of batch) (blocks_of batch) place b (run_at window place o) opened (alone_at place o low valid)
      keeps in
      let all : nets (start_of batch) (blocks_of batch) b ((place + 1) - b)
      ≡ nets (start_of batch) (blocks_of batch) b (place - b) ++ net_of (answer (start_of batch) (blocks_of batch) place) =
      ap (nets (start_of batch) (blocks_of batch) b) size ∙ (nets_more (start_of batch) (blocks_of batch) b (place - b)
      ∙ ap (λ i. nets (start_of batch) (blocks_of batch) b (place - b) ++ net_of (answer (start_of batch) (blocks_of batch) i)) here) in
      record {
        begun = so_far.begun;
        from = omega arith;
        keep = λ i first lt. elim (dec_le (suc i) place) [
          | yes lower ↦ so_far.keep i first lower
          | no last ↦ let is : place ≡ i = omega arith in subst (λ j. Keeps (start_of batch) (blocks_of batch) j b) is keeps
        ];
        made = λ i o first lt. elim (dec_le (suc i) place) [
          | yes lower ↦ so_far.made i o first lower
          | no last ↦
              let is : place ≡ i = omega arith in
              subst (λ j. IsCommittable (answer (start_of batch) (blocks_of batch) j) (run_at window j o)) is
              (answers o).committable
        ];
        nets = subst (IsSummary more) (sym all) (summary_of_summary more (listed ++ left_by run.sums) (nets (start_of batch)
            (blocks_of batch) b (place - b) ++ net_of (answer (start_of batch) (blocks_of batch) place)) pushed
            (summary-append listed (nets (start_of batch) (blocks_of batch) b (place - b)) (left_by run.sums)
            (net_of (answer (start_of batch) (blocks_of batch) place)) so_far.nets (answers d).sums.net_is));
      }

  -- as far as the runs of a block hold past what is listed and what those before them leave, they keep, and are listed
  pub listed_past : (past : List Entry) (block : List PendingRun)
      → ((k : ℕ) (d : PendingRun) → k < length block → get_or block k d ≡ run_at window (from + k) d)
      → ((k : ℕ) → k < length block → IsValid window (from + k)) → IsListedTo batch b from window past → (k : ℕ) → k ≤ length block
      → ((j : ℕ) → j < k → HoldsAfter past block j) → IsListedTo batch b (from + k) window (past ++ all_left (take k block))
  listed_past past block same valid so_far zero le stand =
      let here : from ≡ from + 0 = omega arith in
      subst (λ es. IsListedTo batch b (from + 0) window es) (sym (append-nil past))
      (subst (λ n. IsListedTo batch b n window past) here so_far)
  listed_past past block same valid so_far (suc k) le stand =
      let before = listed_past past block same valid so_far k (omega arith) (λ j lt. stand j (omega arith)) in
      let next : (from + k) + 1 ≡ from + suc k = omega arith in
      let more : k + 1 ≡ suc k = omega arith in
      some_run (IsListedTo batch b (from + suc k) window (past ++ all_left (take (suc k) block))) block k (omega arith) (λ d.
      let run = get_or block k d in
      let is = same k d (omega arith) in
      let keeps = (keeps_where_holds (from + k) d (past ++ all_left (take k block)) (omega arith) before (valid k (omega arith))).0
      (subst (HoldsPast (past ++ all_left (take k block))) is (stand k (omega arith) d)) in
      let pushed : past ++ all_left (take (suc k) block)
      ≡ (past ++ all_left (take k block)) ++ left_by (run_at window (from + k) d).sums =
      ap (λ es. past ++ es) (ap (λ n. all_left (take n block)) (sym more)
      ∙ next_nets block k run (omega arith) (get_or_default block k d run (omega arith)))
      ∙ (sym (append_assoc past (all_left (take k block)) (left_by run.sums))
      ∙ ap (λ (r : PendingRun). (past ++ all_left (take k block)) ++ left_by r.sums) is) in
      subst (λ n. IsListedTo batch b n window (past ++ all_left (take (suc k) block))) next
      (listed_more (from + k) d (past ++ all_left (take k block)) (past ++ all_left (take (suc k) block)) (omega arith) before
      (valid k (omega arith)) keeps
      (subst (IsSummary (past ++ all_left (take (suc k) block))) pushed (summary_itself (past ++ all_left (take (suc k) block))))))

-- what was listed stays so as more runs are made
pub still_listed : (batch : Batch) (b place : ℕ) (old new : Window) (listed : List Entry) → (b < place → place ≤ end_of old)
    → HasGrown place old new → IsListedTo batch b place old listed → IsListedTo batch b place new listed
still_listed batch b place old new listed inside grown so_far =
    let begun = so_far.begun in
    let first = grown.first in
    record {
      begun = omega arith;
      from = so_far.from;
      keep = so_far.keep;
      made = λ i d low lt. subst (IsCommittable (answer (start_of batch) (blocks_of batch) i))
          (sym (grown.same i d (omega arith) lt (let within = inside (omega arith) in omega arith))) (so_far.made i d low lt);
      nets = so_far.nets;
    }

-- and where the summaries of a run were freed
pub freed_listed : (batch : Batch) (b upto place : ℕ) (old new : Window) (listed : List Entry) → IsFreedAt place old new
    → IsListedTo batch b upto old listed → IsListedTo batch b upto new listed
freed_listed batch b upto place old new listed freed so_far =
    let begun = so_far.begun in
    let first = freed.first in
    record {
      begun = omega arith;
      from = so_far.from;
      keep = so_far.keep;
      made = λ i d low lt. elim (ℕ_discrete place i) [
        | yes here ↦ subst (λ j. IsCommittable (answer (start_of batch) (blocks_of batch) i) (run_at new j d)) here
            (freed.here (answer (start_of batch) (blocks_of batch) i) d
            (subst (λ j. IsCommittable (answer (start_of batch) (blocks_of batch) i) (run_at old j d)) (sym here)
            (so_far.made i d low lt)))
        | no other ↦ subst (IsCommittable (answer (start_of batch) (blocks_of batch) i))
            (sym (freed.others i d (omega arith) (λ is. other (sym is)))) (so_far.made i d low lt)
      ];
      nets = so_far.nets;
    }

-- nothing is listed at first
pub none_listed : (batch : Batch) (b : ℕ) (window : Window) (listed : List Entry) → window.first ≤ b → listed ≡ []
    → IsListedTo batch b b window listed
unfolding nets
none_listed batch b window listed begun empty =
    let none : b - b ≡ 0 = omega arith in
    record {
      begun = begun;
      from = omega arith;
      keep = λ i low lt. absurd (omega arith);
      made = λ i d low lt. absurd (omega arith);
      nets = subst (λ n. IsSummary listed (nets (start_of batch) (blocks_of batch) b n)) (sym none)
          (subst (λ es. IsSummary es []) (sym empty) summary-nil);
    }

-- growth, step by step
pub grown_on : (b : ℕ) (one two three : Window) → HasGrown b one two → HasGrown b two three → HasGrown b one three
grown_on b one two three first second =
    let longer = first.longer in
    let more = second.longer in
    let begun = first.first in
    record {
      first = second.first ∙ first.first;
      longer = omega arith;
      same = λ i d from lt inside. second.same i d (omega arith) lt (omega arith) ∙ first.same i d from lt inside;
      still = λ i from valid. second.still i (omega arith) (first.still i from valid);
    }

-- what stays before a place stays before an earlier one
pub grown_before : (a b : ℕ) (old new : Window) → a ≤ b → HasGrown b old new → HasGrown a old new
grown_before a b old new le grown = record {
  first = grown.first;
  longer = grown.longer;
  same = λ i d from lt inside. grown.same i d from (omega arith) inside;
  still = grown.still;
}

pub not_grown : (b : ℕ) (window : Window) → HasGrown b window window
not_grown b window = record { first = refl; longer = omega arith; same = λ i d from lt inside. refl; still = λ i from valid. valid }

-- the first that doesn't keep is where the next opening is
pub opens_at_conflict : (start : State) (blocks : List Block) (b place : ℕ) → b ≤ place → place ≤ length blocks
    → AllKeep start blocks b place
    → ¬ Keeps start blocks place b → IsNextOpening start blocks b place
opens_at_conflict start blocks b place low within keep conflict = record {
  within = within;
  all_keep = keep;
  largest = λ k inside kept. elim (dec_le k place) [
    | yes le ↦ le
    | no over ↦ absurd (conflict (kept place low (omega arith)))
  ];
}

-- where all keep it is the end
pub opens_at_end : (start : State) (blocks : List Block) (b place : ℕ) → place ≡ length blocks → AllKeep start blocks b place
    → IsNextOpening start blocks b place
opens_at_end start blocks b place end keep = record {
  within = omega arith;
  all_keep = keep;
  largest = λ k inside kept. omega arith;
}
