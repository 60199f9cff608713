-- What the records of committed transactions show.
use Rattle.std.proofs.Common.{◌≡◌, ℕ, zero, suc, ◌+◌, List, [], ◌∷◌, ◌++◌, map, length, get_or, refl, ap, ◌∙◌, sym, subst, arith}
use Rattle.std.proofs.lemmas.List.{map-append}
use Rattle.objects.specs.Entries.{State}
use Rattle.meaning.specs.Trees.{Block}
use Rattle.meaning.specs.Batch.{answer, shown_of, shown_from}
use Rattle.batch.specs.Views.{record_view}
use Rattle.batch.specs.declared.record.Record.{Record}
use Rattle.rounds.specs.declared.pending_run.PendingRun.{PendingRun}
use Rattle.rounds.specs.PendingRuns.{IsCommittable}
use Rattle.rounds.proofs.Conflicts.{AreAnswers}

module _ (start : State) (blocks : List Block) where
  -- what transactions show, and then more of them
  shown_on : (b count more : ℕ) → shown_from start blocks b (count + more)
      ≡ shown_from start blocks b count ++ shown_from start blocks (b + count) more
  unfolding shown_from
  shown_on b zero more =
      let size : 0 + more ≡ more = omega arith in
      let here : b ≡ b + 0 = omega arith in
      ap (shown_from start blocks b) size ∙ ap (λ n. shown_from start blocks n more) here
  shown_on b (suc count) more =
      let size : suc count + more ≡ suc (count + more) = omega arith in
      let there : suc b + count ≡ b + suc count = omega arith in
      ap (shown_from start blocks b) size
      ∙ ap (λ rest. shown_of (answer start blocks b) ∷ rest) (shown_on (suc b) count more
      ∙ ap (λ n. shown_from start blocks (suc b) count ++ shown_from start blocks n more) there)

  -- what the records of runs that can be committed as one thread's show
  runs_show : (b : ℕ) (runs : List PendingRun) → AreAnswers start blocks b runs
      → map record_view (map (λ r. r.tree) runs) ≡ shown_from start blocks b (length runs)
  unfolding shown_from
  runs_show b [] are = refl
  runs_show b (run ∷ runs) are =
      let here : b + 0 ≡ b = omega arith in
      let shows : record_view run.tree ≡ shown_of (answer start blocks b) = (are 0 run (omega arith)).tree
      ∙ ap (λ i. shown_of (answer start blocks i)) here in
      let rest = runs_show (suc b) runs (λ k d lt. let there : b + suc k ≡ suc b + k = omega arith in
      subst (λ i. IsCommittable (answer start blocks i) (get_or runs k d)) there (are (suc k) d (omega arith))) in
      ap (λ x. x ∷ map record_view (map (λ (r : PendingRun). r.tree) runs)) shows
      ∙ ap (λ xs. shown_of (answer start blocks b) ∷ xs) rest

  -- the records of the transactions before a number, and then those of such runs
  pub recorded_on : (b : ℕ) (runs : List PendingRun) (before after : List Record) → AreAnswers start blocks b runs
      → map record_view before ≡ shown_from start blocks 0 b → after ≡ before ++ map (λ r. r.tree) runs
      → map record_view after ≡ shown_from start blocks 0 (b + length runs)
  recorded_on b runs before after are shown pushed =
      let trees = map (λ (r : PendingRun). r.tree) runs in
      let first : b ≡ 0 + b = omega arith in
      ap (map record_view) pushed ∙ (map-append record_view before trees ∙ (ap (λ xs. xs ++ map record_view trees) shown
      ∙ (ap (λ xs. shown_from start blocks 0 b ++ xs) (runs_show b runs are
      ∙ ap (λ n. shown_from start blocks n (length runs)) first) ∙ sym (shown_on 0 b (length runs)))))
