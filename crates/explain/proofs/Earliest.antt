-- The earliest operation that the runs of a round leave with which an entry doesn't commute forward.
use Rattle.std.proofs.Common.{◌≡◌, ℕ, zero, suc, ◌+◌, ◌<◌, List, [], ◌∷◌, ◌++◌, length, get_or, sym, ap, ◌∙◌, subst, arith}
use Rattle.std.proofs.Common.{append-nil, append_assoc}
use Rattle.std.specs.Fmt.{decimal}
use Rattle.std.specs.List.{All}
use Rattle.std.proofs.lemmas.List.Elements.{All-nil, All-head, All-tail, All-same, All-append}
use Rattle.objects.specs.Entries.{State, CommuteForward, CommutesWith, AllCommute}
use Rattle.objects.specs.declared.entry.Entry.{Entry}
use Rattle.meaning.specs.Trees.{Block}
use Rattle.meaning.specs.Shown.{end_of}
use Rattle.meaning.specs.OneThread.{record_of, outcome_of}
use Rattle.meaning.specs.Batch.{block_at, alone, run_nets}
use Rattle.meaning.specs.Words.{Naming}
use Rattle.batch.specs.Parts.{start_of, blocks_of}
use Rattle.batch.specs.Views.{block_view, record_view}
use Rattle.batch.specs.declared.batch.Batch.{Batch}
use Rattle.batch.specs.declared.tree.Block as declared_block
use Rattle.batch.proofs.CanRun.{block_at_view}
use Rattle.report.proofs.TextLemmas.{end_of-record_view}
use Rattle.speculate.specs.Runs.{IsRunOf}
use Rattle.speculate.specs.declared.speculated.Run.{Run}
use Rattle.explain.specs.Why.{PlacedEntry, IsFirstWithout, has_ended, placed, placed_run, placed_nets}
use Rattle.explain.proofs.Linked.{entries_in, left_in, end_of-shown, nets_entries}

-- ---- the operations of a run

-- what is placed of the record of a run
pub run_places : (names : Naming) (batch : Batch) (b i : ℕ) (run : Run) (block : declared_block.Block)
    → IsRunOf (alone (start_of batch) (blocks_of batch) i b) run → i < length batch.transactions.items
    → block ≡ get_or batch.transactions.items i block
    → placed names (decimal (i + 1)) 1 (has_ended run.tree.outcome) (block_view block) (record_view run.tree)
    ≡ placed_run names (start_of batch) (blocks_of batch) i b
run_places names batch b i run block is lt read =
    let meant = alone (start_of batch) (blocks_of batch) i b in
    let outcome = sym (end_of-record_view run.tree) ∙ ap end_of is.tree ∙ end_of-shown (record_of meant) (outcome_of meant) in
    ap (λ o. placed names (decimal (i + 1)) 1 (has_ended o) (block_view block) (record_view run.tree)) outcome
    ∙ ap (λ t. placed names (decimal (i + 1)) 1 (has_ended (outcome_of meant)) t (record_view run.tree))
    (block_at_view batch.transactions.items i block lt read)
    ∙ ap (placed names (decimal (i + 1)) 1 (has_ended (outcome_of meant)) (block_at (blocks_of batch) i)) is.tree

-- entries that each commute with all of a list
pub all_commute : (ps : List PlacedEntry) (left : List Entry) → All (λ p. CommutesWith p.entry left) ps → AllCommute (entries_in ps) left
all_commute [] left all = tt
all_commute (p ∷ ps) left all = (
  All-head (λ p. CommutesWith p.entry left) p ps all,
  all_commute ps left (All-tail (λ p. CommutesWith p.entry left) p ps all),
)

pub commutes_with_all : (e : Entry) (ps : List PlacedEntry) → All (λ p. CommuteForward e p.entry) ps → CommutesWith e (entries_in ps)
commutes_with_all e [] all = tt
commutes_with_all e (p ∷ ps) all = (
  All-head (λ p. CommuteForward e p.entry) p ps all,
  commutes_with_all e ps (All-tail (λ p. CommuteForward e p.entry) p ps all),
)

-- ---- run after run

module _ (names : Naming) (start : State) (batch : List Block) where
  nets_more : (b i k : ℕ) → placed_nets names start batch b i (suc k)
      ≡ placed_nets names start batch b i k ++ left_in (placed_run names start batch (i + k) b)
  unfolding placed_nets
  nets_more b i zero =
      let same : i ≡ i + 0 = omega arith in
      append-nil (left_in (placed_run names start batch i b)) ∙ ap (λ j. left_in (placed_run names start batch j b)) same
  nets_more b i (suc k) =
      let same : suc i + k ≡ i + suc k = omega arith in
      ap (λ ps. left_in (placed_run names start batch i b) ++ ps) (nets_more b (suc i) k)
      ∙ sym (append_assoc (left_in (placed_run names start batch i b)) (placed_nets names start batch b (suc i) k)
      (left_in (placed_run names start batch (suc i + k) b)))
      ∙ ap (λ j. (left_in (placed_run names start batch i b) ++ placed_nets names start batch b (suc i) k)
      ++ left_in (placed_run names start batch j b)) same

  -- what comes after the first of them
  nets_split : (b i k count : ℕ) → k < count → (rest : List PlacedEntry) × (placed_nets names start batch b i count
      ≡ placed_nets names start batch b i (suc k) ++ rest)
  unfolding placed_nets
  nets_split b i k zero lt = absurd (omega arith)
  nets_split b i zero (suc count) lt = (
    placed_nets names start batch b (suc i) count,
    ap (λ ps. ps ++ placed_nets names start batch b (suc i) count)
        (sym (append-nil (left_in (placed_run names start batch i b)))),
  )
  nets_split b i (suc k) (suc count) lt =
      let later = nets_split b (suc i) k count (omega arith) in (
        later.0,
        ap (λ ps. left_in (placed_run names start batch i b) ++ ps) later.1
            ∙ sym (append_assoc (left_in (placed_run names start batch i b)) (placed_nets names start batch b (suc i) (suc k)) later.0),
      )

  module _ (P : PlacedEntry → Type 0) (b k : ℕ) (before : All P (placed_nets names start batch b b k)) where
    -- none is in the next run
    pub none_in_next : All P (left_in (placed_run names start batch (b + k) b)) → All P (placed_nets names start batch b b (k + 1))
    none_in_next here =
        let same : suc k ≡ k + 1 = omega arith in
        subst (λ n. All P (placed_nets names start batch b b n)) same
        (All-same P _ _ (nets_more b b k) (All-append P _ _ before here))

    -- the first one is in the next run
    pub first_in_next : (count : ℕ) (p : PlacedEntry) → k < count
        → IsFirstWithout P (left_in (placed_run names start batch (b + k) b)) p
        → IsFirstWithout P (placed_nets names start batch b b count) p
    first_in_next count p lt first =
        let earlier : List PlacedEntry = placed_nets names start batch b b k in
        let rest = nets_split b b k count lt in
        record {
          before = earlier ++ first.before;
          after = first.after ++ rest.0;
          is =
              rest.1 ∙ ap (λ ps. ps ++ rest.0) (nets_more b b k ∙ ap (λ ps. earlier ++ ps) first.is)
              ∙ ap (λ ps. ps ++ rest.0) (sym (append_assoc earlier first.before (p ∷ first.after)))
              ∙ append_assoc (earlier ++ first.before) (p ∷ first.after) rest.0;
          clear = All-append P earlier first.before before first.clear;
          without = first.without;
        }

  pub none_yet : (P : PlacedEntry → Type 0) (b : ℕ) → All P (placed_nets names start batch b b 0)
  unfolding placed_nets
  none_yet P b = All-nil P

  -- where there is none, the entry commutes with all that the runs leave
  pub commutes_at_end : (e : Entry) (b count : ℕ) → All (λ p. CommuteForward e p.entry) (placed_nets names start batch b b count)
      → CommutesWith e (run_nets start batch b b count)
  commutes_at_end e b count all = subst (CommutesWith e) (nets_entries names start batch b b count)
      (commutes_with_all e (placed_nets names start batch b b count) all)
