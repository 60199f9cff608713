-- The conflict that ends a round, and its line.
use Rattle.std.proofs.Common.{◌≡◌, ℕ, ◌+◌, ◌-◌, List, ◌++◌, ◌<◌, length, get_or, sym, ap, ◌∙◌, subst, arith, append_assoc}
use Rattle.std.specs.Fmt.{decimal}
use Rattle.std.specs.List.{All}
use Rattle.objects.specs.declared.entry.Entry.{Entry}
use Rattle.objects.specs.Entries.{CommuteForward, CommutesWith, AllCommute}
use Rattle.meaning.specs.Batch.{alone, nets, run_nets}
use Rattle.meaning.proofs.Batches.{run_nets_law}
use Rattle.batch.specs.Names.{names_of}
use Rattle.batch.specs.Parts.{start_of, blocks_of}
use Rattle.batch.specs.Views.{block_view, record_view}
use Rattle.batch.specs.declared.batch.Batch.{Batch}
use Rattle.batch.specs.declared.tree.Block as declared_block
use Rattle.speculate.specs.Runs.{IsRunOf}
use Rattle.speculate.specs.declared.speculated.Run.{Run}
use Rattle.explain.specs.Why.{PlacedEntry, IsFirstWithout, IsConflict, has_ended, placed, placed_run, placed_nets}
use Rattle.explain.specs.Rounds.{IsRoundAt, IsStopped}
use Rattle.explain.specs.declared.round.Round.{Round}
use Rattle.explain.proofs.Linked.{entries_in, run_entries}
use Rattle.explain.proofs.Earliest.{all_commute, run_places}

-- what is placed of the record of the run that ends it
pub stopped_places : (batch : Batch) (b i : ℕ) (round : Round) (run : Run) (block : declared_block.Block)
    → IsStopped batch b (b + length round.passed.items) round run → i ≡ b + length round.passed.items
    → i < length batch.transactions.items → block ≡ get_or batch.transactions.items i block
    → placed (names_of batch.names) (decimal (i + 1)) 1 (has_ended run.tree.outcome) (block_view block) (record_view run.tree)
    ≡ placed_run (names_of batch.names) (start_of batch) (blocks_of batch) (b + length round.passed.items) b
stopped_places batch b i round run block stop same lt read =
    run_places (names_of batch.names) batch b i run block
    (subst (λ m. IsRunOf (alone (start_of batch) (blocks_of batch) m b) run) (sym same) stop.run_is) lt read
    ∙ ap (λ m. placed_run (names_of batch.names) (start_of batch) (blocks_of batch) m b) same

module _ (batch : Batch) (b : ℕ) (round : Round) (run : Run) (is : IsRoundAt batch b round)
    (stop : IsStopped batch b (b + length round.passed.items) round run) (ps : List PlacedEntry)
    (here : ps
    ≡ placed_run (names_of batch.names) (start_of batch) (blocks_of batch) (b + length round.passed.items) b) where
  -- some operation of the run conflicts
  pub has_late : ¬ All (λ p. CommutesWith p.entry round.nets) ps
  has_late all =
      let same : entries_in ps ≡ run.entries.items =
      ap entries_in here
      ∙ run_entries (names_of batch.names) (start_of batch) (blocks_of batch) (b + length round.passed.items) b
      ∙ sym stop.run_is.entries in
      stop.stops (subst (λ es. AllCommute es round.nets) same (all_commute ps round.nets all))

  -- what it conflicts with is what the runs leave
  pub conflicts_with_runs : (late : Entry) → ¬ CommutesWith late round.nets
      → ¬ CommutesWith late (run_nets (start_of batch) (blocks_of batch) b b (length round.passed.items))
  conflicts_with_runs late fails commutes =
      fails (subst (CommutesWith late)
      (run_nets_law (start_of batch) (blocks_of batch) b (length round.passed.items) is.opens.all_keep ∙ sym is.nets_are) commutes)

  pub conflict_is : (late early : PlacedEntry)
      → IsFirstWithout (λ p. CommutesWith p.entry round.nets) ps late
      → IsFirstWithout (λ p. CommuteForward late.entry p.entry)
      (placed_nets (names_of batch.names) (start_of batch) (blocks_of batch) b b (length round.passed.items)) early
      → IsConflict (names_of batch.names) (start_of batch) (blocks_of batch) b (b + length round.passed.items) late early
  conflict_is late early first_late first_early =
      let count : length round.passed.items ≡ (b + length round.passed.items) - b = omega arith in
      let since : round.nets ≡ nets (start_of batch) (blocks_of batch) b ((b + length round.passed.items) - b) =
      is.nets_are ∙ ap (nets (start_of batch) (blocks_of batch) b) count in
      record {
        late_is = subst (λ ns. IsFirstWithout (λ p. CommutesWith p.entry ns)
            (placed_run (names_of batch.names) (start_of batch) (blocks_of batch) (b + length round.passed.items) b) late) since
            (subst (λ ps. IsFirstWithout (λ p. CommutesWith p.entry round.nets) ps late) here first_late);
        early_is = subst (λ n. IsFirstWithout (λ p. CommuteForward late.entry p.entry)
            (placed_nets (names_of batch.names) (start_of batch) (blocks_of batch) b b n) early) count first_early;
      }

-- texts that are written one after another
pub line_written : (old first second third fourth new head late between early end : List ℕ) → first ≡ old ++ head → second ≡ first ++ late
    → third ≡ second ++ between → fourth ≡ third ++ early → new ≡ fourth ++ end
    → new ≡ old ++ (head ++ late ++ between ++ early ++ end)
line_written old first second third fourth new head late between early end a b c d e =
    e ∙ ap (λ x. x ++ end) (d ∙ ap (λ x. x ++ early) (c ∙ ap (λ x. x ++ between) (b ∙ ap (λ x. x ++ late) a)))
    ∙ ap (λ x. x ++ end) (ap (λ x. x ++ early) (ap (λ x. x ++ between) (append_assoc old head late)
    ∙ append_assoc old (head ++ late) between) ∙ append_assoc old (head ++ late ++ between) early)
    ∙ append_assoc old (head ++ late ++ between ++ early) end
