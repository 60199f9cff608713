-- What holds once every transaction is committed.
use Rattle.std.proofs.Common.{◌≡◌, ℕ, ◌+◌, ◌≤◌, List, map, length, sym, ap, ◌∙◌, subst, arith}
use Rattle.std.proofs.lemmas.List.{length-map}
use Rattle.objects.specs.Objects.{kind_of_value}
use Rattle.objects.specs.Entries.{kinds, after}
use Rattle.batch.specs.Views.{record_view}
use Rattle.meaning.specs.declared.limits.TheConstants.{MAX_OBJECTS}
use Rattle.meaning.specs.Batch.{state_at, nets, shown_from, all_shown}
use Rattle.meaning.specs.Rounds.{Rounds}
use Rattle.meaning.proofs.Batches.{batch_leads}
use Rattle.rounds.specs.Views.{start_of, blocks_of}
use Rattle.rounds.specs.declared.openings.Opening.{Opening}
use Rattle.rounds.specs.Openings.{AreCounts}
use Rattle.rounds.specs.Outcomes.{IsOutcomeOf}
use Rattle.rounds.specs.Windows.{IsOpening, AreCountsOn}
use Rattle.batch.specs.declared.batch.Batch.{Batch}
use Rattle.batch.specs.declared.answer.Outcome.{Outcome}
use Rattle.speculate.proofs.Room.{kinds_at}

module _ (batch : Batch) (at : Opening) (here : IsOpening batch at) (over : length (blocks_of batch) ≤ at.committed) where
  is_end : at.committed ≡ length (blocks_of batch)
  is_end = let within = here.within in omega arith

  -- the records show what one thread's do
  end_shown : map record_view at.records.items ≡ all_shown (start_of batch) (blocks_of batch)
  end_shown = here.committed ∙ ap (shown_from (start_of batch) (blocks_of batch) 0) is_end

  end_rounds : Rounds (start_of batch) (blocks_of batch) at.rounds
  end_rounds = let same : at.rounds + 0 ≡ at.rounds = omega arith in subst (Rounds (start_of batch) (blocks_of batch)) same
      (here.all_rounds 0 is_end)

  end_state : at.objects ≡ state_at (start_of batch) (blocks_of batch) (length (blocks_of batch))
  end_state = here.objects ∙ ap (state_at (start_of batch) (blocks_of batch)) is_end

  end_few : length at.objects ≤ MAX_OBJECTS
  end_few =
      let same : kinds at.objects ≡ kinds (start_of batch) = ap kinds here.objects ∙ kinds_at batch at.committed here.within in
      let count : length at.objects ≡ length (start_of batch) = sym (length-map at.objects kind_of_value) ∙ ap length same
      ∙ length-map (start_of batch) kind_of_value in
      omega (arith, count, batch.is_batch.few_objects)

  end_nets : at.objects ≡ after (start_of batch) (nets (start_of batch) (blocks_of batch) 0 (length (blocks_of batch)))
  unfolding state_at
  end_nets =
      let count : length (blocks_of batch) ≡ 0 + length (blocks_of batch) = omega arith in
      end_state ∙ (ap (state_at (start_of batch) (blocks_of batch)) count
      ∙ (batch_leads (start_of batch) (blocks_of batch) 0 (length (blocks_of batch))).1)

  -- what is returned then is what one thread does
  pub is_outcome : (outcome : Outcome) → outcome.records ≡ at.records → outcome.objects ≡ at.objects → outcome.rounds ≡ at.rounds
      → IsOutcomeOf batch outcome
  is_outcome outcome records objects rounds = record {
    records = ap (λ rs. map record_view rs.items) records ∙ end_shown;
    objects = objects ∙ end_state;
    few_objects = subst (λ state. length state ≤ MAX_OBJECTS) (sym objects) end_few;
    net = objects ∙ end_nets;
    rounds = subst (Rounds (start_of batch) (blocks_of batch)) (sym rounds) end_rounds;
    few = let few = here.few_rounds in let within = here.within in omega arith;
  }

  -- each count is the defined one
  pub end_counts : (counts : List ℕ) → AreCountsOn batch at at.rounds counts → AreCounts batch counts
  end_counts counts are = record {
    all = are.all;
    each = λ i lt. are.committed i (omega arith);
  }
