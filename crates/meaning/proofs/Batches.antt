-- Batches: what the transactions leave, the runs that are kept, and the rounds.
use Rattle.std.proofs.Common.{◌≡◌, ℕ, zero, suc, ◌+◌, ◌-◌, ◌<◌, ◌≤◌, List, [], ◌++◌, refl, sym, ap, ap₂, ◌∙◌, subst, arith}
use Rattle.meaning.specs.declared.end.End.TheVariants.{Ended, Aborted}
use Rattle.objects.specs.Entries.{State, after}
use Rattle.meaning.specs.Trees.{Block}
use Rattle.meaning.specs.Records.{Taken, kept, net}
use Rattle.meaning.specs.OneThread.{Execution, Ran, record_of, outcome_of, state_of, one}
use Rattle.meaning.specs.Batch.{settled, net_of, block_at, state_at, alone, answer, nets, run_nets}
use Rattle.meaning.specs.Rounds.{Keeps}
use Rattle.meaning.specs.Laws.{BatchLaw, StandingRunLaw, KeptRunLaw, RunNetsLaw}
use Rattle.meaning.proofs.Nets.{Leads, lead_on, nets_lead}
use Rattle.meaning.proofs.Shift.{shift}

settled_leads : (before : State) (run : Execution Taken) → Leads before (kept (record_of run)) (state_of run)
    → Leads before (net_of run) (settled before run)
settled_leads before (Ran taken Ended labels state) leads = leads
settled_leads before (Ran taken (Aborted reason) labels state) leads = (tt, refl)

module _ (start : State) (batch : List Block) where
  transaction_leads : (i : ℕ) → Leads (state_at start batch i) (net_of (answer start batch i)) (state_at start batch (suc i))
  unfolding state_at
  transaction_leads i = settled_leads (state_at start batch i) (answer start batch i)
      (nets_lead (block_at batch i) [] (state_at start batch i))

  pub batch_leads : (b count : ℕ) → Leads (state_at start batch b) (nets start batch b count) (state_at start batch (b + count))
  unfolding nets
  batch_leads b zero = let same : b + 0 ≡ b = omega arith in (tt, ap (state_at start batch) same)
  batch_leads b (suc count) =
      let same : suc b + count ≡ b + suc count = omega arith in
      lead_on _ (state_at start batch (suc b)) _ (net_of (answer start batch b)) (nets start batch (suc b) count) (transaction_leads b)
      (subst (λ n. Leads (state_at start batch (suc b)) (nets start batch (suc b) count) (state_at start batch n)) same
      (batch_leads (suc b) count))

pub batch : BatchLaw
batch start transactions b count = batch_leads start transactions b count

pub standing_run : StandingRunLaw
standing_run start transactions i b count commute =
    let since = batch_leads start transactions b count in
    let moved = shift (block_at transactions i) [] (state_at start transactions b) (nets start transactions b count) since.0 commute in
    let there : alone start transactions i (b + count) ≡ one (block_at transactions i) []
    (after (state_at start transactions b) (nets start transactions b count)) = ap (one (block_at transactions i) []) since.1 in
    (ap record_of there ∙ moved.1, ap outcome_of there ∙ moved.2, ap state_of there ∙ moved.3)

pub kept_run : KeptRunLaw
kept_run start transactions i b before keeps =
    let stands = standing_run start transactions i b (i - b) keeps in
    let same : i ≡ b + (i - b) = omega arith in
    let again = ap (alone start transactions i) same in
    (ap record_of again ∙ stands.0, ap outcome_of again ∙ stands.1, ap state_of again ∙ stands.2)

-- the runs from number i on
runs_leave : (start : State) (transactions : List Block) (b i count : ℕ) → b ≤ i
    → ((j : ℕ) → i ≤ j → j < i + count → Keeps start transactions j b) → run_nets start transactions b i count
    ≡ nets start transactions i count
unfolding run_nets nets
runs_leave start transactions b i zero low keep = refl
runs_leave start transactions b i (suc count) low keep =
    let kept = kept_run start transactions i b low (keep i (omega arith) (omega arith)) in
    let first : net_of (alone start transactions i b) ≡ net_of (answer start transactions i) = sym (ap₂ net kept.0 kept.1) in
    let rest = runs_leave start transactions b (suc i) count (omega arith) (λ j from below. keep j (omega arith) (omega arith)) in
    ap₂ (λ ps qs. ps ++ qs) first rest

pub run_nets_law : RunNetsLaw
run_nets_law start transactions b count keep = runs_leave start transactions b b count (omega arith) keep
