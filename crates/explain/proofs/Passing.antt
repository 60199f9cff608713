-- The runs of a round, one after the other.
use Rattle.std.proofs.Common.{◌≡◌, ℕ, zero, suc, ◌+◌, ◌-◌, ◌<◌, ◌≤◌, List, [], ◌∷◌, ◌++◌, length, get_or, take, sym, ap, ◌∙◌, subst, arith}
use Rattle.std.proofs.Common.{◌↔◌, append-nil, append_assoc, length-append}
use Rattle.std.proofs.lemmas.List.{get_or-append-add, get_or_append_left, take_all}
use native.Mathlib.Decide.{dec_le}
use Rattle.objects.specs.Entries.{State, AllCommute}
use Rattle.objects.specs.declared.entry.Entry.{Entry}
use Rattle.meaning.specs.Trees.{Block}
use Rattle.meaning.specs.Records.{entries}
use Rattle.meaning.specs.OneThread.{record_of, one}
use Rattle.meaning.specs.Batch.{block_at, state_at, alone, net_of, nets, run_nets}
use Rattle.meaning.specs.Rounds.{Keeps, AllKeep, IsNextOpening}
use Rattle.meaning.proofs.Batches.{run_nets_law}
use Rattle.meaning.proofs.Openings.{one_more, first_conflict}
use Rattle.batch.specs.Parts.{start_of, blocks_of}
use Rattle.batch.specs.declared.batch.Batch.{Batch}
use Rattle.speculate.specs.Runs.{IsRunOf}
use Rattle.speculate.specs.declared.speculated.Run.{Run}
use Rattle.explain.specs.Rounds.{AreRuns, IsStopped}
use Rattle.explain.specs.declared.round.Round.{Round}

run_nets_more : (start : State) (batch : List Block) (b i count : ℕ)
    → run_nets start batch b i (suc count) ≡ run_nets start batch b i count ++ net_of (alone start batch (i + count) b)
unfolding run_nets
run_nets_more start batch b i zero =
    let same : i ≡ i + 0 = omega arith in
    append-nil (net_of (alone start batch i b)) ∙ ap (λ j. net_of (alone start batch j b)) same
run_nets_more start batch b i (suc count) =
    let same : suc i + count ≡ i + suc count = omega arith in
    ap (λ ns. net_of (alone start batch i b) ++ ns) (run_nets_more start batch b (suc i) count)
    ∙ sym (append_assoc (net_of (alone start batch i b)) (run_nets start batch b (suc i) count)
    (net_of (alone start batch (suc i + count) b)))
    ∙ ap (λ j. (net_of (alone start batch i b) ++ run_nets start batch b (suc i) count) ++ net_of (alone start batch j b)) same

-- the runs before a place have passed
pub record HavePassed (batch : Batch) (b place : ℕ) (passed : List Run) (left : List Entry) : Type 0 where
  pub size : b + length passed ≡ place
  pub within : place ≤ length (blocks_of batch)
  pub runs : AreRuns batch b passed
  pub keep : AllKeep (start_of batch) (blocks_of batch) b place
  pub nets : left ≡ run_nets (start_of batch) (blocks_of batch) b b (length passed)

pub none_passed : (batch : Batch) (b : ℕ) (passed : List Run) (left : List Entry) → b ≤ length (blocks_of batch) → passed ≡ []
    → left ≡ [] → HavePassed batch b b passed left
unfolding run_nets
none_passed batch b passed left le none is =
    let size : length passed ≡ 0 = ap length none in
    record {
      size = omega arith;
      within = le;
      runs = λ k d lt. absurd (omega arith);
      keep = λ i low high. absurd (omega arith);
      nets = is ∙ ap (run_nets (start_of batch) (blocks_of batch) b b) (sym size);
    }

-- a run of this transaction on these objects
pub run_here : (batch : Batch) (b place number : ℕ) (objects : State) (run : Run) → number ≡ place
    → objects ≡ state_at (start_of batch) (blocks_of batch) b → IsRunOf (one (block_at (blocks_of batch) number) [] objects) run
    → IsRunOf (alone (start_of batch) (blocks_of batch) place b) run
run_here batch b place number objects run same reached is =
    subst (λ i. IsRunOf (alone (start_of batch) (blocks_of batch) i b) run) same
    (subst (λ state. IsRunOf (one (block_at (blocks_of batch) number) [] state) run) reached is)

-- commuting with the whole list
pub with_all : (es fs left : List Entry) (n : ℕ) → es ≡ fs → n ≡ length left → AllCommute es (take n left) ↔ AllCommute fs left
with_all es fs left n same size =
    let whole : take n left ≡ left = take_all n left (omega arith) in (
      λ h. subst (AllCommute fs) whole (subst (λ x. AllCommute x (take n left)) same h),
      λ h. subst (λ x. AllCommute x (take n left)) (sym same) (subst (AllCommute fs) (sym whole) h),
    )

module _ (batch : Batch) (b place : ℕ) (passed : List Run) (left : List Entry) (at : HavePassed batch b place passed left) where
  -- what they leave is what the one-thread runs leave
  pub left_is : left ≡ nets (start_of batch) (blocks_of batch) b (length passed)
  left_is = at.nets ∙ run_nets_law (start_of batch) (blocks_of batch) b (length passed)
      (subst (AllKeep (start_of batch) (blocks_of batch) b) (sym at.size) at.keep)

  left_since : left ≡ nets (start_of batch) (blocks_of batch) b (place - b)
  left_since =
      let size = at.size in
      let same : length passed ≡ place - b = omega arith in
      left_is ∙ ap (nets (start_of batch) (blocks_of batch) b) same

  module _ (run : Run) (is : IsRunOf (alone (start_of batch) (blocks_of batch) place b) run) where
    keeps : AllCommute run.entries.items left → Keeps (start_of batch) (blocks_of batch) place b
    keeps stands = subst (λ ns. AllCommute (entries (record_of (alone (start_of batch) (blocks_of batch) place b))) ns) left_since
        (subst (λ es. AllCommute es left) is.entries stands)

    keeps_not : ¬ AllCommute run.entries.items left → ¬ Keeps (start_of batch) (blocks_of batch) place b
    keeps_not fails keep = fails (subst (λ es. AllCommute es left) (sym is.entries)
        (subst (λ ns. AllCommute (entries (record_of (alone (start_of batch) (blocks_of batch) place b))) ns) (sym left_since) keep))

    run_at : (k : ℕ) (d : Run) → k < length (passed ++ run ∷ [])
        → IsRunOf (alone (start_of batch) (blocks_of batch) (b + k) b) (get_or (passed ++ run ∷ []) k d)
    run_at k d lt = elim (dec_le (suc k) (length passed)) [
      | yes low ↦ subst (IsRunOf (alone (start_of batch) (blocks_of batch) (b + k) b)) (sym (get_or_append_left passed (run ∷ []) d k low))
          (at.runs k d low)
      | no high ↦
          let size = at.size in
          let total = length-append passed (run ∷ []) in
          let here : k ≡ length passed + 0 = omega arith in
          let there : place ≡ b + k = omega arith in
          subst (λ r. IsRunOf (alone (start_of batch) (blocks_of batch) (b + k) b) r)
          (sym (ap (λ j. get_or (passed ++ run ∷ []) j d) here ∙ get_or-append-add passed (run ∷ []) 0 d))
          (subst (λ j. IsRunOf (alone (start_of batch) (blocks_of batch) j b) run) there is)
    ]

    -- one more passes
    pub one_more_passed : (new : List Entry) (runs : List Run) → place < length (blocks_of batch) → AllCommute run.entries.items left
        → new ≡ left ++ run.net.items → runs ≡ passed ++ run ∷ [] → HavePassed batch b (place + 1) runs new
    one_more_passed new runs lt stands nets_are runs_are =
        let size = at.size in
        let total = length-append passed (run ∷ []) in
        let count : length runs ≡ suc (length passed) = let all = ap length runs_are in omega arith in
        let next : suc place ≡ place + 1 = omega arith in
        record {
          size = omega arith;
          within = omega arith;
          runs = subst (AreRuns batch b) (sym runs_are) run_at;
          keep = subst (AllKeep (start_of batch) (blocks_of batch) b) next
              (one_more (start_of batch) (blocks_of batch) b place at.keep (keeps stands));
          nets = nets_are ∙ ap (λ ns. ns ++ run.net.items) at.nets
              ∙ ap (λ ns. run_nets (start_of batch) (blocks_of batch) b b (length passed) ++ ns)
              (is.net ∙ ap (λ j. net_of (alone (start_of batch) (blocks_of batch) j b)) (sym size))
              ∙ sym (run_nets_more (start_of batch) (blocks_of batch) b b (length passed))
              ∙ ap (run_nets (start_of batch) (blocks_of batch) b b) (sym count);
        }

    -- this one doesn't
    pub stopped_by : (round : Round) → round.passed.items ≡ passed → round.nets ≡ left → place < length (blocks_of batch)
        → ¬ AllCommute run.entries.items left
        → IsNextOpening (start_of batch) (blocks_of batch) b (b + length round.passed.items)
        × IsStopped batch b (b + length round.passed.items) round run
    stopped_by round passed_are nets_are lt fails =
        let size : place ≡ b + length round.passed.items = sym at.size ∙ ap (λ rs. b + length rs) (sym passed_are) in
        let low : b ≤ place = let size = at.size in omega arith in (
          subst (IsNextOpening (start_of batch) (blocks_of batch) b) size
              (first_conflict (start_of batch) (blocks_of batch) b place low at.within at.keep (λ more. keeps_not fails)),
          subst (λ m. IsStopped batch b m round run) size (record {
            within = lt;
            run_is = is;
            stops = λ stands. fails (subst (AllCommute run.entries.items) nets_are stands);
          }),
        )

  -- all have passed
  pub all_passed : length (blocks_of batch) ≤ place → IsNextOpening (start_of batch) (blocks_of batch) b (b + length passed)
      × (b + length passed ≡ length (blocks_of batch))
  all_passed end =
      let size = at.size in
      let within = at.within in (
        subst (IsNextOpening (start_of batch) (blocks_of batch) b) (sym size)
            (first_conflict (start_of batch) (blocks_of batch) b place (omega arith) at.within at.keep (λ more. absurd (omega arith))),
        omega arith,
      )
