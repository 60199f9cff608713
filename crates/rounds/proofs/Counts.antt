-- How often each transaction is run, from opening to opening.
use Rattle.std.proofs.Common.{◌≡◌, ⊎_elim, ℕ, suc, ◌+◌, ◌<◌, ◌≤◌, Bool, true, false, List, length, get_or, ap, ◌∙◌, subst, arith}
use native.Mathlib.Decide.{dec_le}
use Rattle.claims.specs.Views.{times}
use Rattle.meaning.specs.Rounds.{Count, CountFrom, IsCommitted, StillStands, IsRefuted}
use Rattle.batch.specs.declared.batch.Batch.{Batch}
use Rattle.rounds.specs.Views.{start_of, blocks_of}
use Rattle.rounds.specs.declared.window.Window.{Window}
use Rattle.rounds.specs.declared.openings.Opening.{Opening}
use Rattle.rounds.specs.Windows.{flag_at, IsValid, AllValid, AllPending, AreMissing, AreCountsAt, AreCountsOn}
use Rattle.rounds.specs.Windows.{IsRound, Stands, still_to_be_made}

at_most_one : (flag : Bool) → still_to_be_made flag ≤ 1
at_most_one true = omega arith
at_most_one false = omega arith

module _ (batch : Batch) where
  abbrev CountsTo : ℕ → ℕ → Type 0
  CountsTo i n = Count (start_of batch) (blocks_of batch) i n

  -- nothing is made at first
  pub none_counted : (window : Window) (counts : List ℕ) → length counts ≡ length (blocks_of batch)
      → ((i : ℕ) → get_or counts i 0 ≡ 0) → ((i : ℕ) → flag_at window i ≡ false) → AreCountsAt batch 0 0 window counts
  none_counted window counts all zero none = record {
    all = all;
    few = λ i. let z = zero i in omega arith;
    committed = λ i lt. absurd (omega arith);
    pending = λ i more low high from.
        let unmade = ap still_to_be_made (none i) in
        let z = zero i in
        let same : suc more ≡ get_or counts i 0 + still_to_be_made (flag_at window i) + more = omega arith in
        subst (CountsTo i) same from;
  }

  -- the missing runs are made and counted
  pub rest_counted : (b rounds : ℕ) (old reached new : Window) (counts more : List ℕ) (numbers : List ℕ)
      → AreCountsAt batch b rounds old counts
      → ((i : ℕ) → flag_at reached i ≡ flag_at old i)
      → AreMissing reached b (length (blocks_of batch)) numbers → AllValid new b (length (blocks_of batch)) → length more ≡ length counts
      → ((i : ℕ) → get_or more i 0 ≡ get_or counts i 0 + times i numbers) → AreCountsAt batch b (rounds + 1) new more
  rest_counted b rounds old reached new counts more numbers so_far flags missing made size added = record {
    all = size ∙ so_far.all;
    few = λ i.
        let now = added i in
        let few = so_far.few i in
        let one = at_most_one (flag_at reached i) in
        elim (dec_le b i) [
          | yes le ↦ elim (dec_le (length (blocks_of batch)) i) [
            | yes over ↦ let none = missing.beyond i over in omega arith
            | no within ↦ let told = missing.each i le (omega arith) in omega arith
          ]
          | no less ↦ let none = missing.before i (omega arith) in omega arith
        ];
    committed = λ i lt.
        let now = added i in
        let none = missing.before i lt in
        let same : get_or counts i 0 ≡ get_or more i 0 = omega arith in
        subst (CountsTo i) same (so_far.committed i lt);
    pending = λ i further low high from.
        let now = added i in
        let told = missing.each i low high ∙ ap still_to_be_made (flags i) in
        let valid = ap still_to_be_made (made i low high) in
        let same : get_or counts i 0 + still_to_be_made (flag_at old i) + further
        ≡ get_or more i 0 + still_to_be_made (flag_at new i) + further = omega arith in
        subst (CountsTo i) same (so_far.pending i further low high from);
  }

  -- a round commits some runs, and of the others those that aren't valid any more are to be made again
  pub round_counted : (old new : Opening) (counts : List ℕ) → IsRound batch old new
      → AllPending batch old → AreCountsOn batch old (old.rounds + 1) counts → AreCountsOn batch new new.rounds counts
  round_counted old new counts went valid so_far =
      let on = went.on in
      let made : (i more : ℕ) → old.committed ≤ i → i < length (blocks_of batch)
      → CountFrom (start_of batch) (blocks_of batch) i old.committed (suc more) → CountsTo i (get_or counts i 0 + more) =
      λ i more low high from.
      let all = ap still_to_be_made (valid i low high) in
      let same : get_or counts i 0 + still_to_be_made (flag_at old.window i) + more ≡ get_or counts i 0 + more
      = omega arith in
      subst (CountsTo i) same (so_far.pending i more low high from) in
      record {
        all = so_far.all;
        few = λ i. let few = so_far.few i in let one = went.one in omega arith;
        committed = λ i lt. elim (dec_le old.committed i) [
          | yes le ↦
              let within = went.next.within in
              let same : get_or counts i 0 + 0 ≡ get_or counts i 0 = omega arith in
              subst (CountsTo i) same (made i 0 le (omega arith) (IsCommitted went.next lt))
          | no less ↦ so_far.committed i (omega arith)
        ];
        pending = λ i more low high from.
            let before : old.committed ≤ i = omega arith in
            ⊎_elim
            (λ (stays : IsValid new.window i × Stands batch old.committed new.committed i).
            let none = ap still_to_be_made stays.0 in
            let same : get_or counts i 0 + more ≡ get_or counts i 0 + still_to_be_made (flag_at new.window i) + more
            = omega arith in
            subst (CountsTo i) same (made i more before high (StillStands went.next low stays.1 from)))
            (λ (falls : (flag_at new.window i ≡ false) × (¬ Stands batch old.committed new.committed i)).
            let one = ap still_to_be_made falls.0 in
            let same : get_or counts i 0 + suc more ≡ get_or counts i 0 + still_to_be_made (flag_at new.window i) + more
            = omega arith in
            subst (CountsTo i) same (made i (suc more) before high (IsRefuted went.next low falls.1 from)))
            (went.kept i low (valid i before high));
      }
