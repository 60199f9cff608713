-- The valid runs that a commit conflicts with are listed, each once, and aren't valid then.
use Rattle.std.proofs.Common.{◌≡◌, ◌≢◌, ◌↔◌, ◌⊎◌, ⊎_elim, ℕ, zero, suc, ◌+◌, ◌-◌, ◌<◌, ◌≤◌, Bool, true, false, inl, inr, List}
use Rattle.std.proofs.Common.{[], ◌∷◌, length, get_or, set, take, refl, sym, ap, ◌∙◌, subst, arith}
use Rattle.std.proofs.lemmas.Bool.{false≢true}
use Rattle.std.proofs.lemmas.List.{get_or_default, length-set, take_more}
use native.Mathlib.Decide.{ℕ_discrete, dec_le}
use Rattle.std.specs.Bool.{IsTrue}
use Rattle.objects.specs.declared.entry.Entry.{Entry}
use Rattle.workers.specs.Working.{AreGivenOnce}
use Rattle.workers.proofs.Once.{given_here, given_nowhere}
use Rattle.claims.specs.Views.{times}
use Rattle.claims.proofs.Lists.{times-append}
use Rattle.rounds.specs.declared.pending_run.PendingRun.{PendingRun}
use Rattle.rounds.specs.declared.window.Window.{Window}
use Rattle.rounds.specs.PendingRuns.{HoldsPast}
use Rattle.rounds.specs.Windows.{run_at, flag_at, end_of, IsValid, Told, IsFallenAt, AreFallen, AreStale, KeptAt, AreKept}
use Rattle.rounds.proofs.Times.{times_one, times_none}
use Rattle.rounds.proofs.WindowLemmas.{flag_set, run_read, none_past}

-- where a run is left as it is, its number isn't listed
pub not_listed : (window : Window) (since : List Entry) (place : ℕ) → ((d : PendingRun) → Told window since place 0 d)
    → IsFallenAt window since place []
not_listed window since place told = record { here = told; elsewhere = λ i other. refl }

-- where it falls its number is listed
pub falls_at : (window : Window) (since : List Entry) (place : ℕ) → ((d : PendingRun) → Told window since place 1 d)
    → IsFallenAt window since place (place ∷ [])
falls_at window since place told = record {
  here = λ d. subst (λ n. Told window since place n d) (sym (times_one place)) (told d);
  elsewhere = λ i other. times_none i place (λ h. other (sym h));
}

-- what one place lists is all that is listed of it
told_at : (window : Window) (since : List Entry) (place i : ℕ) (own numbers : List ℕ) → place ≡ i → IsFallenAt window since place own
    → times i numbers ≡ times i own → (d : PendingRun) → Told window since i (times i numbers) d
told_at window since place i own numbers same decided is d = subst (λ n. Told window since i n d) (sym is)
    (subst (λ k. Told window since k (times k own) d) same (decided.here d))

-- what all places together list
pub all_decided : (window : Window) (since : List Entry) (from count : ℕ) (numbers : List ℕ) → from + count ≡ end_of window
    → AreGivenOnce (λ piece. IsFallenAt window since (from + piece)) count numbers
    → AreFallen window since from (end_of window) numbers
all_decided window since from count numbers all given = record {
  before = λ i lt. given_nowhere (λ piece. IsFallenAt window since (from + piece)) (times i) refl (times-append i) count numbers
      (λ j own below decided. decided.elsewhere i (let apart : i ≢ from + j = omega arith in apart)) given;
  beyond = λ i le. given_nowhere (λ piece. IsFallenAt window since (from + piece)) (times i) refl (times-append i) count numbers
      (λ j own below decided. decided.elsewhere i (let apart : i ≢ from + j = omega arith in apart)) given;
  each = λ i d low high.
      let piece = i - from in
      let place : from + piece ≡ i = omega arith in
      let told = given_here (λ k. IsFallenAt window since (from + k)) (times i) refl (times-append i) piece count (omega arith)
      (λ j own other decided. decided.elsewhere i (let apart : i ≢ from + j = omega arith in apart)) numbers given in
      told_at window since (from + piece) i told.0 numbers place told.1 told.2 d;
}

-- a number that is listed is that of a run
pub fallen_within : (window : Window) (since : List Entry) (from upto : ℕ) (numbers : List ℕ) → AreFallen window since from upto numbers
    → (i : ℕ) → 0 < times i numbers → (from ≤ i) × (i < upto)
fallen_within window since from upto numbers are i some = (
  elim (dec_le from i) [
    | yes le ↦ le
    | no less ↦ absurd (omega (arith, some, are.before i (omega arith)))
  ],
  elim (dec_le upto i) [
    | yes beyond ↦ absurd (omega (arith, some, are.beyond i beyond))
    | no within ↦ omega arith
  ],
)

-- no run is forgotten yet
pub none_stale : (window : Window) → AreStale [] window window
none_stale window = record {
  first = refl;
  runs = refl;
  flags = refl;
  others = λ i low none. refl;
  here = λ i low some. absurd (omega arith);
}

-- one more
pub stale_more : (numbers : List ℕ) (k : ℕ) (first old new : Window) → k < length numbers
    → old.first ≤ get_or numbers k 0 → get_or numbers k 0 < old.first + length old.valid.items → AreStale (take k numbers) first old
    → new.first ≡ old.first → new.runs ≡ old.runs
    → new.valid.items ≡ set old.valid.items (get_or numbers k 0 - old.first) false → AreStale (take (k + 1) numbers) first new
stale_more numbers k first old new lt low inside so_far begun runs valid =
    let place = get_or numbers k 0 in
    let flag = flag_set old new place false low inside begun valid in
    let same = so_far.first in
    let more : (i : ℕ) → times i (take (k + 1) numbers) ≡ times i (take k numbers) + times i (place ∷ []) =
    λ i. ap (times i) (take_more numbers k 0 lt) ∙ times-append i (take k numbers) (place ∷ []) in
    record {
      first = begun ∙ so_far.first;
      runs = runs ∙ so_far.runs;
      flags = ap length valid ∙ (length-set old.valid.items (place - old.first) false ∙ so_far.flags);
      others = λ i from none. elim (ℕ_discrete i place) [
        | yes is ↦ absurd (omega (arith, none, more i, ap (λ n. times i (n ∷ [])) (sym is), times_one i))
        | no other ↦ let m = more i in flag.1 i (omega arith) other ∙ so_far.others i from (omega arith)
      ];
      here = λ i from some. elim (ℕ_discrete i place) [
        | yes is ↦ ap (flag_at new) is ∙ flag.0
        | no other ↦
            let m = more i in
            let none = times_none i place (λ h. other (sym h)) in
            flag.1 i (omega arith) other ∙ so_far.here i from (omega arith)
      ];
    }

-- a number is 0 or more
some_or_none : (n : ℕ) → (n ≡ 0) ⊎ (0 < n)
some_or_none zero = inl refl
some_or_none (suc n) = inr (omega arith)

-- the others are kept
pub kept_others : (window : Window) (since : List Entry) (from : ℕ) (numbers : List ℕ) (new : Window)
    → window.first ≤ from → length window.valid.items ≡ length window.runs.items
    → AreFallen window since from (end_of window) numbers → AreStale numbers window new → AreKept from since window new
kept_others window since from numbers new begun flags fallen stale = record {
  first = stale.first;
  runs = stale.runs;
  flags = stale.flags;
  valid = λ i low valid. ⊎_elim
      (λ (none : times i numbers ≡ 0). sym (stale.others i (omega arith) none) ∙ valid)
      (λ (some : 0 < times i numbers). absurd (false≢true (sym (stale.here i (omega arith) some) ∙ valid)))
      (some_or_none (times i numbers));
  each = λ i d low valid. elim (dec_le (end_of window) i) [
    | yes beyond ↦ absurd (false≢true (sym (none_past window i flags beyond) ∙ valid))
    | no within ↦ ⊎_elim
        (λ (stands : (IsValid window i → HoldsPast since (run_at window i d)) × (times i numbers ≡ 0)).
        inl (stale.others i (omega arith) stands.1 ∙ valid, stands.0 valid))
        (λ (falls : IsValid window i × (¬ HoldsPast since (run_at window i d)) × (times i numbers ≡ 1)).
        inr (stale.here i (omega arith) (let once = falls.2 in omega arith), falls.1))
        (fallen.each i d low (omega arith))
  ];
}

-- no run is valid past the last one
pub all_past : (window : Window) (since : List Entry) (from : ℕ) → length window.valid.items ≡ length window.runs.items
    → from ≡ end_of window → AreKept from since window window
all_past window since from flags last = record {
  first = refl;
  runs = refl;
  flags = refl;
  valid = λ i low valid. valid;
  each = λ i d low valid. absurd (false≢true (sym (none_past window i flags (omega (arith, last))) ∙ valid));
}

-- the run of the conflict falls, too
pub kept_after : (window mid new : Window) (since : List Entry) (conflict : ℕ) → window.first ≤ conflict → conflict < end_of window
    → length window.valid.items ≡ length window.runs.items → AreKept (conflict + 1) since window mid
    → ((d : PendingRun) → IsValid window conflict → ¬ HoldsPast since (run_at window conflict d)) → new.first ≡ mid.first
    → new.runs ≡ mid.runs → new.valid.items ≡ set mid.valid.items (conflict - mid.first) false → AreKept conflict since window new
kept_after window mid new since conflict low inside flags kept falls first runs valid =
    let begun = kept.first in
    let all = kept.flags in
    let flag = flag_set mid new conflict false (omega arith) (omega arith) first valid in
    let others : (i : ℕ) → conflict + 1 ≤ i → flag_at new i ≡ flag_at mid i = λ i later. flag.1 i (omega arith) (omega arith) in
    record {
      first = first ∙ kept.first;
      runs = runs ∙ kept.runs;
      flags = ap length valid ∙ (length-set mid.valid.items (conflict - mid.first) false ∙ kept.flags);
      valid = λ i from is. elim (dec_le (conflict + 1) i) [
        | yes later ↦ kept.valid i later (sym (others i later) ∙ is)
        | no here ↦ (let same : i ≡ conflict = omega arith in absurd (false≢true (sym flag.0 ∙ sym (ap (flag_at new) same) ∙ is)))
      ];
      each = λ i d from was. elim (dec_le (conflict + 1) i) [
        | yes later ↦ ⊎_elim
            (λ (stays : IsValid mid i × HoldsPast since (run_at window i d)). inl (others i later ∙ stays.0, stays.1))
            (λ (falls : (flag_at mid i ≡ false) × (¬ HoldsPast since (run_at window i d))). inr (others i later ∙ falls.0, falls.1))
            (kept.each i d later was)
        | no here ↦ (let same : i ≡ conflict = omega arith in inr (
          ap (flag_at new) same ∙ flag.0,
          subst (λ k. ¬ HoldsPast since (run_at window k d)) (sym same) (falls d (subst (IsValid window) same was)),
        ))
      ];
    }

-- so far in order: of the runs from one number on and before another those are valid that were and stand past these entries
pub record AreKeptTo (from number : ℕ) (since : List Entry) (old new : Window) : Type 0 where
  pub first : new.first ≡ old.first
  pub runs : new.runs ≡ old.runs
  pub flags : length new.valid.items ≡ length old.valid.items
  pub valid : (i : ℕ) → from ≤ i → IsValid new i → IsValid old i
  pub each : (i : ℕ) (d : PendingRun) → from ≤ i → i < number → IsValid old i → KeptAt since old new i d
  pub later : (i : ℕ) → number ≤ i → flag_at new i ≡ flag_at old i

-- at first none is decided
pub none_kept : (from : ℕ) (since : List Entry) (window : Window) → AreKeptTo from from since window window
none_kept from since window = record {
  first = refl;
  runs = refl;
  flags = refl;
  valid = λ i low valid. valid;
  each = λ i d low high. absurd (omega arith);
  later = λ i le. refl;
}

-- the flag of a run that was decided says whether it is kept
kept_by : (flag : Bool) (since : List Entry) (old new : Window) (number : ℕ) (d : PendingRun) → old.first ≤ number → number < end_of old
    → flag_at new number ≡ flag → (IsTrue flag ↔ ((o : PendingRun) → HoldsPast since (run_at old number o)))
    → KeptAt since old new number d
kept_by true since old new number d low inside is exact = inl (is, exact.0 refl d)
kept_by false since old new number d low inside is exact = inr (
  is,
  λ stands. false≢true (exact.1 (λ o.
      subst (HoldsPast since) (get_or_default old.runs.items (number - old.first) d o (omega arith)) stands)),
)

-- one run more that is valid is decided
pub kept_more : (from number : ℕ) (since : List Entry) (old window new : Window) (flag : Bool) → old.first ≤ from → from ≤ number
    → number < end_of old → length old.valid.items ≡ length old.runs.items → AreKeptTo from number since old window
    → IsValid window number → new.first ≡ window.first → new.runs ≡ window.runs
    → new.valid.items ≡ set window.valid.items (number - window.first) flag
    → (IsTrue flag ↔ ((o : PendingRun) → HoldsPast since (run_at window number o))) → AreKeptTo from (number + 1) since old new
kept_more from number since old window new flag low ordered inside flags so_far here first runs valid exact =
    let begun = so_far.first in
    let size = so_far.flags in
    let is_set = flag_set window new number flag (omega arith) (omega arith) first valid in
    let same : (d : PendingRun) → run_at window number d ≡ run_at old number d = λ d.
    run_read old window old.runs.items number d so_far.first (ap (λ rs. rs.items) so_far.runs) in
    record {
      first = first ∙ so_far.first;
      runs = runs ∙ so_far.runs;
      flags = ap length valid ∙ (length-set window.valid.items (number - window.first) flag ∙ so_far.flags);
      valid = λ i from valid_here. elim (ℕ_discrete i number) [
        | yes is ↦ so_far.valid i from (ap (flag_at window) is ∙ here)
        | no other ↦ so_far.valid i from (sym (is_set.1 i (omega arith) other) ∙ valid_here)
      ];
      each = λ i d from high valid_old. elim (ℕ_discrete number i) [
        | yes is ↦ subst (λ j. KeptAt since old new j d) is
            (kept_by flag since old new number d (omega arith) inside is_set.0 (
              λ t o. subst (HoldsPast since) (same o) (exact.0 t o),
              λ all. exact.1 (λ o. subst (HoldsPast since) (sym (same o)) (all o)),
            ))
        | no other ↦ subst (λ f. ((f ≡ true) × HoldsPast since (run_at old i d)) ⊎ ((f ≡ false) × (¬ HoldsPast since (run_at old i d))))
            (sym (is_set.1 i (omega arith) (λ h. other (sym h)))) (so_far.each i d from (omega arith) valid_old)
      ];
      later = λ i le.
          let other : i ≢ number = omega arith in
          is_set.1 i (omega arith) other ∙ so_far.later i (omega arith);
    }

-- one that isn't valid stays so
pub kept_past : (from number : ℕ) (since : List Entry) (old window : Window) → AreKeptTo from number since old window
    → flag_at window number ≡ false → AreKeptTo from (number + 1) since old window
kept_past from number since old window so_far none = record {
  first = so_far.first;
  runs = so_far.runs;
  flags = so_far.flags;
  valid = so_far.valid;
  each = λ i d low high valid. elim (ℕ_discrete number i) [
    | yes is ↦ absurd (false≢true (sym none ∙ (so_far.later number (omega arith) ∙ (ap (flag_at old) is ∙ valid))))
    | no other ↦ so_far.each i d low (omega arith) valid
  ];
  later = λ i le. so_far.later i (omega arith);
}

-- once all are decided
pub all_kept : (from : ℕ) (since : List Entry) (old new : Window) → length old.valid.items ≡ length old.runs.items
    → AreKeptTo from (end_of old) since old new → AreKept from since old new
all_kept from since old new flags are = record {
  first = are.first;
  runs = are.runs;
  flags = are.flags;
  valid = are.valid;
  each = λ i d low valid. elim (dec_le (end_of old) i) [
    | yes beyond ↦ absurd (false≢true (sym (none_past old i flags beyond) ∙ valid))
    | no within ↦ are.each i d low (omega arith) valid
  ];
}
