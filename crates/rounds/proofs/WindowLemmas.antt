-- Windows as runs are made in them.
use Rattle.std.proofs.Common.{◌≡◌, ◌≢◌, ◌⊎◌, inl, inr, ℕ, suc, ◌+◌, ◌-◌, ◌<◌, ◌≤◌, Bool, true, false, List, [], ◌∷◌, ◌++◌, length}
use Rattle.std.proofs.Common.{get_or, set, take, drop, map, refl, sym, ap, ◌∙◌, subst, arith}
use Rattle.std.proofs.lemmas.Bool.{false≢true}
use Rattle.std.proofs.Math.Seq.{get_or-append_seam}
use Rattle.std.proofs.Math.ListN.{get_or-append}
use native.Mathlib.Decide.{dec_le}
use Rattle.std.proofs.lemmas.List.{get_or_past, get_or-take, get_or-drop, length-drop, length-take-le, take_all, length_push}
use Rattle.std.proofs.lemmas.List.{length-append, get_or-set_same, get_or-set_other, length-set, get_or-map, length-map}
use Rattle.std.specs.List.{All}
use Rattle.std.specs.declared.vec.Vec.{Vec}
use Rattle.std.specs.declared.alloc.Global.{Global}
use Rattle.claims.specs.Views.{times}
use Rattle.claims.proofs.Lists.{times-append}
use Rattle.rounds.proofs.Times.{times_none, times_read}
use Rattle.rounds.specs.declared.make.NumberedRun.{NumberedRun}
use native.Mathlib.Decide.{ℕ_discrete}
use Rattle.objects.specs.Entries.{State}
use Rattle.batch.specs.declared.batch.Batch.{Batch}
use Rattle.batch.specs.declared.record.Record.{Record}
use Rattle.batch.specs.Views.{record_view}
use Rattle.meaning.specs.Batch.{state_at, shown_from}
use Rattle.meaning.specs.Rounds.{Rounds, RoundsFrom}
use Rattle.rounds.specs.Views.{start_of, meaning}
use Rattle.rounds.specs.declared.openings.Opening.{Opening}
use Rattle.rounds.specs.declared.pending_run.PendingRun.{PendingRun}
use Rattle.rounds.specs.declared.window.Window.{Window}
use Rattle.rounds.specs.PendingRuns.{IsPendingOf, numbers_of}
use Rattle.rounds.specs.Windows.{run_at, flag_at, end_of, runs_between, IsValid, AllValid, IsWindowAt, HasGrown, IsFreedAt}
use Rattle.rounds.specs.Windows.{AreSettled, IsShortened, AreMissing, IsOpening, still_to_be_made}
use Rattle.rounds.specs.Views.{blocks_of}

-- what a window that begins as another has at a number, where its lists are these
pub flag_read : (old new : Window) (flags : List Bool) (i : ℕ) → new.first ≡ old.first → new.valid.items ≡ flags
    → flag_at new i ≡ get_or flags (i - old.first) false
flag_read old new flags i first are = ap (λ v. get_or v (i - new.first) false) are ∙ ap (λ f. get_or flags (i - f) false) first

pub run_read : (old new : Window) (runs : List PendingRun) (i : ℕ) (d : PendingRun) → new.first ≡ old.first → new.runs.items ≡ runs
    → run_at new i d ≡ get_or runs (i - old.first) d
run_read old new runs i d first are = ap (λ rs. get_or rs (i - new.first) d) are ∙ ap (λ f. get_or runs (i - f) d) first

-- different numbers have different places
apart : (first i j : ℕ) → first ≤ i → first ≤ j → i ≢ j → i - first ≢ j - first
apart first i j low high other same = other (omega arith)

-- where the flag of a number is set, it is that one, and the others are as before
pub flag_set : (old new : Window) (number : ℕ) (flag : Bool) → old.first ≤ number → number < old.first + length old.valid.items
    → new.first ≡ old.first → new.valid.items ≡ set old.valid.items (number - old.first) flag
    → (flag_at new number ≡ flag) × ((i : ℕ) → old.first ≤ i → i ≢ number → flag_at new i ≡ flag_at old i)
flag_set old new number flag low inside first valid =
    let place = number - old.first in
    let flags = set old.valid.items place flag in (
      flag_read old new flags number first valid ∙ get_or-set_same old.valid.items place flag false (omega arith),
      λ i from other. flag_read old new flags i first valid
          ∙ get_or-set_other old.valid.items place (i - old.first) flag false (apart old.first i number from low other),
    )

-- so it is with the run of a number
pub run_set : (old new : Window) (number : ℕ) (run d : PendingRun) → old.first ≤ number → number < end_of old
    → new.first ≡ old.first → new.runs.items ≡ set old.runs.items (number - old.first) run
    → (run_at new number d ≡ run) × ((i : ℕ) → old.first ≤ i → i ≢ number → run_at new i d ≡ run_at old i d)
run_set old new number run d low inside first runs =
    let place = number - old.first in
    let all = set old.runs.items place run in (
      run_read old new all number d first runs ∙ get_or-set_same old.runs.items place run d (omega arith),
      λ i from other. run_read old new all i d first runs
          ∙ get_or-set_other old.runs.items place (i - old.first) run d (apart old.first i number from low other),
    )

-- a run past the last isn't valid
pub none_past : (window : Window) (i : ℕ) → length window.valid.items ≡ length window.runs.items → end_of window ≤ i
    → flag_at window i ≡ false
none_past window i flags past = get_or_past window.valid.items (i - window.first) false (omega arith)

-- how many runs there are from one number on and before another, and which
pub between_at : (window : Window) (from end_ : ℕ) → window.first ≤ from → from ≤ end_ → end_ ≤ end_of window
    → (length (runs_between window from end_) ≡ end_ - from)
    × ((k : ℕ) (d : PendingRun) → k < end_ - from → get_or (runs_between window from end_) k d ≡ run_at window (from + k) d)
between_at window from end_ begun low high =
    let rest = drop (from - window.first) window.runs.items in
    let size = length-drop (from - window.first) window.runs.items in (
      length-take-le (end_ - from) rest (omega arith),
      λ k d lt.
          let place : (from - window.first) + k ≡ (from + k) - window.first = omega arith in
          get_or-take (end_ - from) rest k d lt
          ∙ (get_or-drop (from - window.first) window.runs.items k d ∙ ap (λ n. get_or window.runs.items n d) place),
    )

-- one without runs
pub empty_window : (batch : Batch) (state : State) (window : Window) → window.first ≡ 0 → window.runs.items ≡ []
    → window.valid.items ≡ [] → IsWindowAt batch 0 state window
empty_window batch state window first runs valid = record {
  begun = omega arith;
  flags = ap length valid ∙ sym (ap length runs);
  within = omega (arith, first, ap length runs);
  made = λ i d low valid_here. absurd (false≢true (sym (ap (λ v. get_or v (i - window.first) false) valid) ∙ valid_here));
}

-- one run more is made
pub one_made : (batch : Batch) (b : ℕ) (state : State) (old new : Window) (number : ℕ) (run : PendingRun) → IsWindowAt batch b state old
    → b ≤ number → number < end_of old → IsPendingOf (meaning batch number state) run → new.first ≡ old.first
    → new.runs.items ≡ set old.runs.items (number - old.first) run → new.valid.items ≡ set old.valid.items (number - old.first) true
    → IsWindowAt batch b state new
one_made batch b state old new number run at later lt made first runs valid =
    let begun = at.begun in
    let within = at.within in
    let flags = at.flags in
    let low : old.first ≤ number = omega arith in
    let sizes = ap length runs ∙ length-set old.runs.items (number - old.first) run in
    let flag = flag_set old new number true low (omega arith) first valid in
    record {
      begun = omega arith;
      flags = ap length valid ∙ (length-set old.valid.items (number - old.first) true ∙ (at.flags ∙ sym sizes));
      within = omega arith;
      made = λ i d from valid_here.
          let is_set = run_set old new number run d low lt first runs in
          elim (ℕ_discrete i number) [
            | yes is ↦ subst (λ j. IsPendingOf (meaning batch j state) (run_at new j d)) (sym is)
                (subst (IsPendingOf (meaning batch number state)) (sym is_set.0) made)
            | no other ↦ subst (IsPendingOf (meaning batch i state)) (sym (is_set.1 i (omega arith) other))
                (at.made i d from (sym (flag.1 i (omega arith) other) ∙ valid_here))
          ];
    }

-- a flag that isn't set changes none
pushed_flag : (flags : List Bool) (k : ℕ) → get_or (flags ++ false ∷ []) k false ≡ get_or flags k false
pushed_flag flags k = elim (dec_le (length flags) k) [
  | no before ↦ get_or-append flags (false ∷ []) false k (omega arith)
  | yes le ↦ elim (ℕ_discrete k (length flags)) [
    | yes last ↦ ap (λ n. get_or (flags ++ false ∷ []) n false) last
        ∙ (get_or-append_seam flags false [] false ∙ sym (get_or_past flags k false le))
    | no beyond ↦
        let size = length_push flags false in
        get_or_past (flags ++ false ∷ []) k false (omega arith) ∙ sym (get_or_past flags k false le)
  ]
]

-- one place more, whose run is still to be made
pub reached_more : (batch : Batch) (b : ℕ) (state : State) (old new : Window) (run : PendingRun) → IsWindowAt batch b state old
    → end_of old < length (blocks_of batch) → new.first ≡ old.first → new.runs.items ≡ old.runs.items ++ run ∷ []
    → new.valid.items ≡ old.valid.items ++ false ∷ [] → IsWindowAt batch b state new × HasGrown b old new
    × ((i : ℕ) → flag_at new i ≡ flag_at old i)
reached_more batch b state old new run at room first runs valid =
    let begun = at.begun in
    let flags = at.flags in
    let more = ap length runs ∙ length_push old.runs.items run in
    let flag : (i : ℕ) → flag_at new i ≡ flag_at old i = λ i. flag_read old new (old.valid.items ++ false ∷ []) i first valid
    ∙ pushed_flag old.valid.items (i - old.first) in
    let same : (i : ℕ) (d : PendingRun) → old.first ≤ i → i < end_of old → run_at new i d ≡ run_at old i d = λ i d from lt.
    run_read old new (old.runs.items ++ run ∷ []) i d first runs
    ∙ get_or-append old.runs.items (run ∷ []) d (i - old.first) (omega arith) in (
      record {
        begun = omega arith;
        flags = ap length valid ∙ (length_push old.valid.items false ∙ (ap (λ n. n + 1) at.flags ∙ sym more));
        within = omega arith;
        made = λ i d low valid_here.
            let was = sym (flag i) ∙ valid_here in
            elim (dec_le (end_of old) i) [
              | yes le ↦ absurd (false≢true (sym (none_past old i flags le) ∙ was))
              | no before ↦ subst (IsPendingOf (meaning batch i state)) (sym (same i d (omega arith) (omega arith))) (at.made i d low was)
            ];
      },
      record {
        first = first;
        longer = omega arith;
        same = λ i d from low lt. same i d from lt;
        still = λ i from valid_here. flag i ∙ valid_here;
      },
      flag,
    )

-- from a later number on the runs are pending, too
pub later_window : (batch : Batch) (a b : ℕ) (state : State) (window : Window) → a ≤ b → IsWindowAt batch a state window
    → IsWindowAt batch b state window
later_window batch a b state window le at = record {
  begun = let begun = at.begun in omega arith;
  flags = at.flags;
  within = at.within;
  made = λ i d low valid. at.made i d (omega arith) valid;
}

-- what is freed of a run changes no flag
pub freed_flag : (number : ℕ) (old new : Window) (i : ℕ) → IsFreedAt number old new → flag_at new i ≡ flag_at old i
freed_flag number old new i freed = flag_read old new old.valid.items i freed.first (ap (λ v. v.items) freed.valid)

-- from the next number on they are, where the summaries of the run with this one were freed
pub freed_window : (batch : Batch) (number : ℕ) (state : State) (old new : Window) → IsWindowAt batch number state old
    → IsFreedAt number old new → IsWindowAt batch (number + 1) state new
freed_window batch number state old new at freed =
    let begun = at.begun in
    let few = at.within in
    let first = freed.first in
    let size = freed.runs in
    record {
      begun = omega arith;
      flags = ap (λ v. length v.items) freed.valid ∙ (at.flags ∙ sym freed.runs);
      within = omega arith;
      made = λ i d low valid.
          let other : i ≢ number = omega arith in
          subst (IsPendingOf (meaning batch i state)) (sym (freed.others i d (omega arith) other))
          (at.made i d (omega arith) (sym (freed_flag number old new i freed) ∙ valid));
    }

-- what is freed of a run changes nothing before it, nor which runs are valid
pub freed_grown : (b number : ℕ) (old new : Window) → b ≤ number → IsFreedAt number old new → HasGrown b old new
freed_grown b number old new le freed = record {
  first = freed.first;
  longer = let size = freed.runs in omega arith;
  same = λ i d from lt inside. freed.others i d from (let other : i ≢ number = omega arith in other);
  still = λ i from valid. freed_flag number old new i freed ∙ valid;
}

-- one run more is put in its place
pub put_grown : (b : ℕ) (old new : Window) (number : ℕ) (run : PendingRun) → b ≤ number → old.first ≤ number
    → number < old.first + length old.valid.items → number < end_of old → new.first ≡ old.first
    → new.runs.items ≡ set old.runs.items (number - old.first) run → new.valid.items ≡ set old.valid.items (number - old.first) true
    → HasGrown b old new
put_grown b old new number run later low flagged inside first runs valid =
    let flag = flag_set old new number true low flagged first valid in
    record {
      first = first;
      longer = omega (arith, ap length runs, length-set old.runs.items (number - old.first) run);
      same = λ i d from lt within. (run_set old new number run d low inside first runs).1 i from
          (λ is. absurd (omega (arith, is, lt, later)));
      still = λ i from was. elim (ℕ_discrete i number) [
        | yes is ↦ ap (flag_at new) is ∙ flag.0
        | no other ↦ flag.1 i from other ∙ was
      ];
    }

-- what holds of each number of a list holds of one that is in it
pub all_times : (P : ℕ → Type 0) (xs : List ℕ) (i : ℕ) → All P xs → 0 < times i xs → P i
all_times P [] i all some = absurd (omega arith)
all_times P (x ∷ xs) i all some = elim (ℕ_discrete x i) [
  | yes same ↦ subst P same (all 0 i (omega arith))
  | no other ↦ all_times P xs i (λ k d lt. all (suc k) d (omega arith))
      (omega (arith, some, times_none i x other, times-append i (x ∷ []) xs))
]

-- what holds of the numbers that were asked for holds of those of the runs that were made
pub all_asked : (P : ℕ → Type 0) (numbers : List ℕ) (made : List NumberedRun) → All P numbers
    → ((i : ℕ) → times i (numbers_of made) ≡ times i numbers) → All (λ (m : NumberedRun). P m.number) made
all_asked P numbers made all dealt k d lt =
    let number = (get_or made k d).number in
    let read : get_or (numbers_of made) k d.number ≡ number = get_or-map (λ (m : NumberedRun). m.number) made k d d.number lt in
    let some : 0 < times number (numbers_of made) = subst (λ n. 0 < times n (numbers_of made)) read
    (times_read (numbers_of made) k d.number (omega (arith, lt, length-map made (λ (m : NumberedRun). m.number)))) in
    all_times P numbers number all (omega (arith, some, dealt number))

-- a run is left where its number is
pub some_made : (i : ℕ) (made : List NumberedRun) → 0 < times i (numbers_of made) → 0 < length made
some_made i [] some = absurd (omega arith)
some_made i (m ∷ made) some = omega arith

-- a number whose run isn't valid is missing
pub one_missing : (window : Window) (from place : ℕ) (numbers own more : List ℕ) → from ≤ place → AreMissing window from place numbers
    → more ≡ numbers ++ own → ((i : ℕ) → i ≢ place → times i own ≡ 0)
    → times place own ≡ still_to_be_made (flag_at window place) → length own ≤ 1
    → AreMissing window from (place + 1) more
one_missing window from place numbers own more ordered so_far is elsewhere here few =
    let split : (i : ℕ) → times i more ≡ times i numbers + times i own = λ i. ap (times i) is ∙ times-append i numbers own in
    record {
      before = λ i lt. let s = split i in let none = elsewhere i (let apart : i ≢ place = omega arith in apart) in
          let old = so_far.before i lt in omega arith;
      beyond = λ i le. let s = split i in let none = elsewhere i (let apart : i ≢ place = omega arith in apart) in
          let old = so_far.beyond i (omega arith) in omega arith;
      each = λ i low high. elim (ℕ_discrete place i) [
        | yes is_here ↦
            let s = split place in
            let old = so_far.beyond place (omega arith) in
            subst (λ j. times j more ≡ still_to_be_made (flag_at window j)) is_here
            (let same : times place more ≡ times place own = omega arith in same ∙ here)
        | no other ↦
            let s = split i in
            let none = elsewhere i (λ h. other (sym h)) in
            let same : times i more ≡ times i numbers = omega arith in
            same ∙ so_far.each i low (omega arith)
      ];
      few = let size = ap length is ∙ length-append numbers own in let old = so_far.few in omega arith;
    }

-- none is missing of no runs
pub none_missing : (window : Window) (from : ℕ) → AreMissing window from from []
none_missing window from = record {
  before = λ i lt. refl;
  beyond = λ i le. refl;
  each = λ i low high. absurd (omega arith);
  few = omega arith;
}

-- the missing numbers are of the range
pub missing_inside : (window : Window) (from upto : ℕ) (numbers : List ℕ) → AreMissing window from upto numbers → (k d : ℕ)
    → k < length numbers → (from ≤ get_or numbers k d) × (get_or numbers k d < upto)
missing_inside window from upto numbers are k d lt =
    let i = get_or numbers k d in
    let some = times_read numbers k d lt in (
      elim (dec_le from i) [
        | yes le ↦ le
        | no less ↦ absurd (omega (arith, some, are.before i (omega arith)))
      ],
      elim (dec_le upto i) [
        | yes le ↦ absurd (omega (arith, some, are.beyond i le))
        | no less ↦ omega arith
      ],
    )

-- once the missing runs are made all are valid
valid_or_missing : (flag : Bool) (told : ℕ) → told ≡ still_to_be_made flag → (flag ≡ true) ⊎ (0 < told)
valid_or_missing true told is = inl refl
valid_or_missing false told is = inr (omega arith)

pub none_left : (b : ℕ) (old new : Window) (from upto : ℕ) (numbers : List ℕ) → old.first ≤ from → AreMissing old from upto numbers
    → HasGrown b old new → All (IsValid new) numbers → AllValid new from upto
none_left b old new from upto numbers begun are grown made i low high =
    elim (valid_or_missing (flag_at old i) (times i numbers) (are.each i low high)) [
      | inl valid ↦ grown.still i (omega arith) valid
      | inr some ↦ all_times (IsValid new) numbers i made some
    ]

take_sizes : {A B : Type 0} (n : ℕ) (xs : List A) (ys : List B) → length xs ≡ length ys → length (take n xs) ≡ length (take n ys)
take_sizes n xs ys same = elim (dec_le n (length xs)) [
  | yes le ↦ length-take-le n xs le ∙ sym (length-take-le n ys (omega arith))
  | no over ↦ ap length (take_all n xs (omega arith)) ∙ (same ∙ sym (ap length (take_all n ys (omega arith))))
]

take_less : {A : Type 0} (n : ℕ) (xs : List A) → (length (take n xs) ≤ length xs) × (length (take n xs) ≤ n)
take_less n xs = elim (dec_le n (length xs)) [
  | yes le ↦ let size = length-take-le n xs le in (omega arith, omega arith)
  | no over ↦ let size = ap length (take_all n xs (omega arith)) in (omega arith, omega arith)
]

module _ (end_ : ℕ) (old new : Window) (short : IsShortened end_ old new)
    (flags : length old.valid.items ≡ length old.runs.items) where
  -- the window reaches no further than before, nor than to the end
  pub shorter : (end_of new ≤ end_of old) × (old.first ≤ end_ → end_of new ≤ end_)
  shorter =
      let first = short.first in
      let size = ap length short.runs in
      let less = take_less (end_ - old.first) old.runs.items in
      let fewer = less.0 in
      let few = less.1 in
      (omega arith, λ low. omega arith)

  short_flags : length new.valid.items ≡ length new.runs.items
  short_flags = ap length short.valid ∙ (take_sizes (end_ - old.first) old.valid.items old.runs.items flags ∙ sym (ap length short.runs))

  -- the flags before the end stay, and there are no later ones
  pub short_flag : (i : ℕ) → old.first ≤ i → (i < end_ → flag_at new i ≡ flag_at old i) × (end_ ≤ i → flag_at new i ≡ false)
  short_flag i low = (
    λ lt. flag_read old new (take (end_ - old.first) old.valid.items) i short.first short.valid
        ∙ get_or-take (end_ - old.first) old.valid.items (i - old.first) false (omega arith),
    λ past.
        let less = (take_less (end_ - old.first) old.valid.items).1 in
        flag_read old new (take (end_ - old.first) old.valid.items) i short.first short.valid
        ∙ get_or_past (take (end_ - old.first) old.valid.items) (i - old.first) false (omega arith),
  )

  -- so do the runs
  pub short_run : (i : ℕ) (d : PendingRun) → old.first ≤ i → i < end_ → run_at new i d ≡ run_at old i d
  short_run i d low lt = run_read old new (take (end_ - old.first) old.runs.items) i d short.first short.runs
      ∙ get_or-take (end_ - old.first) old.runs.items (i - old.first) d (omega arith)

-- the first runs alone
pub shortened : (batch : Batch) (b : ℕ) (state : State) (old new : Window) (end_ : ℕ) → IsWindowAt batch b state old
    → IsShortened end_ old new → IsWindowAt batch b state new
shortened batch b state old new end_ at short =
    let begun = at.begun in
    let few = at.within in
    let first = short.first in
    let less = (shorter end_ old new short at.flags).0 in
    record {
      begun = omega arith;
      flags = short_flags end_ old new short at.flags;
      within = omega arith;
      made = λ i d low valid_here.
          let flag = short_flag end_ old new short at.flags i (omega arith) in
          elim (dec_le end_ i) [
            | yes beyond ↦ absurd (false≢true (sym (flag.1 beyond) ∙ valid_here))
            | no before ↦ subst (IsPendingOf (meaning batch i state))
                (sym (short_run end_ old new short at.flags i d (omega arith) (omega arith)))
                (at.made i d low (sym (flag.0 (omega arith)) ∙ valid_here))
          ];
    }

module _ (batch : Batch) (from end_ count : ℕ) (old settled new : Window) (before after : Vec Record Global)
    (all : count ≡ length (blocks_of batch)) (done : AreSettled from end_ old settled before after)
    (short : IsShortened count settled new) (low : end_ ≤ count) where
  -- where the first runs are committed, and those past the last transaction dropped, the same runs are valid as before
  pub settled_flag : (state : State) → IsWindowAt batch end_ state old → (i : ℕ) → end_ ≤ i → flag_at new i ≡ flag_at old i
  settled_flag state at i later =
      let first = done.first in
      let few = at.within in
      let flag = short_flag count settled new short done.flags i (omega arith) in
      elim (dec_le count i) [
        | yes past ↦ flag.1 past ∙ sym (none_past old i at.flags (omega arith))
        | no within ↦ flag.0 (omega arith) ∙ done.valid i later
      ]

  -- they are still those of their transactions
  pub settled_window : (state : State) → IsWindowAt batch end_ state old → IsWindowAt batch end_ state new
  settled_window state at =
      let first = done.first in
      let same = short.first in
      let few = at.within in
      let less = (shorter count settled new short done.flags).1 (omega arith) in
      record {
        begun = omega arith;
        flags = short_flags count settled new short done.flags;
        within = omega arith;
        made = λ i d later valid_here.
            let was = sym (settled_flag state at i (omega arith)) ∙ valid_here in
            elim (dec_le (end_of old) i) [
              | yes past ↦ absurd (false≢true (sym (none_past old i at.flags past) ∙ was))
              | no within ↦ subst (IsPendingOf (meaning batch i state))
                  (sym (short_run count settled new short done.flags i d (omega arith) (omega arith)
                  ∙ done.same i d (omega arith) (omega arith)))
                  (at.made i d (omega arith) was)
            ];
      }

-- an opening stays one with another window, where the same transactions are committed
pub other_window : (batch : Batch) (old new : Opening) → IsOpening batch old → new.objects ≡ old.objects → new.records ≡ old.records
    → new.reused.nets ≡ old.reused.nets → new.rounds ≡ old.rounds → new.committed ≡ old.committed
    → IsWindowAt batch old.committed old.objects new.window → IsOpening batch new
other_window batch old new at objects records nets rounds count window =
    let within = at.within in
    let few = at.few_rounds in
    let start = start_of batch in
    let blocks = blocks_of batch in
    record {
      within = omega arith;
      objects = objects ∙ (at.objects ∙ ap (state_at start blocks) (sym count));
      window = subst (λ b. IsWindowAt batch b new.objects new.window) (sym count)
          (subst (λ s. IsWindowAt batch old.committed s new.window) (sym objects) window);
      cleared = nets ∙ at.cleared;
      committed = ap (λ rs. map record_view rs.items) records ∙ (at.committed ∙ ap (shown_from start blocks 0) (sym count));
      few_rounds = omega arith;
      all_rounds = λ more from. subst (λ n. Rounds start blocks (n + more)) (sym rounds)
          (at.all_rounds more (subst (λ b. RoundsFrom start blocks b more) count from));
    }
