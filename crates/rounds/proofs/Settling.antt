-- Runs are committed: their records are listed, and their places are used again.
use Rattle.std.proofs.Common.{◌≡◌, ◌≢◌, ℕ, ◌+◌, ◌-◌, ◌<◌, ◌≤◌, false, List, [], ◌∷◌, ◌++◌, length, get_or, set, take, drop, map}
use Rattle.std.proofs.Common.{refl, sym, ap, ◌∙◌, arith, append-nil, append_assoc}
use Rattle.std.proofs.lemmas.List.{get_or_past, get_or-drop, length-drop}
use Rattle.std.proofs.lemmas.List.Edits.{length-swap, swap_is}
use Rattle.std.specs.List.{swap}
use Rattle.std.proofs.lemmas.List.{length-set, get_or-set_same, get_or-set_other, take_more, map-append}
use native.Mathlib.Decide.{ℕ_discrete, dec_le}
use Rattle.std.specs.declared.vec.Vec.{Vec}
use Rattle.std.specs.declared.alloc.Global.{Global}
use Rattle.batch.specs.declared.record.Record.{Record}
use Rattle.rounds.specs.declared.pending_run.PendingRun.{PendingRun}
use Rattle.rounds.specs.declared.window.Window.{Window}
use Rattle.rounds.specs.Windows.{end_of, runs_between, AreMovedUp, AreSettled}
use Rattle.rounds.proofs.WindowLemmas.{flag_read}

-- the records of the runs from one place on and before another are listed, and all else is as before
pub record AreTaken (start place : ℕ) (old new : Window) (before after : List Record) : Type 0 where
  pub first : new.first ≡ old.first
  pub runs : length new.runs.items ≡ length old.runs.items
  pub valid : new.valid ≡ old.valid
  pub pushed : after ≡ before ++ map (λ r. r.tree) (take (place - start) (drop start old.runs.items))
  pub others : (k : ℕ) (d : PendingRun) → place ≤ k → get_or new.runs.items k d ≡ get_or old.runs.items k d

-- no record is listed yet
pub none_taken : (start : ℕ) (window : Window) (list : List Record) → AreTaken start start window window list list
none_taken start window list =
    let none : 0 ≡ start - start = omega arith in
    record {
      first = refl;
      runs = refl;
      valid = refl;
      pushed = sym (append-nil list) ∙ ap (λ n. list ++ map (λ (r : PendingRun). r.tree) (take n (drop start window.runs.items))) none;
      others = λ k d le. refl;
    }

-- one run more than those before a place
places_more : (runs : List PendingRun) (start place : ℕ) (run : PendingRun) → start ≤ place → place < length runs
    → take ((place + 1) - start) (drop start runs) ≡ take (place - start) (drop start runs) ++ get_or runs place run ∷ []
places_more runs start place run later inside =
    let rest = drop start runs in
    let size = length-drop start runs in
    let more : (place + 1) - start ≡ (place - start) + 1 = omega arith in
    let here : start + (place - start) ≡ place = omega arith in
    ap (λ n. take n rest) more ∙ (take_more rest (place - start) run (omega arith)
    ∙ ap (λ r. take (place - start) rest ++ r ∷ []) (get_or-drop start runs (place - start) run ∙ ap (λ n. get_or runs n run) here))

-- one more is listed
pub one_taken : (start place : ℕ) (old window new : Window) (before list after : List Record) (run left : PendingRun) → start ≤ place
    → place < length old.runs.items → AreTaken start place old window before list → run ≡ get_or window.runs.items place run
    → new.first ≡ window.first → new.runs.items ≡ set window.runs.items place left → new.valid ≡ window.valid
    → after ≡ list ++ run.tree ∷ [] → AreTaken start (place + 1) old new before after
one_taken start place old window new before list after run left later inside so_far is first runs valid pushed =
    let same : run ≡ get_or old.runs.items place run = is ∙ so_far.others place run (omega arith) in
    let tree_of : PendingRun → Record = λ r. r.tree in
    let taken = take (place - start) (drop start old.runs.items) in
    let trees : map tree_of (take ((place + 1) - start) (drop start old.runs.items)) ≡ map tree_of taken ++ run.tree ∷ [] =
    ap (map tree_of) (places_more old.runs.items start place run later inside)
    ∙ (map-append tree_of taken (get_or old.runs.items place run ∷ []) ∙ ap (λ r. map tree_of taken ++ tree_of r ∷ []) (sym same)) in
    record {
      first = first ∙ so_far.first;
      runs = ap length runs ∙ (length-set window.runs.items place left ∙ so_far.runs);
      valid = valid ∙ so_far.valid;
      pushed = pushed ∙ (ap (λ rs. rs ++ run.tree ∷ []) so_far.pushed ∙ (append_assoc before (map tree_of taken) (run.tree ∷ [])
          ∙ ap (λ rs. before ++ rs) (sym trees)));
      others = λ k d le.
          let other : k ≢ place = omega arith in
          ap (λ rs. get_or rs k d) runs ∙ (get_or-set_other window.runs.items place k left d other ∙ so_far.others k d (omega arith));
    }

-- all are listed up to a number
all_taken : (from end_ start count : ℕ) (old taken : Window) (before after : List Record) → old.first ≤ from → start ≡ from - old.first
    → count ≡ end_ - old.first → AreTaken start count old taken before after
    → after ≡ before ++ map (λ r. r.tree) (runs_between old from end_)
all_taken from end_ start count old taken before after low begins ends are =
    let size : count - start ≡ end_ - from = omega arith in
    are.pushed ∙ (ap (λ n. before ++ map (λ (r : PendingRun). r.tree) (take n (drop start old.runs.items))) size
    ∙ ap (λ n. before ++ map (λ (r : PendingRun). r.tree) (take (end_ - from) (drop n old.runs.items))) begins)

-- the runs of the first places were exchanged with as many from a place on, whose flags were copied to the first ones
pub record AreExchanged (count place : ℕ) (old new : Window) : Type 0 where
  pub first : new.first ≡ old.first
  pub all : length new.runs.items ≡ length old.runs.items
  pub flags : length new.valid.items ≡ length old.valid.items
  pub runs : (k : ℕ) (d : PendingRun) → k < place → get_or new.runs.items k d ≡ get_or old.runs.items (count + k) d
  pub others : (k : ℕ) (d : PendingRun) → count + place ≤ k → get_or new.runs.items k d ≡ get_or old.runs.items k d
  pub valid : (k : ℕ) → k < place → get_or new.valid.items k false ≡ get_or old.valid.items (count + k) false
  pub left : (k : ℕ) → place ≤ k → get_or new.valid.items k false ≡ get_or old.valid.items k false

-- none is yet
pub none_exchanged : (count : ℕ) (window : Window) → AreExchanged count 0 window window
none_exchanged count window = record {
  first = refl;
  all = refl;
  flags = refl;
  runs = λ k d lt. absurd (omega arith);
  others = λ k d le. refl;
  valid = λ k lt. absurd (omega arith);
  left = λ k le. refl;
}

-- one more is
pub one_exchanged : (count place : ℕ) (old window new : Window) → place < count → count + place < length old.runs.items
    → length old.valid.items ≡ length old.runs.items → AreExchanged count place old window → new.first ≡ window.first
    → new.runs.items ≡ swap window.runs.items place (count + place)
    → new.valid.items ≡ set window.valid.items place (get_or window.valid.items (count + place) false)
    → AreExchanged count (place + 1) old new
one_exchanged count place old window new early inside same so_far first runs valid =
    let size = so_far.all in
    let sizes = so_far.flags in
    let xs = window.runs.items in
    let there = count + place in
    let apart : place ≢ there = omega arith in
    let is : (k : ℕ) (d : PendingRun) → get_or new.runs.items k d
    ≡ get_or (set (set xs place (get_or xs there d)) there (get_or xs place d)) k d = λ k d.
    ap (λ rs. get_or rs k d) (runs ∙ sym (swap_is xs place there d (omega arith) (omega arith))) in
    let flag : (k : ℕ) → k ≢ place → get_or new.valid.items k false ≡ get_or window.valid.items k false = λ k other.
    ap (λ v. get_or v k false) valid ∙ get_or-set_other window.valid.items place k (get_or window.valid.items there false) false other in
    record {
      first = first ∙ so_far.first;
      all = ap length runs ∙ (length-swap xs place there ∙ size);
      flags = ap length valid ∙ (length-set window.valid.items place (get_or window.valid.items there false) ∙ sizes);
      runs = λ k d lt. elim (ℕ_discrete k place) [
        | yes here ↦ is k d
            ∙ (ap (λ n. get_or (set (set xs place (get_or xs there d)) there (get_or xs place d)) n d) here
            ∙ (get_or-set_other (set xs place (get_or xs there d)) there place (get_or xs place d) d apart
            ∙ (get_or-set_same xs place (get_or xs there d) d (omega arith) ∙ (so_far.others there d (omega arith)
            ∙ ap (λ n. get_or old.runs.items (count + n) d) (sym here)))))
        | no other ↦
            let past : k ≢ there = omega arith in
            is k d ∙ (get_or-set_other (set xs place (get_or xs there d)) there k (get_or xs place d) d past
            ∙ (get_or-set_other xs place k (get_or xs there d) d other ∙ so_far.runs k d (omega arith)))
      ];
      others = λ k d le.
          let past : k ≢ there = omega arith in
          let later : k ≢ place = omega arith in
          is k d ∙ (get_or-set_other (set xs place (get_or xs there d)) there k (get_or xs place d) d past
          ∙ (get_or-set_other xs place k (get_or xs there d) d later ∙ so_far.others k d (omega arith)));
      valid = λ k lt. elim (ℕ_discrete k place) [
        | yes here ↦ ap (λ v. get_or v k false) valid
            ∙ (ap (λ n. get_or (set window.valid.items place (get_or window.valid.items there false)) n false) here
            ∙ (get_or-set_same window.valid.items place (get_or window.valid.items there false) false (omega arith)
            ∙ (so_far.left there (omega arith) ∙ ap (λ n. get_or old.valid.items (count + n) false) (sym here))))
        | no other ↦ flag k other ∙ so_far.valid k (omega arith)
      ];
      left = λ k le.
          let later : k ≢ place = omega arith in
          flag k later ∙ so_far.left k (omega arith);
    }

-- no flag from the number of these on and before a place is set
pub record AreFreed (count rest place : ℕ) (old new : Window) : Type 0 where
  pub first : new.first ≡ old.first
  pub all : length new.runs.items ≡ length old.runs.items
  pub flags : length new.valid.items ≡ length old.valid.items
  pub runs : (k : ℕ) (d : PendingRun) → k < rest → get_or new.runs.items k d ≡ get_or old.runs.items (count + k) d
  pub valid : (k : ℕ) → k < rest → get_or new.valid.items k false ≡ get_or old.valid.items (count + k) false
  pub free : (k : ℕ) → rest ≤ k → k < place → get_or new.valid.items k false ≡ false

pub none_freed : (count rest : ℕ) (old window : Window) → AreExchanged count rest old window → AreFreed count rest rest old window
none_freed count rest old window are = record {
  first = are.first;
  all = are.all;
  flags = are.flags;
  runs = are.runs;
  valid = are.valid;
  free = λ k low lt. absurd (omega arith);
}

pub one_freed : (count rest place : ℕ) (old window new : Window) → rest ≤ place → place < length window.valid.items
    → AreFreed count rest place old window → new.first ≡ window.first → new.runs ≡ window.runs
    → new.valid.items ≡ set window.valid.items place false → AreFreed count rest (place + 1) old new
one_freed count rest place old window new later inside so_far first runs valid =
    let flag : (k : ℕ) → k ≢ place → get_or new.valid.items k false ≡ get_or window.valid.items k false = λ k other.
    ap (λ v. get_or v k false) valid ∙ get_or-set_other window.valid.items place k false false other in
    record {
      first = first ∙ so_far.first;
      all = ap (λ rs. length rs.items) runs ∙ so_far.all;
      flags = ap length valid ∙ (length-set window.valid.items place false ∙ so_far.flags);
      runs = λ k d lt. ap (λ rs. get_or rs.items k d) runs ∙ so_far.runs k d lt;
      valid = λ k lt.
          let other : k ≢ place = omega arith in
          flag k other ∙ so_far.valid k lt;
      free = λ k low lt. elim (ℕ_discrete k place) [
        | yes is ↦ ap (λ v. get_or v k false) valid ∙ (ap (λ n. get_or (set window.valid.items place false) n false) is
            ∙ get_or-set_same window.valid.items place false false inside)
        | no other ↦ flag k other ∙ so_far.free k low (omega arith)
      ];
    }

-- the runs are moved up once no later flag is set
pub all_freed : (count rest place : ℕ) (old new : Window) → rest + count ≡ length old.runs.items
    → length old.valid.items ≡ length old.runs.items → length new.valid.items ≤ place → AreFreed count rest place old new
    → AreMovedUp count old new
all_freed count rest place old new parts same over are =
    let sizes = are.flags in
    record {
      first = are.first;
      all = are.all;
      flags = are.flags;
      runs = λ k d lt. are.runs k d (omega arith);
      valid = λ k. elim (dec_le rest k) [
        | no before ↦ are.valid k (omega arith)
        | yes past ↦ elim (dec_le (length new.valid.items) k) [
          | yes beyond ↦ get_or_past new.valid.items k false beyond
          | no within ↦ are.free k past (omega arith)
        ] ∙ sym (get_or_past old.valid.items (count + k) false (omega arith))
      ];
    }

-- where nothing was moved, the window begins as before
pub not_moved : (from end_ start count : ℕ) (old taken : Window) (before after : Vec Record Global)
    → length old.valid.items ≡ length old.runs.items → old.first ≤ from → from ≤ end_ → start ≡ from - old.first
    → count ≡ end_ - old.first → AreTaken start count old taken before.items after.items → AreSettled from end_ old taken before after
not_moved from end_ start count old taken before after flags low ordered begins ends are =
    let begun = are.first in
    record {
      first = omega arith;
      flags = ap (λ v. length v.items) are.valid ∙ (flags ∙ sym are.runs);
      pushed = all_taken from end_ start count old taken before.items after.items low begins ends are;
      same = λ i d later within. ap (λ n. get_or taken.runs.items (i - n) d) are.first ∙ are.others (i - old.first) d (omega arith);
      valid = λ i later. flag_read old taken old.valid.items i are.first (ap (λ v. v.items) are.valid);
    }

-- where the runs past the first places were moved up, the window begins with the number
pub moved : (from end_ start count : ℕ) (old taken up new : Window) (before after : Vec Record Global)
    → length old.valid.items ≡ length old.runs.items → old.first ≤ from → from ≤ end_ → end_ ≤ end_of old
    → start ≡ from - old.first → count ≡ end_ - old.first → AreTaken start count old taken before.items after.items
    → AreMovedUp count taken up → new.first ≡ end_ → new.runs ≡ up.runs → new.valid ≡ up.valid → AreSettled from end_ old new before after
moved from end_ start count old taken up new before after flags low ordered high begins ends are moves first runs valid =
    let same_flags = ap (λ v. v.items) are.valid in
    let size = are.runs in
    let sizes = ap length same_flags in
    let all = moves.all in
    let all_flags = moves.flags in
    record {
      first = omega arith;
      flags = ap (λ v. length v.items) valid ∙ (all_flags ∙ (sizes ∙ (flags ∙ (sym size
          ∙ (sym all ∙ sym (ap (λ rs. length rs.items) runs))))));
      pushed = all_taken from end_ start count old taken before.items after.items low begins ends are;
      same = λ i d later within.
          let place : count + (i - end_) ≡ i - old.first = omega arith in
          ap (λ rs. get_or rs.items (i - new.first) d) runs ∙ (ap (λ n. get_or up.runs.items (i - n) d) first
          ∙ (moves.runs (i - end_) d (omega arith)
          ∙ (ap (λ n. get_or taken.runs.items n d) place ∙ are.others (i - old.first) d (omega arith))));
      valid = λ i later.
          let place : count + (i - end_) ≡ i - old.first = omega arith in
          ap (λ v. get_or v.items (i - new.first) false) valid ∙ (ap (λ n. get_or up.valid.items (i - n) false) first
          ∙ (moves.valid (i - end_) ∙ (ap (λ n. get_or taken.valid.items n false) place
          ∙ ap (λ v. get_or v (i - old.first) false) same_flags)));
    }
