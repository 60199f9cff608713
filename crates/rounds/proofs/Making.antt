-- Runs are made one after the other, and put in their places in any order.
use Rattle.std.proofs.Common.{◌≡◌, ℕ, zero, suc, ◌+◌, ◌<◌, List, [], ◌∷◌, ◌++◌, ◌==◌}
use Rattle.std.proofs.Common.{map, length, get_or, take, refl, sym, ap, ◌∙◌, subst, append-nil, arith}
use Rattle.std.proofs.lemmas.List.{take_more, map-append}
use Rattle.std.proofs.lemmas.List.Elements.{All-nil, All-push, All-same}
use Rattle.std.specs.List.{All, sum_by, range_with_len}
use Rattle.objects.specs.Entries.{State}
use Rattle.objects.specs.declared.entry.Entry.{Entry}
use Rattle.rounds.specs.Workspaces.{IsReadyOn}
use Rattle.rounds.specs.declared.workspace.Workspace.{Workspace}
use Rattle.meaning.specs.Records.{Taken, entries as entries_in}
use Rattle.meaning.specs.OneThread.{Execution, record_of}
use Rattle.intentions.specs.declared.view.NetList.{NetList}
use Rattle.speculate.specs.Runs.{IsListedRunOf}
use Rattle.speculate.specs.declared.speculated.Run.{Run}
use Rattle.rounds.specs.declared.pending_run.PendingRun.{PendingRun}
use Rattle.batch.specs.Views.{record_view}
use Rattle.batch.specs.declared.batch.Batch.{Batch}
use Rattle.rounds.specs.declared.make.NumberedRun.{NumberedRun}
use Rattle.claims.specs.Views.{bit, times}
use Rattle.rounds.specs.PendingRuns.{AreSumsOf, IsPendingOf, IsListedNet, listed_net, net_of_run, numbers_of}
use Rattle.rounds.specs.PendingRuns.{IsMade, AreMadeRuns}
use Rattle.committed.specs.Spans.{AreIn}
use Rattle.claims.proofs.Lists.{times-append}
use Rattle.rounds.proofs.Times.{times_sum}
use Rattle.std.specs.Fork.{slice_chunk}
use Rattle.std.specs.Int.{div_ceil}
use Rattle.std.proofs.lemmas.Slice.Chunks.{sum_by_chunks}
use Rattle.std.proofs.lemmas.List.Sums.{sum-map}
use Rattle.std.proofs.lemmas.List.FromFn.{length-map-range_with_len, get_or-map-range_with_len}
use Rattle.workers.specs.Working.{AreGivenOnce}
use Rattle.workers.proofs.Once.{each_given, sum_given_once}

-- the numbers of two lists of runs
pub times_numbers : (i : ℕ) (xs ys : List NumberedRun) → times i (numbers_of (xs ++ ys)) ≡ times i (numbers_of xs) + times i (numbers_of ys)
times_numbers i xs ys = ap (times i) (map-append (λ (m : NumberedRun). m.number) xs ys) ∙ times-append i (numbers_of xs) (numbers_of ys)

-- one run more
pub made_more : (batch : Batch) (state : State) (listed : List Entry) (numbers : List ℕ) (i : ℕ) (m : NumberedRun)
    (made more : List NumberedRun) → i < length numbers → m.number ≡ get_or numbers i 0 → more ≡ made ++ m ∷ []
    → AreMadeRuns batch state listed (take i numbers) made → IsMade batch state listed m
    → AreMadeRuns batch state listed (take (i + 1) numbers) more
made_more batch state listed numbers i m made more lt is pushed so_far here = record {
  each = All-same (IsMade batch state listed) more (made ++ m ∷ []) pushed (All-push (IsMade batch state listed) made m so_far.each here);
  dealt = λ j.
      let left : times j (numbers_of more) ≡ times j (numbers_of made) + times j (m.number ∷ []) =
      ap (λ ms. times j (numbers_of ms)) pushed ∙ times_numbers j made (m ∷ []) in
      let right : times j (take (i + 1) numbers) ≡ times j (take i numbers) + times j (get_or numbers i 0 ∷ []) =
      ap (times j) (take_more numbers i 0 lt) ∙ times-append j (take i numbers) (get_or numbers i 0 ∷ []) in
      left ∙ (ap (λ n. n + times j (m.number ∷ [])) (so_far.dealt j) ∙ (ap (λ n. times j (take i numbers) + times j (n ∷ [])) is
      ∙ sym right));
}

-- runs that were made and added to a list, and a workspace that is ready for the next
pub record IsGroupSoFar (batch : Batch) (state : State) (listed : List Entry) (numbers : List ℕ) (workspace : Workspace)
    (before all : List NumberedRun) : Type 0 where
  pub ready : IsReadyOn state workspace
  pub own : List NumberedRun
  pub is : all ≡ before ++ own
  pub all_made : AreMadeRuns batch state listed numbers own

-- none is made yet
pub none_made : (batch : Batch) (state : State) (listed : List Entry) (numbers : List ℕ) (workspace : Workspace) (before : List NumberedRun)
    → IsReadyOn state workspace → IsGroupSoFar batch state listed (take 0 numbers) workspace before before
none_made batch state listed numbers workspace before ready = record {
  ready = ready;
  own = [];
  is = sym (append-nil before);
  all_made = record { each = All-nil (IsMade batch state listed); dealt = λ i. refl };
}

-- a number is in the chunks of a list, put together, as often as in the list
times_chunks : (i size count : ℕ) (numbers : List ℕ) → 0 < size → count ≡ div_ceil (length numbers) size
    → sum_by (λ k. times i (slice_chunk numbers size k)) (range_with_len 0 count) ≡ times i numbers
times_chunks i size count numbers some are =
    let f : ℕ → ℕ = λ k. times i (slice_chunk numbers size k) in
    let rs = map f (range_with_len 0 count) in
    let size_of : length rs ≡ count = length-map-range_with_len f 0 count in
    sym (sum-map f (range_with_len 0 count))
    ∙ (sum_by_chunks (λ y. bit (y == i)) size numbers rs (λ k lt. get_or-map-range_with_len f 0 count k k 0 (omega arith) (omega arith)
    ∙ times_sum i (slice_chunk numbers size k)) some (size_of ∙ are) ∙ sym (times_sum i numbers))

-- the groups' runs, each group once, are a run for each of the numbers
pub all_groups : (batch : Batch) (state : State) (listed : List Entry) (numbers : List ℕ) (cut count : ℕ) (made : List NumberedRun)
    → 0 < cut → count ≡ div_ceil (length numbers) cut
    → AreGivenOnce (λ k. AreMadeRuns batch state listed (slice_chunk numbers cut k)) count made
    → AreMadeRuns batch state listed numbers made
all_groups batch state listed numbers cut count made some are given =
    let IsGroup : ℕ → List NumberedRun → Type 0 = λ k. AreMadeRuns batch state listed (slice_chunk numbers cut k) in record {
      each = each_given IsGroup (IsMade batch state listed) (λ k own here. here.each) given.order made given.given;
      dealt = λ i. sum_given_once IsGroup (λ ms. times i (numbers_of ms)) refl (times_numbers i) (λ k. times i (slice_chunk numbers cut k))
          (λ k own here. here.dealt i) count made given ∙ times_chunks i cut count numbers some are;
    }

front : (P : NumberedRun → Type 0) (x : NumberedRun) (xs : List NumberedRun) → P x → All P xs → All P (x ∷ xs)
front P x xs here rest zero d lt = here
front P x xs here rest (suc k) d lt = rest k d (omega arith)

pub all_front : (P : NumberedRun → Type 0) (xs : List NumberedRun) (y : NumberedRun) → All P (xs ++ y ∷ []) → All P xs × P y
all_front P [] y all = (λ k d lt. absurd (omega arith), all 0 y (omega arith))
all_front P (x ∷ xs) y all =
    let rest = all_front P xs y (λ k d lt. all (suc k) d (omega arith)) in
    (front P x xs (all 0 x (omega arith)) rest.0, rest.1)

-- a pending run of a run of a meaning, whose net is listed there
pub pending_of : (listed : NetList) (meant : Execution Taken) (run : Run) (pending : PendingRun) → IsListedRunOf listed meant run
    → pending.tree ≡ run.tree → (IsListedNet pending.net → listed_net pending ≡ net_of_run listed run)
    → AreSumsOf pending.sums run.entries.items (net_of_run listed run) → AreIn pending.span (net_of_run listed run)
    → IsPendingOf meant pending
pending_of listed meant run pending is tree net are inside = record {
  committable = record {
    tree = ap record_view tree ∙ is.tree;
    net = λ in_list. net in_list ∙ is.net;
    span = subst (AreIn pending.span) is.net inside;
  };
  sums = subst (AreSumsOf pending.sums (entries_in (record_of meant))) is.net
      (subst (λ es. AreSumsOf pending.sums es (net_of_run listed run)) is.entries are);
}
