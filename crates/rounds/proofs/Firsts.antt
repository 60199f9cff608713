-- The nets of runs, one after the other, and where each begins.
use Rattle.std.proofs.Common.{◌≡◌, ℕ, ◌+◌, ◌<◌, ◌≤◌, List, [], ◌∷◌, ◌++◌, length, get_or, take, drop, arith, refl, sym, ap, ◌∙◌, subst}
use Rattle.std.proofs.Common.{append_assoc, append-nil}
use Rattle.std.proofs.lemmas.List.{take_more, take-append-drop, length-append, take_all}
use Rattle.std.proofs.Math.Seq.{take-append_seam, get_or-append_seam}
use Rattle.std.proofs.Math.ListN.{get_or-append}
use native.Mathlib.Decide.{dec_le}
use Rattle.objects.specs.declared.entry.Entry.{Entry}
use Rattle.rounds.specs.declared.pending_run.PendingRun.{PendingRun}
use Rattle.rounds.specs.PendingRuns.{left_by, all_left, HoldsPast}
use Rattle.committed.specs.Summaries.{entries_of}
use Rattle.objects.proofs.ListLemmas.{all_commute_none}
use Rattle.rounds.specs.Checks.{AreStarts, IsFirstFrom, IsSeenPast}

-- the nets of two lists of runs
nets_append : (xs ys : List PendingRun) → all_left (xs ++ ys) ≡ all_left xs ++ all_left ys
nets_append [] ys = refl
nets_append (run ∷ xs) ys = ap (λ ns. (left_by run.sums) ++ ns) (nets_append xs ys)
    ∙ sym (append_assoc (left_by run.sums) (all_left xs) (all_left ys))

-- one more run
pub next_nets : (runs : List PendingRun) (i : ℕ) (run : PendingRun) → i < length runs → run ≡ get_or runs i run
    → all_left (take (i + 1) runs) ≡ all_left (take i runs) ++ (left_by run.sums)
next_nets runs i run lt is =
    let last : all_left (run ∷ []) ≡ (left_by run.sums) = append-nil (left_by run.sums) in
    ap all_left (take_more runs i run lt) ∙ (nets_append (take i runs) (get_or runs i run ∷ [])
    ∙ (ap (λ r. all_left (take i runs) ++ all_left (r ∷ [])) (sym is) ∙ ap (λ ns. all_left (take i runs) ++ ns) last))

-- the nets after others, with one run's more
pub nets_more : (past : List Entry) (runs : List PendingRun) (i : ℕ) (run : PendingRun) (before after net : List Entry) → i < length runs
    → run ≡ get_or runs i run → net ≡ left_by run.sums → after ≡ before ++ net → before ≡ past ++ all_left (take i runs)
    → after ≡ past ++ all_left (take (i + 1) runs)
nets_more past runs i run before after net lt is this all so_far =
    all ∙ (ap (λ es. es ++ net) so_far ∙ (append_assoc past (all_left (take i runs)) net
    ∙ ap (λ es. past ++ es) (ap (λ es. all_left (take i runs) ++ es) this ∙ sym (next_nets runs i run lt is))))

-- where the net of one run more begins
pub starts_more : (past : List Entry) (runs : List PendingRun) (i : ℕ) (starts more : List ℕ) (nets : List Entry)
    → more ≡ starts ++ length nets ∷ [] → length starts ≡ i → nets ≡ past ++ all_left (take i runs)
    → ((k : ℕ) → k < i → get_or starts k 0 ≡ length (past ++ all_left (take k runs))) → (k : ℕ) → k < i + 1
    → get_or more k 0 ≡ length (past ++ all_left (take k runs))
starts_more past runs i starts more nets pushed all so_far each k lt = elim (dec_le i k) [
  | yes le ↦ let last : length starts ≡ k = omega arith in let same : i ≡ k = omega arith in
      ap (λ xs. get_or xs k 0) pushed ∙ (ap (λ n. get_or (starts ++ length nets ∷ []) n 0) (sym last)
      ∙ (get_or-append_seam starts (length nets) [] 0 ∙ (ap length so_far ∙ ap (λ n. length (past ++ all_left (take n runs))) same)))
  | no less ↦ ap (λ xs. get_or xs k 0) pushed ∙ (get_or-append starts (length nets ∷ []) 0 k (omega arith) ∙ each k (omega arith))
]

-- the list begins with what comes before a net
whole : (past : List Entry) (runs : List PendingRun) (i : ℕ) → past ++ all_left runs ≡ (past ++ all_left (take i runs))
    ++ all_left (drop i runs)
whole past runs i = ap (λ es. past ++ es) (ap all_left (sym (take-append-drop i runs)) ∙ nets_append (take i runs) (drop i runs))
    ∙ sym (append_assoc past (all_left (take i runs)) (all_left (drop i runs)))

pub front_taken : (past : List Entry) (runs : List PendingRun) (i n : ℕ) (nets : List Entry) → nets ≡ past ++ all_left runs
    → n ≡ length (past ++ all_left (take i runs)) → take n nets ≡ past ++ all_left (take i runs)
front_taken past runs i n nets are size = ap (take n) (are ∙ whole past runs i)
    ∙ (ap (λ m. take m ((past ++ all_left (take i runs)) ++ all_left (drop i runs))) size
    ∙ take-append_seam (past ++ all_left (take i runs)) (all_left (drop i runs)))

pub front_within : (past : List Entry) (runs : List PendingRun) (i n : ℕ) (nets : List Entry) → nets ≡ past ++ all_left runs
    → n ≡ length (past ++ all_left (take i runs)) → n ≤ length nets
front_within past runs i n nets are size = omega (
  arith,
  ap length (are ∙ whole past runs i),
  length-append (past ++ all_left (take i runs)) (all_left (drop i runs)),
  size,
)

-- a run holds past what comes before its net where it holds past the front of the list
pub first_after : (past : List Entry) (runs : List PendingRun) (starts : List ℕ) (nets : List Entry) (first upto : ℕ)
    → nets ≡ past ++ all_left runs → AreStarts past runs starts → IsFirstFrom nets starts runs first
    → upto ≡ length (past ++ all_left (take first runs)) → IsSeenPast past runs (record { first = first; upto = upto })
first_after past runs starts nets first upto are begin found size =
    let front : (i : ℕ) → i < length runs → take (get_or starts i 0) nets ≡ past ++ all_left (take i runs) =
    λ i lt. front_taken past runs i (get_or starts i 0) nets are (begin.each i lt) in
    let within = found.within in
    record {
      within = found.within;
      clear = λ i lt d. subst (λ es. HoldsPast es (get_or runs i d)) (front i (omega arith)) (found.clear i lt d);
      conflict = λ lt stands. found.conflict lt (λ d. subst (λ es. HoldsPast es (get_or runs first d)) (sym (front first lt)) (stands d));
      upto = size;
    }

-- all of the list
pub all_taken : (nets : List Entry) (upto : ℕ) → upto ≡ length nets → take upto nets ≡ nets
all_taken nets upto size = take_all upto nets (omega arith)

-- a run stands past no entries
pub past_none : (run : PendingRun) (es : List Entry) (n : ℕ) → n ≡ 0 → HoldsPast (take n es) run
past_none run es n none = subst (λ n. HoldsPast (take n es) run) (sym none) (all_commute_none (entries_of run.sums.entries.items))
