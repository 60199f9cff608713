-- Runs are committed one after the other, each on some of the objects.
use Rattle.std.proofs.Common.{◌≡◌, ℕ, suc, ◌+◌, ◌<◌, List, [], ◌∷◌, ◌++◌, length, get_or, drop, refl, sym, ap, subst, ◌∙◌, add-one, arith}
use Rattle.std.proofs.Common.{drop-cons}
use Rattle.std.proofs.lemmas.List.{drop-map, get_or-drop}
use Rattle.std.specs.Prelude.{Result, Ok, Err, OnOk}
use Rattle.objects.specs.declared.kind.Value.{Value}
use Rattle.objects.specs.declared.entry.Entry.{Entry}
use Rattle.objects.specs.Parts.{CanPerformOn, ArePerformedOn}
use Rattle.objects.proofs.PartLemmas.{IsOutside, all_performed-outside, can-next, performed-append, performed-none}
use Rattle.rounds.specs.declared.pending_run.PendingRun.{PendingRun}
use Rattle.meaning.specs.Batch.{block_at}
use Rattle.meaning.specs.Trees.{Block, NoStep}
use Rattle.batch.specs.Views.{block_view}
use Rattle.batch.specs.declared.tree.Block as tree
use Rattle.committed.specs.declared.span.Span.{Span}
use Rattle.committed.specs.Spans.{IsIn, AreIn}
use Rattle.rounds.specs.PendingRuns.{own_net, own_nets, AreSpanned}
use Rattle.rounds.specs.Views.{views_of}

-- of all entries these are left to be performed
pub record AreLeft (first : ℕ) (old now : List Value) (all left : List Entry) : Type 0 where
  pub can : CanPerformOn first now left
  pub leads : (new : List Value) → ArePerformedOn first now new left → ArePerformedOn first old new all

-- all of them, at first
pub all_left_over : (first : ℕ) (old : List Value) (all : List Entry) → CanPerformOn first old all → AreLeft first old old all all
all_left_over first old all can = record { can = can; leads = λ new done. done }

-- the later ones, once those before them are performed
pub fewer_left : (first : ℕ) (old now next : List Value) (all left here later : List Entry) → left ≡ here ++ later
    → AreLeft first old now all left → ArePerformedOn first now next here → AreLeft first old next all later
fewer_left first old now next all left here later split so_far done =
    let part = subst (AreLeft first old now all) split so_far in record {
      can = can-next first now next here later part.can done;
      leads = λ new rest. part.leads new (performed-append first now next new here later done rest);
    }

-- none at the end
pub none_left : (first : ℕ) (old now : List Value) (all left : List Entry) → left ≡ [] → AreLeft first old now all left
    → ArePerformedOn first old now all
none_left first old now all left none so_far =
    so_far.leads now (subst (ArePerformedOn first now now) (sym none) (performed-none first now))

-- the first of the entries that are left
pub next_entries : (entries : List Entry) (i : ℕ) (e : Entry) → i < length entries → e ≡ get_or entries i e
    → drop i entries ≡ (e ∷ []) ++ drop (i + 1) entries
next_entries entries i e lt is =
    drop-cons entries i e lt ∙ (ap (λ x. x ∷ drop (suc i) entries) (sym is) ∙ rw add-one refl)

-- what runs leave from the i-th on is what the i-th leaves, and then what the later ones leave
pub next_nets_left : (blocks : List Block) (number : ℕ) (runs : List PendingRun) (i : ℕ) (x : PendingRun) → i < length runs
    → x ≡ get_or runs i x
    → own_nets blocks (number + i) (drop i runs)
    ≡ own_net (block_at blocks (number + i)) x ++ own_nets blocks (number + (i + 1)) (drop (i + 1) runs)
next_nets_left blocks number runs i x lt is =
    let here = own_net (block_at blocks (number + i)) x in
    let next : suc (number + i) ≡ number + (i + 1) = omega arith in
    ap (own_nets blocks (number + i)) (drop-cons runs i x lt)
    ∙ (ap (λ (y : PendingRun). own_net (block_at blocks (number + i)) y
    ++ own_nets blocks (suc (number + i)) (drop (suc i) runs)) (sym is)
    ∙ (ap (λ n. here ++ own_nets blocks n (drop (suc i) runs)) next ∙ rw add-one refl))

-- a block among those from one number on is one of all
later_block : (blocks : List tree.Block) (from k : ℕ) → block_at (views_of (drop from blocks)) k ≡ block_at (views_of blocks) (from + k)
later_block blocks from k =
    ap (λ bs. block_at bs k) (sym (drop-map block_view from blocks)) ∙ get_or-drop from (views_of blocks) k NoStep

nets_on : (blocks : List tree.Block) (from k : ℕ) (runs : List PendingRun)
    → own_nets (views_of (drop from blocks)) k runs ≡ own_nets (views_of blocks) (from + k) runs
nets_on blocks from k [] = refl
nets_on blocks from k (run ∷ runs) =
    let next : from + suc k ≡ suc (from + k) = omega arith in
    ap (λ b. own_net b run ++ own_nets (views_of (drop from blocks)) (suc k) runs) (later_block blocks from k)
    ∙ ap (λ ns. own_net (block_at (views_of blocks) (from + k)) run ++ ns)
    (nets_on blocks from (suc k) runs ∙ ap (λ n. own_nets (views_of blocks) n runs) next)

-- what runs of the blocks from one number on leave is what they leave among all blocks
pub later_nets : (blocks : List tree.Block) (from : ℕ) (runs : List PendingRun)
    → own_nets (views_of (drop from blocks)) 0 runs ≡ own_nets (views_of blocks) from runs
later_nets blocks from runs =
    let here : from + 0 ≡ from = omega arith in
    nets_on blocks from 0 runs ∙ ap (λ n. own_nets (views_of blocks) n runs) here

-- it is in their spans
pub later_spans : (blocks : List tree.Block) (from : ℕ) (runs : List PendingRun) → AreSpanned (views_of blocks) from runs
    → AreSpanned (views_of (drop from blocks)) 0 runs
later_spans blocks from runs are k d lt =
    let here : 0 + k ≡ k = omega arith in
    subst (λ b. AreIn (get_or runs k d).span (own_net b (get_or runs k d)))
    (sym (ap (block_at (views_of (drop from blocks))) here ∙ later_block blocks from k)) (are k d lt)

-- entries of a span without one of the objects leave these as they are
pub passed_over : (first : ℕ) (values : List Value) (span : Span) (entries : List Entry) → AreIn span entries
    → ((object : ℕ) → IsIn span object → IsOutside first values object)
    → ArePerformedOn first values values entries
passed_over first values span entries inside beyond =
    all_performed-outside first values entries (λ k e lt. beyond _ (inside k e lt))

-- what follows from two facts that hold of a success
pub both_ok : {T E : Type 0} (result : Result T E) (A B C : Type 0) → (A → B → C) → OnOk result A → OnOk result B → OnOk result C
both_ok (Ok x) A B C both first second = both first second
both_ok (Err e) A B C both first second = tt

-- what follows from a fact that holds of a success
pub then_ok : {T E : Type 0} (result : Result T E) (A B : Type 0) → (A → B) → OnOk result A → OnOk result B
then_ok (Ok x) A B next first = next first
then_ok (Err e) A B next first = tt
