-- A batch of which the first transactions were run.
use Rattle.std.proofs.Common.{◌≡◌, ℕ, zero, suc, ◌+◌, ◌<◌, ◌≤◌, List, [], ◌∷◌, ◌++◌, map, length, get_or, refl, sym, ap, subst, ◌∙◌, arith}
use Rattle.std.proofs.Common.{add-one}
use Rattle.std.proofs.lemmas.List.{length-map, map-append}
use Rattle.objects.specs.Objects.{kind_of_value}
use Rattle.objects.specs.Entries.{State, kinds}
use Rattle.meaning.specs.Trees as meant
use Rattle.meaning.specs.declared.limits.TheConstants.{MAX_OBJECTS}
use Rattle.meaning.specs.OneThread.{one}
use Rattle.meaning.specs.Batch.{block_at, state_at, answer, settled, shown_of, shown_from, all_shown, final_state}
use Rattle.meaning.proofs.Keeping.{batch_keeps}
use Rattle.batch.specs.Parts.{start_of, blocks_of}
use Rattle.batch.specs.Views.{block_view, record_view}
use Rattle.batch.specs.Running.{CanRunHere}
use Rattle.batch.specs.declared.batch.Batch.{Batch}
use Rattle.batch.specs.declared.tree.Block.{Block}
use Rattle.batch.specs.declared.record.Record.{Record}
use Rattle.batch.proofs.CanRun.{block_at_view, transaction_can_run}
use Rattle.one_thread.specs.Journaled.{Journaled}

-- with an empty journal
abbrev resting : State → Journaled
resting s = record { state = s; journal = [] }

shown_from-more : (start : State) (blocks : List meant.Block) (b count : ℕ) → shown_from start blocks b (suc count)
    ≡ shown_from start blocks b count ++ shown_of (answer start blocks (b + count)) ∷ []
unfolding shown_from
shown_from-more start blocks b zero = let here : b ≡ b + 0 = omega arith in ap (λ n. shown_of (answer start blocks n) ∷ []) here
shown_from-more start blocks b (suc count) =
    let next : suc b + count ≡ b + suc count = omega arith in
    ap (λ rest. shown_of (answer start blocks b) ∷ rest) (shown_from-more start blocks (suc b) count
    ∙ ap (λ n. shown_from start blocks (suc b) count ++ shown_of (answer start blocks n) ∷ []) next)

state_at-next : (start : State) (blocks : List meant.Block) (i : ℕ) → settled (state_at start blocks i) (answer start blocks i)
    ≡ state_at start blocks (i + 1)
unfolding state_at
state_at-next start blocks i = ap (state_at start blocks) (sym (add-one i))

-- the first i transactions were run, and nothing of them is to be taken back
pub record ArePartAnswered (batch : Batch) (i : ℕ) (records : List Record) (now : Journaled) : Type 0 where
  pub shown : map record_view records ≡ shown_from (start_of batch) (blocks_of batch) 0 i
  pub settled : now ≡ resting (state_at (start_of batch) (blocks_of batch) i)

pub part_answered-start : (batch : Batch) (now : Journaled) → now ≡ resting (start_of batch) → ArePartAnswered batch 0 [] now
unfolding shown_from state_at
part_answered-start batch now is = record { shown = refl; settled = is }

module _ (batch : Batch) (items : List Block) (same : items ≡ batch.transactions.items) (i : ℕ) (records : List Record) (now : Journaled)
    (x : Block) (h : ArePartAnswered batch i records now) (lt : i < length items) (read : x ≡ get_or items i x) where
  abbrev here : State
  here = state_at (start_of batch) (blocks_of batch) i

  at_state : now.state ≡ here
  at_state = ap (λ (j : Journaled). j.state) h.settled

  block_here : block_view x ≡ block_at (blocks_of batch) i
  block_here = block_at_view items i x lt read ∙ ap (λ bs. block_at (map block_view bs) i) same

  -- what the next transaction does is its one-thread run
  runs : one (block_view x) [] now.state ≡ answer (start_of batch) (blocks_of batch) i
  runs = ap (λ b. one b [] now.state) block_here ∙ ap (one (block_at (blocks_of batch) i) []) at_state

  pub part_answered-can_run : CanRunHere (block_view x) [] now.state
  part_answered-can_run =
      let size = length-map batch.transactions.items block_view in
      let count = ap length same in
      let can : CanRunHere (block_at (blocks_of batch) i) [] here = transaction_can_run (start_of batch) batch.names
      (blocks_of batch) i batch.is_batch (omega arith) in
      subst (CanRunHere (block_view x) []) (sym at_state) (subst (λ b. CanRunHere b [] here) (sym block_here) can)

  pub part_answered-none_left : now.journal ≡ []
  part_answered-none_left = ap (λ (j : Journaled). j.journal) h.settled

  pub part_answered-more : (made : Record) (next : Journaled) → record_view made ≡ shown_of (one (block_view x) [] now.state)
      → next ≡ resting (settled now.state (one (block_view x) [] now.state)) → ArePartAnswered batch (i + 1) (records ++ made ∷ []) next
  part_answered-more made next shows settles = let from_first : i ≡ 0 + i = omega arith in record {
    shown = map-append record_view records (made ∷ []) ∙ ap (λ xs. xs ++ record_view made ∷ []) h.shown
        ∙ ap (λ y. shown_from (start_of batch) (blocks_of batch) 0 i ++ y ∷ []) (shows ∙ ap shown_of runs
        ∙ ap (λ n. shown_of (answer (start_of batch) (blocks_of batch) n)) from_first)
        ∙ sym (shown_from-more (start_of batch) (blocks_of batch) 0 i) ∙ ap (shown_from (start_of batch) (blocks_of batch) 0)
        (sym (add-one i));
    settled = settles ∙ ap resting (ap (settled now.state) runs ∙ ap (λ s. settled s (answer (start_of batch) (blocks_of batch) i))
        at_state ∙ state_at-next (start_of batch) (blocks_of batch) i);
  }

-- all of them are
pub part_answered-all : (batch : Batch) (items : List Block) → items ≡ batch.transactions.items → (i : ℕ) (records : List Record)
    (now : Journaled) → ArePartAnswered batch i records now → i ≤ length items → length items ≤ i
    → (map record_view records ≡ all_shown (start_of batch) (blocks_of batch))
    × (now.state ≡ final_state (start_of batch) (blocks_of batch))
part_answered-all batch items same i records now h within over =
    let size = length-map batch.transactions.items block_view in
    let all = ap length same in
    let count : i ≡ length (blocks_of batch) = omega arith in (
      h.shown ∙ ap (shown_from (start_of batch) (blocks_of batch) 0) count,
      ap (λ (j : Journaled). j.state) h.settled ∙ ap (state_at (start_of batch) (blocks_of batch)) count,
    )

-- there are as many objects at the end as at the start, and so few
pub few_at_end : (batch : Batch) (objects : State) → objects ≡ final_state (start_of batch) (blocks_of batch) → length objects ≤ MAX_OBJECTS
few_at_end batch objects is =
    let same : kinds objects ≡ kinds (start_of batch) = ap kinds is
    ∙ (batch_keeps (start_of batch) (blocks_of batch) (length (blocks_of batch)) (omega arith)).same_kinds in
    let count : length objects ≡ length (start_of batch) = sym (length-map objects kind_of_value) ∙ ap length same
    ∙ length-map (start_of batch) kind_of_value in
    omega (arith, count, batch.is_batch.few_objects)
