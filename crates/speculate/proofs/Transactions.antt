-- The transactions of a batch, each of which can be run where all others were.
use Rattle.std.proofs.Common.{◌≡◌, ℕ, zero, ◌-◌, ◌<◌, List, [], map, length, get_or, sym, subst, arith}
use Rattle.std.proofs.lemmas.List.{length-map}
use Rattle.objects.specs.Entries.{State, kinds}
use Rattle.meaning.specs.Batch.{block_at}
use Rattle.meaning.specs.WellFormed.{IsWellFormed, operations}
use Rattle.meaning.specs.Running.{all_operations}
use Rattle.meaning.proofs.Keeping.{limit}
use Rattle.batch.specs.Names.{Texts}
use Rattle.batch.specs.Views.{block_view}
use Rattle.batch.specs.Limits.{IsBatch}
use Rattle.batch.specs.declared.tree.Block as declared_block
use Rattle.batch.specs.Running.{CanRunHere}
use Rattle.batch.proofs.CanRun.{well_formed_at, block_at_view, operations_before}
use Rattle.speculate.specs.Runs.{IsWithinOthers}

-- a transaction can be run on objects of the batch's kinds that are no larger than all others can make them
pub transaction_can_run : {version : ℕ} (start : State) (texts : Texts) (blocks : List declared_block.Block) (i : ℕ) (state : State)
    (x : declared_block.Block)
    → IsBatch version start texts (map block_view blocks) → kinds state ≡ kinds start → IsWithinOthers (map block_view blocks) i state
    → i < length blocks → x ≡ get_or blocks i x → CanRunHere (block_view x) [] state
transaction_can_run start texts blocks i state x is same within lt read =
    let size = length-map blocks block_view in
    let few = operations_before (map block_view blocks) zero i (omega arith) in
    let here : CanRunHere (block_at (map block_view blocks) i) [] state = record {
      labels = [];
      held_by = tt;
      well_formed = subst (IsWellFormed (block_at (map block_view blocks) i) []) (sym same)
          (well_formed_at (map block_view blocks) (kinds start) i is.well_formed (omega arith));
      room = limit state (all_operations (map block_view blocks) - operations (block_at (map block_view blocks) i))
          (operations (block_at (map block_view blocks) i)) within (omega (arith, is.few_operations));
    } in
    subst (λ b. CanRunHere b [] state) (sym (block_at_view blocks i x lt read)) here
