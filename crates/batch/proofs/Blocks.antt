-- Blocks, whose steps are run and whose labels are then forgotten.
use Rattle.std.proofs.Common.{◌≡◌, ◌++◌, ℕ, List, length, take, sym, ap, ◌∙◌, subst}
use Rattle.std.proofs.Math.Seq.{take-append_seam}
use Rattle.meaning.specs.declared.held.Held.{Held}
use Rattle.meaning.specs.OneThread.{one}
use Rattle.objects.specs.Entries.{State}
use Rattle.batch.specs.Grounds.{Ground}
use Rattle.batch.specs.Running.{StillSeen}
use Rattle.batch.specs.Shows.{ShowsRun}
use Rattle.batch.specs.Views.{block_view, steps_view}
use Rattle.batch.specs.declared.record.Record.{Record}
use Rattle.batch.specs.declared.tree.Block.{Block}
use Rattle.batch.specs.declared.tree.Step.{Step}
use Rattle.batch.proofs.ViewLemmas.{block_view-is}

-- what its steps did, the block did
pub block_shows : {V : Type 0} (g : Ground V) (block : Block) (steps : List Step) (held : List Held) (state : State) (done : Record)
    (before now : V) → steps ≡ block.steps.items → ShowsRun g (one (steps_view steps) held state) done before now
    → ShowsRun g (one (block_view block) held state) done before now
block_shows g block steps held state done before now is shows =
    subst (λ b. ShowsRun g (one b held state) done before now) (ap steps_view is ∙ sym (block_view-is block)) shows

-- of the labels that are seen, those before the block are left
pub labels_left : (held seen left : List Held) (count : ℕ) → StillSeen held seen → count ≡ length held → left ≡ take count seen
    → left ≡ held
labels_left held seen left count still counted is =
    is ∙ ap (take count) still.1 ∙ ap (λ n. take n (held ++ still.0)) counted ∙ take-append_seam held still.0
