-- There is room for every run of a round.
use Rattle.std.proofs.Common.{◌≡◌, ℕ, ◌≤◌, length, sym, subst}
use Rattle.objects.specs.Entries.{State}
use Rattle.meaning.specs.Batch.{state_at}
use Rattle.batch.specs.Parts.{start_of, blocks_of}
use Rattle.batch.specs.declared.batch.Batch.{Batch}
use Rattle.speculate.specs.Runs.{IsWithinOthers}
use Rattle.speculate.proofs.Room.{room_at}

-- every transaction from an opening on has room on the opening's state
pub room_here : (batch : Batch) (b : ℕ) → b ≤ length (blocks_of batch) → (place number : ℕ) (state : State) → b ≤ place → number ≡ place
    → state ≡ state_at (start_of batch) (blocks_of batch) b → IsWithinOthers (blocks_of batch) number state
room_here batch b within place number state le same reached =
    subst (IsWithinOthers (blocks_of batch) number) (sym reached)
    (subst (λ i. IsWithinOthers (blocks_of batch) i (state_at (start_of batch) (blocks_of batch) b)) (sym same)
    (room_at batch b within place le))
