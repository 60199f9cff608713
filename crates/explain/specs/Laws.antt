-- The laws of the lines, as statements.
use Rattle.std.specs.Prelude.{◌≡◌, ℕ, List, map}
use Rattle.std.specs.List.{filter}
use Rattle.objects.specs.Entries.{State}
use Rattle.meaning.specs.Trees.{Block}
use Rattle.meaning.specs.Records.{entries}
use Rattle.meaning.specs.OneThread.{record_of}
use Rattle.meaning.specs.Batch.{alone, net_of}
use Rattle.meaning.specs.Words.{Naming}
use Rattle.explain.specs.Why.{placed_run, IsWhyText}

-- The operations that are placed of a run are its entries, and those that are left are its net.
abbrev pub PlacedLaw : Type 0
PlacedLaw =
    (names : Naming) (start : State) (batch : List Block) (i b : ℕ)
    → (map (λ p. p.entry) (placed_run names start batch i b) ≡ entries (record_of (alone start batch i b)))
    × (map (λ p. p.entry) (filter (λ p. p.left) (placed_run names start batch i b)) ≡ net_of (alone start batch i b))

-- A batch has one text of lines.
abbrev pub DeterminedLaw : Type 0
DeterminedLaw =
    (names : Naming) (start : State) (batch : List Block) (text other : List ℕ)
    → IsWhyText names start batch text
    → IsWhyText names start batch other
    → other ≡ text
