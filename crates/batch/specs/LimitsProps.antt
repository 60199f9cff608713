-- A batch is one in one way at most, so that a struct may keep it.
use Rattle.std.specs.Prelude.{ℕ, List, [], ◌∷◌}
use Rattle.std.proofs.Props.{props}
use Rattle.objects.specs.declared.kind.Kind.{Kind}
use Rattle.objects.specs.Entries.{State, kinds}
use Rattle.meaning.specs.Trees.{Block}
use Rattle.meaning.specs.WellFormedProps.{IsWellFormed-prop}
use Rattle.batch.specs.Names.{Texts}
use Rattle.batch.specs.NamedProps.{AllNamed-prop, AllNamedValues-prop}
use Rattle.batch.specs.Limits.{AllWellFormed, AllShallow, IsBatch}

AllWellFormed-prop : (blocks : List Block) (ks : List Kind) → IsProp (AllWellFormed blocks ks)
AllWellFormed-prop [] ks = hlevel props
AllWellFormed-prop (block ∷ blocks) ks = hlevel (props, IsWellFormed-prop block [] ks, AllWellFormed-prop blocks ks)

AllShallow-prop : (blocks : List Block) → IsProp (AllShallow blocks)
AllShallow-prop [] = hlevel props
AllShallow-prop (block ∷ blocks) = hlevel (props, AllShallow-prop blocks)

pub IsBatch-prop : (version : ℕ) (start : State) (texts : Texts) (transactions : List Block)
    → IsProp (IsBatch version start texts transactions)
IsBatch-prop version start texts transactions = hlevel (
  props,
  AllWellFormed-prop transactions (kinds start),
  AllShallow-prop transactions,
  AllNamedValues-prop texts start,
  AllNamed-prop texts transactions,
)
