-- A view as what a block is run on, and the steps that are no operations. No public contract names them.
use Rattle.std.specs.Prelude.{◌≡◌, ⊤}
use Rattle.meaning.specs.Trees.{Step, Operation}
use Rattle.batch.specs.Grounds.{Ground}
use Rattle.intentions.specs.Levels.{Intentions as View, shown_values, absorbed}

-- all entries came to the view, and what is kept of them to its innermost net
abbrev pub in_view : Ground View
in_view = record {
  state = shown_values;
  Took = λ before entries kept now. now ≡ absorbed before entries kept;
}

-- the step is no operation whose call is given
abbrev pub IsNoOperation : Step → Type 0
IsNoOperation (Operation object call labelled) = ⊥
IsNoOperation step = ⊤
