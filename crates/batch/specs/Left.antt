-- What a run leaves, read off its block and what its record shows.
use Rattle.std.specs.Prelude.{List, [], ◌∷◌, ◌++◌, true, false, Option, Some, None}
use Rattle.objects.specs.declared.entry.Entry.{Entry}
use Rattle.meaning.specs.declared.end.End.{End}
use Rattle.meaning.specs.declared.end.End.TheVariants.{Ended, Aborted}
use Rattle.meaning.specs.Trees.{Block, NoStep, Steps, Step, Operation, Fill, If, Subaction, Parallel, Handlers, Children, NoChild, Child}
use Rattle.meaning.specs.Shown.{Shown, AtEnd, First, ShownStep, Replied, Filled, Branched, Acted, InParallel, ShownChild, Body}
use Rattle.meaning.specs.Shown.{BodyAndHandler, ShownChildren, end_of}
use Rattle.batch.specs.Taking.{taker}

-- these entries, or none where it aborted
abbrev pub where_ended : End → List Entry → List Entry
where_ended Ended entries = entries
where_ended (Aborted reason) entries = []

abbrev pub or_no_step : Option Block → Block
or_no_step None = NoStep
or_no_step (Some block) = block

-- the block that takes the abort of a body that came to this end
abbrev pub taker_at : Handlers → End → Block
taker_at handlers Ended = NoStep
taker_at handlers (Aborted reason) = or_no_step (taker handlers reason)

-- The calls, with their replies, that are in no body of an aborted subaction. Where a block and a record don't match, they are none.
abbrev mutual
  pub left : Block → Shown → List Entry
  left block (AtEnd outcome) = []
  left NoStep (First taken others) = []
  left (Steps step rest) (First taken others) = left_by_step step taken ++ left rest others

  pub left_by_step : Step → ShownStep → List Entry
  left_by_step (Operation object call labelled) (Replied reply) = record { object = object; call = call; reply = reply } ∷ []
  left_by_step (Fill object template labelled refusal) (Filled call reply) = record { object = object; call = call; reply = reply } ∷ []
  left_by_step (If label test then else) (Branched true branch) = left then branch
  left_by_step (If label test then else) (Branched false branch) = left else branch
  left_by_step (Subaction body handlers labelled) (Acted child) = left_by_child body handlers child
  left_by_step (Parallel children) (InParallel all) = left_by_children children all
  left_by_step step taken = []

  pub left_by_child : Block → Handlers → ShownChild → List Entry
  left_by_child body handlers (Body done) = where_ended (end_of done) (left body done)
  left_by_child body handlers (BodyAndHandler done handler) = left (taker_at handlers (end_of done)) handler

  pub left_by_children : Children → ShownChildren → List Entry
  left_by_children children ShownChildren.NoChild = []
  left_by_children NoChild (ShownChildren.Child child younger) = []
  left_by_children (Child body handlers labelled others) (ShownChildren.Child child younger) =
      left_by_child body handlers child ++ left_by_children others younger

-- what the run of a transaction leaves: nothing where it aborted
abbrev pub left_by_transaction : Block → Shown → List Entry
left_by_transaction block done = where_ended (end_of done) (left block done)
