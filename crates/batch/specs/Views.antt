-- The trees of the meaning that a block and a record stand for.
use Rattle.std.specs.Prelude.{ℕ, Bool, List, [], ◌∷◌, map, Option, Some, None, option_map, box_value}
use Rattle.meaning.specs.Trees as meant
use Rattle.meaning.specs.Trees.{NoStep, Steps, Operation, Fill, If, Abort, Parallel, Handlers, Otherwise, GoOn, Pass, for_reasons, Children}
use Rattle.meaning.specs.Trees.{NoChild, Child}
use Rattle.meaning.specs.Shown.{Shown, AtEnd, First, ShownStep, Replied, Filled, Branched, Acted, InParallel, ShownChild, Body}
use Rattle.meaning.specs.Shown.{BodyAndHandler, ShownChildren}
use Rattle.batch.specs.declared.tree.Block.{Block, Block-F, fold-Block}
use Rattle.batch.specs.declared.tree.Filling.{Filling}
use Rattle.batch.specs.declared.tree.Step.{Step, Step-F, fold-Step}
use Rattle.batch.specs.declared.tree.Subaction.{Subaction, Subaction-F, fold-Subaction}
use Rattle.batch.specs.declared.tree.Handler.{Handler, Handler-F, fold-Handler}
use Rattle.batch.specs.declared.tree.Otherwise as declared_otherwise
use Rattle.batch.specs.declared.tree.Otherwise.{Otherwise-F, fold-Otherwise}
use Rattle.batch.specs.declared.record.Record.{Record, Record-F, fold-Record}
use Rattle.batch.specs.declared.record.Taken.{Taken, Taken-F, fold-Taken}

-- a subaction or a child: its body, what runs where the body aborts, and whether it has a label
pub record Tried : Type 0 where
  pub body : meant.Block
  pub handlers : Handlers
  pub labelled : Bool

abbrev pub steps_of : List meant.Step → meant.Block
steps_of [] = NoStep
steps_of (step ∷ rest) = Steps step (steps_of rest)

abbrev pub children_of : List Tried → Children
children_of [] = NoChild
children_of (child ∷ younger) = Child child.body child.handlers child.labelled (children_of younger)

abbrev pub filling_view : Filling → meant.Step
filling_view filling = Fill filling.object filling.template filling.labelled filling.refusal

-- one level, where each part inside is seen as its tree already
abbrev pub step_layer : Step-F Handlers meant.Step meant.Block (ℕ × meant.Block) Tried → meant.Step
step_layer (Step-F.Op object call labelled) = Operation object call labelled
step_layer (Step-F.Fill filling) = filling_view filling.value
step_layer (Step-F.If label test then otherwise) = If label test then.value otherwise.value
step_layer (Step-F.Sub child) = meant.Subaction child.value.body child.value.handlers child.value.labelled
step_layer (Step-F.Abort reason) = Abort reason
step_layer (Step-F.Parallel children) = Parallel (children_of children.items)

abbrev pub block_layer : Block-F Handlers meant.Step meant.Block (ℕ × meant.Block) Tried → meant.Block
block_layer block = steps_of block.steps.items

abbrev pub handler_layer : Handler-F Handlers meant.Step meant.Block (ℕ × meant.Block) Tried → ℕ × meant.Block
handler_layer handler = (handler.reason, handler.block)

abbrev pub otherwise_layer : Otherwise-F Handlers meant.Step meant.Block (ℕ × meant.Block) Tried → Handlers
otherwise_layer (Otherwise-F.Run block) = Otherwise block
otherwise_layer Otherwise-F.GoOn = GoOn
otherwise_layer Otherwise-F.Pass = Pass

abbrev pub subaction_layer : Subaction-F Handlers meant.Step meant.Block (ℕ × meant.Block) Tried → Tried
subaction_layer child = record {
  body = child.body;
  handlers = for_reasons child.handlers.items child.otherwise;
  labelled = child.labelled;
}

-- the tree of a block, of a step, and of a subaction
abbrev pub block_view : Block → meant.Block
block_view = fold-Block Handlers meant.Step meant.Block (ℕ × meant.Block) Tried otherwise_layer step_layer block_layer handler_layer
    subaction_layer

abbrev pub step_view : Step → meant.Step
step_view = fold-Step Handlers meant.Step meant.Block (ℕ × meant.Block) Tried otherwise_layer step_layer block_layer handler_layer
    subaction_layer

abbrev pub handler_view : Handler → ℕ × meant.Block
handler_view = fold-Handler Handlers meant.Step meant.Block (ℕ × meant.Block) Tried otherwise_layer step_layer block_layer handler_layer
    subaction_layer

abbrev pub otherwise_view : declared_otherwise.Otherwise → Handlers
otherwise_view = fold-Otherwise Handlers meant.Step meant.Block (ℕ × meant.Block) Tried otherwise_layer step_layer block_layer
    handler_layer subaction_layer

abbrev pub subaction_view : Subaction → Tried
subaction_view = fold-Subaction Handlers meant.Step meant.Block (ℕ × meant.Block) Tried otherwise_layer step_layer block_layer
    handler_layer subaction_layer

abbrev pub steps_view : List Step → meant.Block
steps_view steps = steps_of (map step_view steps)

abbrev pub children_view : List Subaction → Children
children_view children = children_of (map subaction_view children)

-- shown steps, before the others and the end
abbrev pub before_end : List ShownStep → Shown → Shown
before_end [] rest = rest
before_end (step ∷ steps) rest = First step (before_end steps rest)

abbrev pub shown_child : Shown × Option Shown → ShownChild
shown_child (body, None) = Body body
shown_child (body, Some handler) = BodyAndHandler body handler

abbrev pub before_younger : List ShownChild → ShownChildren → ShownChildren
before_younger [] younger = younger
before_younger (child ∷ children) younger = ShownChildren.Child child (before_younger children younger)

abbrev pub taken_layer : Taken-F ShownStep Shown → ShownStep
taken_layer (Taken-F.Op reply) = Replied reply
taken_layer (Taken-F.Filled made) = Filled made.value.call made.value.reply
taken_layer (Taken-F.If then branch) = Branched then branch.value
taken_layer (Taken-F.Sub body handler) = Acted (shown_child (body.value, option_map box_value handler))
taken_layer Taken-F.Abort = ShownStep.Abort
taken_layer (Taken-F.Parallel children) = InParallel (before_younger (map shown_child children.items) ShownChildren.NoChild)

abbrev pub record_layer : Record-F ShownStep Shown → Shown
record_layer done = before_end done.taken.items (AtEnd done.outcome)

-- what a record shows, and what a step shows that was taken
abbrev pub record_view : Record → Shown
record_view = fold-Record ShownStep Shown taken_layer record_layer

abbrev pub taken_view : Taken → ShownStep
taken_view = fold-Taken ShownStep Shown taken_layer record_layer

-- what a body and its handler show, and what children show
abbrev pub tried_view : Record × Option Record → ShownChild
tried_view tried = shown_child (record_view tried.0, option_map record_view tried.1)

abbrev pub all_tried_view : List (Record × Option Record) → ShownChildren
all_tried_view tried = before_younger (map tried_view tried) ShownChildren.NoChild
