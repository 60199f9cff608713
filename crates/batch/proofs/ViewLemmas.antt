-- The trees of blocks and records, level by level.
use Rattle.std.proofs.Common.{◌≡◌, ℕ, Bool, List, [], ◌∷◌, Option, Some, None, Vec, Box, Global, map, refl, ap, rules}
use Rattle.objects.specs.declared.kind.Call.{Call}
use Rattle.objects.specs.declared.kind.Reply.{Reply}
use Rattle.meaning.specs.declared.test.Test.{Test}
use Rattle.meaning.specs.Trees.{Operation, If, Subaction as subaction_step, Abort as abort_step, Parallel as parallel_step, Otherwise, GoOn}
use Rattle.meaning.specs.Trees.{Pass, for_reasons}
use Rattle.meaning.specs.Shown.{Shown, AtEnd, ShownStep, Replied, Filled, Branched, InParallel, NoChild}
use Rattle.batch.specs.Views.{block_view, step_view, filling_view, handler_view, otherwise_view, subaction_view, steps_view, children_view}
use Rattle.batch.specs.Views.{record_view, taken_view, tried_view, all_tried_view, before_end, shown_child, before_younger}
use Rattle.batch.specs.declared.tree.Block.{Block}
use Rattle.batch.specs.declared.tree.Filling.{Filling}
use Rattle.batch.specs.declared.tree.Step.{Op, Fill as fill_variant, If as if_variant, Sub, Abort, Parallel, the_lemmas}
use Rattle.batch.specs.declared.tree.Subaction.{Subaction, out-Subaction}
use Rattle.batch.specs.declared.tree.Handler.{Handler}
use Rattle.batch.specs.declared.tree.Otherwise as otherwise
use Rattle.batch.specs.declared.record.Record.{Record}
use Rattle.batch.specs.declared.record.Taken as taken
use Rattle.batch.specs.declared.record.Made.{Made}

pub block_view-is : (block : Block) → block_view block ≡ steps_view block.steps.items
block_view-is block = search (rules, the_lemmas)

pub handler_view-is : (handler : Handler) → handler_view handler ≡ (handler.reason, block_view handler.block)
handler_view-is handler = search (rules, the_lemmas)

pub step_view-Op : (object : ℕ) (call : Call) (labelled : Bool) → step_view (Op object call labelled) ≡ Operation object call labelled
step_view-Op object call labelled = search (rules, the_lemmas)

pub step_view-Fill : (filling : Box Filling Global) → step_view (fill_variant filling) ≡ filling_view filling.value
step_view-Fill filling = search (rules, the_lemmas)

pub step_view-If : (label : ℕ) (test : Test) (then otherwise : Box Block Global) → step_view (if_variant label test then otherwise)
    ≡ If label test (block_view then.value) (block_view otherwise.value)
step_view-If label test then otherwise = search (rules, the_lemmas)

pub step_view-Sub : (child : Box Subaction Global) → step_view (Sub child) ≡ subaction_step (subaction_view child.value).body
    (subaction_view child.value).handlers (subaction_view child.value).labelled
step_view-Sub child = search (rules, the_lemmas)

pub step_view-Abort : (reason : Option ℕ) → step_view (Abort reason) ≡ abort_step reason
step_view-Abort reason = search (rules, the_lemmas)

pub step_view-Parallel : (children : Vec Subaction Global) → step_view (Parallel children) ≡ parallel_step (children_view children.items)
step_view-Parallel children = search (rules, the_lemmas)

pub record_view-is : (done : Record) → record_view done ≡ before_end (map taken_view done.taken.items) (AtEnd done.outcome)
record_view-is done = search (rules, taken.the_lemmas)

pub taken_view-Op : (reply : Reply) → taken_view (taken.Op reply) ≡ Replied reply
taken_view-Op reply = search (rules, taken.the_lemmas)

pub taken_view-Filled : (made : Box Made Global) → taken_view (taken.Filled made) ≡ Filled made.value.call made.value.reply
taken_view-Filled made = search (rules, taken.the_lemmas)

pub taken_view-If : (then : Bool) (branch : Box Record Global) → taken_view (taken.If then branch) ≡ Branched then
    (record_view branch.value)
taken_view-If then branch = search (rules, taken.the_lemmas)

pub taken_view-Abort : taken_view taken.Abort ≡ ShownStep.Abort
taken_view-Abort = search (rules, taken.the_lemmas)

-- a child, seen part by part
tried_parts : (tried : Record × Option Record)
    → shown_child (taken.TheShapes.former-Taken-Parallel-0-at-3.map Record Shown record_view tried) ≡ tried_view tried
tried_parts (body, None) = refl
tried_parts (body, Some handler) = refl

all_tried_parts : (tried : List (Record × Option Record))
    → map shown_child (map (taken.TheShapes.former-Taken-Parallel-0-at-3.map Record Shown record_view) tried) ≡ map tried_view tried
all_tried_parts [] = refl
all_tried_parts (first ∷ others) = let one = tried_parts first in let rest = all_tried_parts others in cc

pub taken_view-Parallel : (children : Vec (Record × Option Record) Global) → taken_view (taken.Parallel children) ≡ InParallel
    (all_tried_view children.items)
taken_view-Parallel children = simp taken.the_lemmas (ap (λ tried. InParallel (before_younger tried NoChild))
    (all_tried_parts children.items))

pub subaction_view-body : (child : Subaction) → (subaction_view child).body ≡ block_view (out-Subaction child).body
subaction_view-body child = search (rules, the_lemmas)

pub subaction_view-labelled : (child : Subaction) → (subaction_view child).labelled ≡ (out-Subaction child).labelled
subaction_view-labelled child = search (rules, the_lemmas)

pub subaction_view-handlers : (child : Subaction)
    → (subaction_view child).handlers
    ≡ for_reasons (map handler_view (out-Subaction child).handlers.items) (otherwise_view (out-Subaction child).otherwise)
subaction_view-handlers child = search (rules, the_lemmas)

pub otherwise_view-Run : (block : Block) → otherwise_view (otherwise.Run block) ≡ Otherwise (block_view block)
otherwise_view-Run block = search (rules, the_lemmas)

pub otherwise_view-GoOn : otherwise_view otherwise.GoOn ≡ GoOn
otherwise_view-GoOn = search (rules, the_lemmas)

pub otherwise_view-Pass : otherwise_view otherwise.Pass ≡ Pass
otherwise_view-Pass = search (rules, the_lemmas)
