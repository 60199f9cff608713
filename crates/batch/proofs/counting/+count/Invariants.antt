use Rattle.std.proofs.Common.{◌≡◌, ◌+◌, map}
use Rattle.meaning.specs.Trees.{Pass, for_reasons}
use Rattle.meaning.specs.WellFormed.{operations, operations_of_children, operations_of_handlers}
use Rattle.batch.specs.Views.{steps_view, children_view, handler_view}
use Rattle.batch.proofs.CountLemmas.{rest_of_steps, rest_of_children, rest_of_handlers}
use Rattle.batch.proofs.counting.+count.Given as goal

abbrev pub invariant-operations_in_steps-loop-step : goal.invariant-operations_in_steps-loop-step
invariant-operations_in_steps-loop-step l = l.count + rest_of_steps l.step-index l.steps ≡ operations (steps_view l.fn.steps)

abbrev pub invariant-operations_in_children-loop-child : goal.invariant-operations_in_children-loop-child
invariant-operations_in_children-loop-child l = l.count + rest_of_children l.child-index l.children ≡ operations_of_children
    (children_view l.fn.children)

abbrev pub invariant-operations_in_handlers-loop-handler : goal.invariant-operations_in_handlers-loop-handler
invariant-operations_in_handlers-loop-handler l =
    l.count + rest_of_handlers l.handler-index l.handlers ≡ operations_of_handlers (for_reasons (map handler_view l.fn.handlers) Pass)
