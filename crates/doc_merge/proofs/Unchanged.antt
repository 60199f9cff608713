-- Blocks whose items and reasons keep their numbers stay as they are.
use Rattle.std.proofs.Common.{◌≡◌, ℕ, List, [], ◌∷◌, map, Option, None, Some, refl, ap, arith}
use Rattle.objects.specs.declared.kind.Call.{Call}
use Rattle.meaning.specs.declared.template.Argument.{Argument}
use Rattle.meaning.specs.declared.template.Argument.TheVariants as argument
use Rattle.meaning.specs.declared.template.Refusal.{Refusal}
use Rattle.meaning.specs.declared.template.Refusal.TheVariants.{GoesOn, Aborts}
use Rattle.meaning.specs.declared.template.Template.{Template}
use Rattle.meaning.specs.declared.template.Template.TheVariants.{Given, OfAmount, OfItem, OfPair}
use Rattle.meaning.specs.declared.test.Test.{Test}
use Rattle.meaning.specs.declared.test.Test.TheVariants.{Is, AtLeast, IsItem}
use Rattle.meaning.specs.Trees.{Block, NoStep, Steps, Step, Operation, Fill, If, Subaction, Abort, Parallel, Handlers, ForReason, Otherwise}
use Rattle.meaning.specs.Trees.{GoOn, Pass, Children, NoChild, Child}
use Rattle.std.specs.Prelude.{option_map}
use Rattle.doc_merge.specs.Renumbered.{new_number, renumbered, renumbered_argument, renumbered_call, renumbered_children}
use Rattle.doc_merge.specs.Renumbered.{renumbered_handlers}
use Rattle.doc_merge.specs.Renumbered.{renumbered_refusal, renumbered_step, renumbered_template, renumbered_test}

-- a call whose items keep their numbers
call_stays : (c : Call) → renumbered_call (new_number []) c ≡ c
call_stays c = grind arith

-- a test
test_stays : (test : Test) → renumbered_test (new_number []) test ≡ test
test_stays (Is word) = refl
test_stays (AtLeast bound) = refl
test_stays (IsItem x) = refl

-- the reason of an abort
reason_stays : (reason : Option ℕ) → option_map (new_number []) reason ≡ reason
reason_stays None = refl
reason_stays (Some number) = refl

-- an argument, and a template
argument_stays : (argument : Argument) → renumbered_argument (new_number []) argument ≡ argument
argument_stays (argument.Is x) = refl
argument_stays (argument.From label) = refl

template_stays : (template : Template) → renumbered_template (new_number []) template ≡ template
template_stays (Given c) = ap Given (call_stays c)
template_stays (OfAmount v label) = refl
template_stays (OfItem v label) = refl
template_stays (OfPair v key x) = λ i. OfPair v (argument_stays key i) (argument_stays x i)

-- what a refusal does
refusal_stays : (refusal : Refusal) → renumbered_refusal (new_number []) refusal ≡ refusal
refusal_stays GoesOn = refl
refusal_stays (Aborts reason) = ap Aborts (reason_stays reason)

mutual
  -- a block, and its parts
  block_stays : (block : Block) → renumbered (new_number []) (new_number []) block ≡ block
  block_stays NoStep = refl
  block_stays (Steps step rest) = λ i. Steps (step_stays step i) (block_stays rest i)

  step_stays : (step : Step) → renumbered_step (new_number []) (new_number []) step ≡ step
  step_stays (Operation object c labelled) = ap (λ x. Operation object x labelled) (call_stays c)
  step_stays (Fill object template labelled refusal) = λ i. Fill object (template_stays template i) labelled (refusal_stays refusal i)
  step_stays (If label test then else) = λ i. If label (test_stays test i) (block_stays then i) (block_stays else i)
  step_stays (Subaction body handlers labelled) = λ i. Subaction (block_stays body i) (handlers_stay handlers i) labelled
  step_stays (Abort reason) = ap Abort (reason_stays reason)
  step_stays (Parallel children) = ap Parallel (children_stay children)

  handlers_stay : (handlers : Handlers) → renumbered_handlers (new_number []) (new_number []) handlers ≡ handlers
  handlers_stay (ForReason reason handler others) = λ i. ForReason reason (block_stays handler i) (handlers_stay others i)
  handlers_stay (Otherwise handler) = ap Otherwise (block_stays handler)
  handlers_stay GoOn = refl
  handlers_stay Pass = refl

  children_stay : (children : Children) → renumbered_children (new_number []) (new_number []) children ≡ children
  children_stay NoChild = refl
  children_stay (Child body handlers labelled younger) =
      λ i. Child (block_stays body i) (handlers_stay handlers i) labelled (children_stay younger i)

-- each block of a list
pub blocks_stay : (blocks : List Block) → map (renumbered (new_number []) (new_number [])) blocks ≡ blocks
blocks_stay [] = refl
blocks_stay (block ∷ blocks) = λ i. block_stays block i ∷ blocks_stay blocks i
