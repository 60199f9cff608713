-- A run that keeps as many operations as it performed keeps them all.
use Rattle.std.proofs.Common.{◌≡◌, ◌≤◌, List, [], ◌++◌, length, refl, sym, ap, ap₂, ◌∙◌, arith, length-append}
use Rattle.std.proofs.lemmas.List.{nil_from_length}
use Rattle.objects.specs.declared.entry.Entry.{Entry}
use Rattle.meaning.specs.declared.end.End.{End}
use Rattle.meaning.specs.declared.end.End.TheVariants.{Ended, Aborted}
use Rattle.meaning.specs.Records.{Taken, Nothing, Took, TakenStep, Performed, Filled, Branched, Acted, InParallel, TakenChild, Committed}
use Rattle.meaning.specs.Records.{Undone, TakenHandler, NoHandler, Handled, TakenChildren, NoChild, Child, entries, entries_of_step}
use Rattle.meaning.specs.Records.{entries_of_child, entries_of_handler, entries_of_children, kept, kept_of_step, kept_of_child}
use Rattle.meaning.specs.Records.{kept_of_handler, kept_of_children, net}
use Rattle.speculate.proofs.Room.{kept-le, kept_of_step-le, kept_of_child-le, kept_of_handler-le, kept_of_children-le}

-- where all is kept of two parts, all is kept of each
pub each_kept : (xs ys us vs : List Entry) → length us ≤ length xs → length vs ≤ length ys → length (xs ++ ys) ≤ length (us ++ vs)
    → (length xs ≤ length us) × (length ys ≤ length vs)
each_kept xs ys us vs first second all = (
  omega (arith, second, all, length-append xs ys, length-append us vs),
  omega (arith, first, all, length-append xs ys, length-append us vs),
)

mutual
  kept_whole : (taken : Taken) → length (entries taken) ≤ length (kept taken) → kept taken ≡ entries taken
  kept_whole Nothing all = refl
  kept_whole (Took step rest) all =
      let parts = each_kept (entries_of_step step) (entries rest) (kept_of_step step) (kept rest) (kept_of_step-le step)
      (kept-le rest) all in
      ap₂ (λ xs ys. xs ++ ys) (step_whole step parts.0) (kept_whole rest parts.1)

  step_whole : (step : TakenStep) → length (entries_of_step step) ≤ length (kept_of_step step) → kept_of_step step ≡ entries_of_step step
  step_whole (Performed entry) all = refl
  step_whole (Filled entry) all = refl
  step_whole (Branched then branch outcome) all = kept_whole branch all
  step_whole (Acted subaction) all = child_whole subaction all
  step_whole TakenStep.Abort all = refl
  step_whole (InParallel children) all = children_whole children all

  child_whole : (child : TakenChild) → length (entries_of_child child) ≤ length (kept_of_child child)
      → kept_of_child child ≡ entries_of_child child
  child_whole (Committed body) all = kept_whole body all
  child_whole (Undone body reason handler) all =
      let size = length-append (entries body) (entries_of_handler handler) in
      let few = kept_of_handler-le handler in
      let none : entries body ≡ [] = nil_from_length (entries body) (omega arith) in
      handler_whole handler (omega arith) ∙ sym (ap (λ xs. xs ++ entries_of_handler handler) none)

  handler_whole : (handler : TakenHandler) → length (entries_of_handler handler) ≤ length (kept_of_handler handler)
      → kept_of_handler handler ≡ entries_of_handler handler
  handler_whole NoHandler all = refl
  handler_whole (Handled handler outcome) all = kept_whole handler all

  children_whole : (children : TakenChildren) → length (entries_of_children children) ≤ length (kept_of_children children)
      → kept_of_children children ≡ entries_of_children children
  children_whole NoChild all = refl
  children_whole (Child child younger) all =
      let parts = each_kept (entries_of_child child) (entries_of_children younger) (kept_of_child child) (kept_of_children younger)
      (kept_of_child-le child) (kept_of_children-le younger) all in
      ap₂ (λ xs ys. xs ++ ys) (child_whole child parts.0) (children_whole younger parts.1)

-- a net as long as all entries is all entries
pub net_whole : (taken : Taken) (outcome : End) → length (net taken outcome) ≡ length (entries taken) → net taken outcome ≡ entries taken
net_whole taken Ended same = kept_whole taken (omega arith)
net_whole taken (Aborted reason) same = sym (nil_from_length (entries taken) (omega arith))
