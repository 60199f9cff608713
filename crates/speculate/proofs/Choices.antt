-- The branch of an if that was picked.
use Rattle.std.proofs.Common.{◌≡◌, ℕ, ◌<◌, Bool, true, false, List, get_or, refl, subst, sym, ap, ◌∙◌, Box, Global, arith, rules}
use Rattle.meaning.specs.declared.held.Held.{Held}
use Rattle.meaning.specs.declared.test.Test.{Test}
use Rattle.meaning.specs.Trees as meant
use Rattle.objects.specs.Entries.{State}
use Rattle.meaning.specs.Labels.{holds_of}
use Rattle.meaning.specs.OneThread.{one, one_step}
use Rattle.batch.specs.Views.{block_view, step_view}
use Rattle.batch.specs.Running.{CanRunHere, CanStepHere}
use Rattle.batch.specs.Shows.{ShowsRun, ShowsStep}
use Rattle.batch.specs.declared.tree.Block.{Block, size-Block}
use Rattle.batch.specs.declared.tree.Step.{Step, If, size-Step, size_is-Step, the_lemmas}
use Rattle.batch.specs.declared.record.Record.{Record}
use Rattle.batch.specs.declared.record.Taken as taken
use Rattle.batch.proofs.ViewLemmas.{step_view-If}
use Rattle.batch.proofs.StepShows.{if-shows_then, if-shows_else}
use Rattle.intentions.specs.Levels.{Intentions as View, shown_values as state_of_view}
use Rattle.speculate.specs.Running.{in_view}
use Rattle.speculate.proofs.InView.{ground}

-- the branch can be run
picked_can_run : (label : ℕ) (t : Test) (then otherwise : Box Block Global) (held : List Held) (state : State) (holds : Bool)
    (branch : Block) → CanStepHere (meant.If label t (block_view then.value) (block_view otherwise.value)) held state
    → (holds ≡ true → branch ≡ then.value) → (holds ≡ false → branch ≡ otherwise.value) → CanRunHere (block_view branch) held state
picked_can_run label t then otherwise held state true branch here first other =
    subst (λ b. CanRunHere (block_view b) held state) (sym (first refl))
    (record { labels = here.labels; held_by = here.held_by; well_formed = here.well_formed.1; room = omega (arith, here.room) })
picked_can_run label t then otherwise held state false branch here first other =
    subst (λ b. CanRunHere (block_view b) held state) (sym (other refl))
    (record { labels = here.labels; held_by = here.held_by; well_formed = here.well_formed.2; room = omega (arith, here.room) })

pub branch_can_run : (step : Step) (label : ℕ) (t : Test) (then otherwise : Box Block Global) (held : List Held) (state : State)
    (holds : Bool) (branch : Block) → step ≡ If label t then otherwise → CanStepHere (step_view step) held state
    → (holds ≡ true → branch ≡ then.value) → (holds ≡ false → branch ≡ otherwise.value) → CanRunHere (block_view branch) held state
branch_can_run step label t then otherwise held state holds branch is can first other =
    picked_can_run label t then otherwise held state holds branch
    (subst (λ s. CanStepHere s held state) (ap step_view is ∙ step_view-If label t then otherwise) can) first other

-- and is smaller than its step
pub branch_is_smaller : (step : Step) (label : ℕ) (t : Test) (then otherwise : Box Block Global) (holds : Bool) (branch : Block)
    → step ≡ If label t then otherwise → (holds ≡ true → branch ≡ then.value) → (holds ≡ false → branch ≡ otherwise.value)
    → size-Block branch < size-Step step
branch_is_smaller step label t then otherwise true branch is first other =
    rw (is, first refl, size_is-Step (If label t then otherwise)) (search (rules, the_lemmas))
branch_is_smaller step label t then otherwise false branch is first other =
    rw (is, other refl, size_is-Step (If label t then otherwise)) (search (rules, the_lemmas))

-- the step shows what its branch does
pub branch_shows : (step : Step) (label : ℕ) (t : Test) (then otherwise : Box Block Global) (held seen : List Held) (before now : View)
    (read : Held) (holds : Bool) (branch : Block) (done : Record) (boxed : Box Record Global)
    → step ≡ If label t then otherwise → CanStepHere (step_view step) held (state_of_view before) → read ≡ get_or held label read
    → holds ≡ holds_of t read → (holds ≡ true → branch ≡ then.value) → (holds ≡ false → branch ≡ otherwise.value)
    → ShowsRun in_view (one (block_view branch) held (state_of_view before)) done before now → seen ≡ held → boxed.value ≡ done
    → ShowsStep in_view (one_step (step_view step) held (state_of_view before)) (taken.If holds boxed) done.outcome held seen before now
branch_shows step label t then otherwise held seen before now read true branch done boxed is can reads tests first other shows labels
    boxes =
    if-shows_then ground step label t then otherwise held seen before now read true done boxed is can reads tests refl
    (subst (λ b. ShowsRun in_view (one (block_view b) held (state_of_view before)) done before now) (first refl) shows) labels boxes
branch_shows step label t then otherwise held seen before now read false branch done boxed is can reads tests first other shows labels
    boxes =
    if-shows_else ground step label t then otherwise held seen before now read false done boxed is can reads tests refl
    (subst (λ b. ShowsRun in_view (one (block_view b) held (state_of_view before)) done before now) (other refl) shows) labels boxes
