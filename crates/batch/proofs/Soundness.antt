-- No run meets what it can't do.
use Rattle.std.proofs.Common.{List, [], ◌++◌, sym, arith}
use Rattle.meaning.specs.declared.held.Held.{Held}
use Rattle.objects.specs.Entries.{State}
use Rattle.meaning.specs.Trees.{Block, NoStep, Steps, Step, Operation, Fill, If, Subaction, Abort, Parallel, Handlers, ForReason, Otherwise}
use Rattle.meaning.specs.Trees.{GoOn, Pass, Children, NoChild, Child}
use Rattle.meaning.specs.OneThread.{labels_of, state_of, one_step}
use Rattle.meaning.specs.Batch.{block_at, state_at}
use Rattle.meaning.proofs.HeldLabels.{test, arguments}
use Rattle.meaning.proofs.Keeping.{perform}
use Rattle.batch.specs.Running.{CanRunHere, CanStepHere, CanHandleHere, CanRunAllHere, acted}
use Rattle.batch.specs.Soundness.{IsSound, IsSoundStep, AreSoundHandlers, AreSound, SoundnessLaw, BatchSoundnessLaw}
use Rattle.batch.proofs.CanRun.{fill_can, can_step, can_run_rest, can_run_younger, transaction_can_run}

mutual
  pub is_sound : (block : Block) (held : List Held) (state : State) → CanRunHere block held state → IsSound block held state
  is_sound NoStep held state h = tt
  is_sound (Steps step rest) held state h = (
    is_sound_step step held state (can_step step rest held state h),
    λ ended. is_sound rest
        (held ++ labels_of (one_step step held state)) (state_of (one_step step held state)) (can_run_rest step rest held state h ended),
  )

  is_sound_step : (step : Step) (held : List Held) (state : State) → CanStepHere step held state → IsSoundStep step held state
  is_sound_step (Operation object call labelled) held state h = perform state object call h.well_formed h.room
  is_sound_step (Fill object template labelled refusal) held state h = (
    arguments held h.labels template h.held_by h.well_formed.1,
    λ call is. fill_can object template labelled refusal held state call h (sym is),
  )
  is_sound_step (If label t then else) held state h = (
    test held h.labels label t h.held_by h.well_formed.0,
    is_sound then held state (record {
      labels = h.labels;
      held_by = h.held_by;
      well_formed = h.well_formed.1;
      room =
          omega (arith, h.room);
    }),
    is_sound else held state (record {
      labels = h.labels;
      held_by = h.held_by;
      well_formed = h.well_formed.2;
      room =
          omega (arith, h.room);
    }),
  )
  is_sound_step (Subaction body handlers labelled) held state h = (
    is_sound body held state (record {
      labels = h.labels;
      held_by = h.held_by;
      well_formed = h.well_formed.0;
      room =
          omega (arith, h.room);
    }),
    are_sound_handlers handlers held state (record {
      labels = h.labels;
      held_by = h.held_by;
      well_formed = h.well_formed.1;
      room =
          omega (arith, h.room);
    }),
  )
  is_sound_step (Abort reason) held state h = tt
  is_sound_step (Parallel children) held state h = are_sound children held state
      (record { labels = h.labels; held_by = h.held_by; well_formed = h.well_formed; room = h.room })

  are_sound_handlers : (handlers : Handlers) (held : List Held) (state : State) → CanHandleHere handlers held state
      → AreSoundHandlers handlers held state
  are_sound_handlers (ForReason reason handler others) held state h = (
    is_sound handler held state (record {
      labels = h.labels;
      held_by = h.held_by;
      well_formed = h.well_formed.0;
      room =
          omega (arith, h.room);
    }),
    are_sound_handlers others held state (record {
      labels = h.labels;
      held_by = h.held_by;
      well_formed = h.well_formed.1;
      room =
          omega (arith, h.room);
    }),
  )
  are_sound_handlers (Otherwise handler) held state h = is_sound handler held state
      (record { labels = h.labels; held_by = h.held_by; well_formed = h.well_formed; room = h.room })
  are_sound_handlers GoOn held state h = tt
  are_sound_handlers Pass held state h = tt

  are_sound : (children : Children) (held : List Held) (state : State) → CanRunAllHere children held state → AreSound children held state
  are_sound NoChild held state h = tt
  are_sound (Child body handlers labelled younger) held state h = (
    is_sound body held state (record {
      labels = h.labels;
      held_by = h.held_by;
      well_formed = h.well_formed.0;
      room =
          omega (arith, h.room);
    }),
    are_sound_handlers handlers held state (record {
      labels = h.labels;
      held_by = h.held_by;
      well_formed = h.well_formed.1;
      room =
          omega (arith, h.room);
    }),
    are_sound younger held (state_of (acted (record { body = body; handlers = handlers; labelled = labelled }) held state))
        (can_run_younger (record { body = body; handlers = handlers; labelled = labelled }) younger held state h),
  )

pub soundness : SoundnessLaw
soundness block held state h = is_sound block held state h

pub batch_soundness : BatchSoundnessLaw
batch_soundness version start texts blocks i is lt = is_sound (block_at blocks i) [] (state_at start blocks i)
    (transaction_can_run start texts blocks i is lt)
