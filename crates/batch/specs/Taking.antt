-- Which block takes an abort, and how the block around it goes on where none does.
use Rattle.std.specs.Prelude.{ℕ, Bool, true, false, List, [], Option, Some, None}
use Rattle.meaning.specs.declared.end.End.{End}
use Rattle.meaning.specs.declared.end.End.TheVariants.{Ended, Aborted}
use Rattle.meaning.specs.declared.held.Held.{Held}
use Rattle.objects.specs.Entries.{State}
use Rattle.meaning.specs.Trees.{Block, Handlers, ForReason, Otherwise, GoOn, Pass}
use Rattle.meaning.specs.Records.{TakenHandler, NoHandler}
use Rattle.meaning.specs.OneThread.{Execution, Ran, as_handler, is_for, one}

-- this block, where it takes the abort, or else what the others say
abbrev pub first_of : Bool → Block → Option Block → Option Block
first_of true block others = Some block
first_of false block others = others

-- the block of the first handler that takes an abort for this reason
abbrev pub taker : Handlers → Option ℕ → Option Block
taker (ForReason for block others) reason = first_of (is_for for reason) block (taker others reason)
taker (Otherwise block) reason = Some block
taker GoOn reason = None
taker Pass reason = None

-- how the block around goes on, where no handler takes the abort
abbrev pub untaken : Handlers → Option ℕ → End
untaken (ForReason for block others) reason = untaken others reason
untaken (Otherwise block) reason = Ended
untaken GoOn reason = Ended
untaken Pass reason = Aborted reason

-- what comes of an abort: the run of the block that takes it, or else this end
abbrev pub taken_by : Option Block → End → List Held → State → Execution TakenHandler
taken_by None end held state = Ran NoHandler end [] state
taken_by (Some block) end held state = as_handler (one block held state)
