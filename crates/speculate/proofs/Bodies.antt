-- Subactions by how their bodies end, in a level of their own.
use Rattle.std.proofs.Common.{◌≡◌, ℕ, List, Option, Some, None, refl, sym, subst}
use Rattle.meaning.specs.declared.end.End.{End}
use Rattle.meaning.specs.declared.end.End.TheVariants.{Ended, Aborted}
use Rattle.meaning.specs.declared.held.Held.{Held}
use Rattle.meaning.specs.OneThread.{one}
use Rattle.meaning.specs.Trees as meant
use Rattle.batch.specs.Views.{block_view, subaction_view}
use Rattle.batch.specs.Running.{CanRunHere, CanTryHere, acted}
use Rattle.batch.specs.Shows.{ShowsRun, ShowsTried}
use Rattle.batch.specs.Taking.{taker, untaken}
use Rattle.batch.specs.declared.record.Record.{Record}
use Rattle.batch.specs.declared.tree.Subaction.{Subaction, out-Subaction}
use Rattle.batch.specs.declared.tried.Tried as executed
use Rattle.batch.proofs.ViewLemmas.{subaction_view-body}
use Rattle.batch.proofs.Handling.{taker_can_run}
use Rattle.batch.proofs.HandlerShows.{shows_taker, shows_none}
use Rattle.batch.proofs.PartTried.{IsUndone, handlers_can_run, tried-committed, tried-aborted}
use Rattle.intentions.specs.Levels.{Intentions as View, shown_values, begun, committed, aborted}
use Rattle.speculate.specs.Running.{in_view}
use Rattle.speculate.proofs.InView.{ground, committed_level, aborted_level}

-- a body that was run in a level which was opened for it
module _ (child : Subaction) (held : List Held) (before level mid : View) (body : Record) (opens : level ≡ begun before)
    (shows : ShowsRun in_view (one (block_view (out-Subaction child).body) held (shown_values level)) body level mid) where
  body_shows : ShowsRun in_view (one (subaction_view child).body held (shown_values (begun before))) body (begun before) mid
  body_shows =
      subst (λ b. ShowsRun in_view (one b held (shown_values (begun before))) body (begun before) mid) (sym (subaction_view-body child))
      (subst (λ v. ShowsRun in_view (one (block_view (out-Subaction child).body) held (shown_values v)) body v mid) opens shows)

  -- it ended, and its level is committed
  pub body_ended : (now : View) (done : executed.Tried) → now ≡ committed mid → body.outcome ≡ Ended
      → done.body ≡ body → done.handler ≡ None → done.end ≡ Ended
      → ShowsTried in_view (subaction_view child) (acted (subaction_view child) held (shown_values before)) done before now
  body_ended now done is ends body_is handler_is end_is =
      tried-committed ground (subaction_view child) held before now body done
      (committed_level (subaction_view child) held before mid now body body_shows is) ends body_is handler_is end_is

  undone : (next : View) → next ≡ aborted mid
      → IsUndone in_view (one (subaction_view child).body held (shown_values before)) body before next
  undone next is = aborted_level (subaction_view child) held before mid next body body_shows is

  -- it aborted and is undone: the block that takes the abort can be run
  pub handler_can_run : (next : View) (block : meant.Block) (reason : Option ℕ) → next ≡ aborted mid
      → CanTryHere (subaction_view child) held (shown_values before) → Some block ≡ taker (subaction_view child).handlers reason
      → CanRunHere block held (shown_values next)
  handler_can_run next block reason is can takes =
      taker_can_run (subaction_view child).handlers block held reason (shown_values next)
      (handlers_can_run ground (subaction_view child) held before next body can (undone next is)) takes

  -- and that block was run
  pub taken_over : (next now : View) (block : meant.Block) (reason : Option ℕ) (handler : Record) (done : executed.Tried)
      → next ≡ aborted mid → body.outcome ≡ Aborted reason → Some block ≡ taker (subaction_view child).handlers reason
      → ShowsRun in_view (one block held (shown_values next)) handler next now
      → done.body ≡ body → done.handler ≡ Some handler → done.end ≡ handler.outcome
      → ShowsTried in_view (subaction_view child) (acted (subaction_view child) held (shown_values before)) done before now
  taken_over next now block reason handler done is ends takes handler_shows body_is handler_is end_is =
      tried-aborted ground (subaction_view child) held before next now body reason (Some handler) handler.outcome done (undone next is) ends
      (shows_taker ground (subaction_view child).handlers block held reason handler handler.outcome next now takes handler_shows refl)
      body_is handler_is end_is

  -- or no block takes the abort
  pub passed_on : (next : View) (reason : Option ℕ) (end : End) (done : executed.Tried)
      → next ≡ aborted mid → body.outcome ≡ Aborted reason → None ≡ taker (subaction_view child).handlers reason
      → end ≡ untaken (subaction_view child).handlers reason
      → done.body ≡ body → done.handler ≡ None → done.end ≡ end
      → ShowsTried in_view (subaction_view child) (acted (subaction_view child) held (shown_values before)) done before next
  passed_on next reason end done is ends none how body_is handler_is end_is =
      tried-aborted ground (subaction_view child) held before next next body reason None end done (undone next is) ends
      (shows_none ground (subaction_view child).handlers held reason next end none how) body_is handler_is end_is
