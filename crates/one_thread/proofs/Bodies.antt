-- Subactions by how their bodies end.
use Rattle.std.proofs.Common.{◌≡◌, ℕ, List, Option, None, length, sym, subst}
use Rattle.meaning.specs.declared.end.End.{End}
use Rattle.meaning.specs.declared.end.End.TheVariants.{Ended, Aborted}
use Rattle.meaning.specs.declared.held.Held.{Held}
use Rattle.meaning.specs.OneThread.{one, one_handler}
use Rattle.batch.specs.Views.{block_view, subaction_view}
use Rattle.batch.specs.Running.{acted}
use Rattle.batch.specs.Shows.{ShowsRun, ShowsHandler, ShowsTried}
use Rattle.batch.specs.declared.record.Record.{Record}
use Rattle.batch.specs.declared.tree.Subaction.{Subaction, out-Subaction}
use Rattle.batch.specs.declared.tried.Tried as executed
use Rattle.batch.proofs.ViewLemmas.{subaction_view-body}
use Rattle.batch.proofs.PartTried.{IsUndone, tried-committed, tried-aborted}
use Rattle.one_thread.specs.Journaled.{Journaled, rewound}
use Rattle.one_thread.specs.Running.{in_place}
use Rattle.one_thread.proofs.InPlace.{ground, undone}

-- a body that was run
module _ (child : Subaction) (held : List Held) (before mid : Journaled) (body : Record)
    (shows : ShowsRun in_place (one (block_view (out-Subaction child).body) held before.state) body before mid) where
  body_shows : ShowsRun in_place (one (subaction_view child).body held before.state) body before mid
  body_shows = subst (λ b. ShowsRun in_place (one b held before.state) body before mid) (sym (subaction_view-body child)) shows

  -- it ended
  pub body_ended : (done : executed.Tried) → body.outcome ≡ Ended → done.body ≡ body → done.handler ≡ None → done.end ≡ Ended
      → ShowsTried in_place (subaction_view child) (acted (subaction_view child) held before.state) done before mid
  body_ended done ends body_is handler_is end_is =
      tried-committed ground (subaction_view child) held before mid body done body_shows ends body_is handler_is end_is

  -- it aborted, and its changes were taken back
  module _ (next : Journaled) (mark : ℕ) (at : mark ≡ length before.journal) (is : next ≡ rewound mid mark) where
    body_undone : IsUndone in_place (one (subaction_view child).body held before.state) body before next
    body_undone = undone (one (subaction_view child).body held before.state) before mid next body mark body_shows at is

    pub abort_handled : (now : Journaled) (reason : Option ℕ) (handler : Option Record) (how : End) (done : executed.Tried)
        → body.outcome ≡ Aborted reason
        → ShowsHandler in_place (one_handler (subaction_view child).handlers held reason next.state) handler how next now
        → done.body ≡ body → done.handler ≡ handler → done.end ≡ how
        → ShowsTried in_place (subaction_view child) (acted (subaction_view child) held before.state) done before now
    abort_handled now reason handler how done ends shows_handler body_is handler_is end_is =
        tried-aborted ground (subaction_view child) held before next now body reason handler how done body_undone ends shows_handler
        body_is handler_is end_is
