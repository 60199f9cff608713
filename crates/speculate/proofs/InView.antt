-- A view is what a block can be run on.
use Rattle.std.proofs.Common.{◌≡◌, List, ap, subst, ◌∙◌}
use Rattle.meaning.specs.declared.held.Held.{Held}
use Rattle.meaning.specs.OneThread.{one, record_of}
use Rattle.meaning.specs.Records.{entries, kept}
use Rattle.batch.specs.Grounds.{IsGround}
use Rattle.batch.specs.Shows.{ShowsRun}
use Rattle.batch.specs.Views.{Tried}
use Rattle.batch.specs.declared.record.Record.{Record}
use Rattle.batch.proofs.PartTried.{IsUndone}
use Rattle.intentions.specs.Levels.{Intentions as View, shown_values, begun, committed, aborted, absorbed}
use Rattle.speculate.specs.Running.{in_view}
use Rattle.speculate.proofs.Absorbed.{absorbed-none, absorbed-then, shown-absorbed, shown-begun, committed-begun, aborted-begun}

pub ground : IsGround in_view
ground = record {
  none = absorbed-none;
  both = λ u v w es ns fs ms first second. second ∙ ap (λ x. absorbed x fs ms) first ∙ absorbed-then u es ns fs ms;
  leads = λ u v es ns took. ap shown_values took ∙ shown-absorbed u es ns;
}

-- the run of a body in a level of its own is that on what the parent shows
in_level : (child : Tried) (held : List Held) (before mid : View) (body : Record)
    → ShowsRun in_view (one child.body held (shown_values (begun before))) body (begun before) mid
    → ShowsRun in_view (one child.body held (shown_values before)) body (begun before) mid
in_level child held before mid body shows = subst (λ s. ShowsRun in_view (one child.body held s) body (begun before) mid)
    (shown-begun before) shows

-- a level that is committed
pub committed_level : (child : Tried) (held : List Held) (before mid now : View) (body : Record)
    → ShowsRun in_view (one child.body held (shown_values (begun before))) body (begun before) mid → now ≡ committed mid
    → ShowsRun in_view (one child.body held (shown_values before)) body before now
committed_level child held before mid now body shows_there is =
    let shows = in_level child held before mid body shows_there in
    record { tree = shows.tree; end = shows.end; took = is ∙ ap committed shows.took ∙ committed-begun before _ _ }

-- a level that is aborted
pub aborted_level : (child : Tried) (held : List Held) (before mid next : View) (body : Record)
    → ShowsRun in_view (one child.body held (shown_values (begun before))) body (begun before) mid → next ≡ aborted mid
    → IsUndone in_view (one child.body held (shown_values before)) body before next
aborted_level child held before mid next body shows_there is =
    let shows = in_level child held before mid body shows_there in
    let run = one child.body held (shown_values before) in
    record {
      tree = shows.tree;
      end = shows.end;
      took = is ∙ ap aborted shows.took ∙ aborted-begun before (entries (record_of run))
          (kept (record_of run));
    }
