-- What handlers show.
use Rattle.std.proofs.Common.{◌≡◌, ℕ, List, refl, sym, ap, subst, ◌∙◌, Option, Some, None}
use Rattle.meaning.specs.declared.end.End.{End}
use Rattle.meaning.specs.declared.held.Held.{Held}
use Rattle.meaning.specs.Trees.{Block, Handlers}
use Rattle.meaning.specs.Records.{TakenHandler}
use Rattle.meaning.specs.OneThread.{Execution, as_handler, one, one_handler}
use Rattle.batch.specs.declared.record.Record.{Record}
use Rattle.batch.specs.Taking.{taker, untaken, taken_by}
use Rattle.batch.proofs.Handling.{handled-is}
use Rattle.batch.specs.Grounds.{Ground, IsGround}
use Rattle.batch.specs.Shows.{ShowsRun, ShowsHandler}

module _ {V : Type 0} {g : Ground V} (on : IsGround g) where
  -- what takes the abort shows what its block does
  pub shows_taker : (handlers : Handlers) (block : Block) (held : List Held) (reason : Option ℕ) (done : Record) (end : End)
      (before now : V)
      → Some block ≡ taker handlers reason → ShowsRun g (one block held (g.state before)) done before now → end ≡ done.outcome
      → ShowsHandler g (one_handler handlers held reason (g.state before)) (Some done) end before now
  shows_taker handlers block held reason done end before now takes shows is =
      let handler : Execution TakenHandler = as_handler (one block held (g.state before)) in
      let ran : ShowsHandler g handler (Some done) end before now =
      record { tree = ap Some shows.tree; end = is ∙ shows.end; took = shows.took } in
      let state = g.state before in
      let how = handled-is handlers held reason state ∙ ap (λ b. taken_by b (untaken handlers reason) held state) (sym takes) in
      subst (λ r. ShowsHandler g r (Some done) end before now) (sym how) ran

  -- where nothing takes the abort, nothing is taken in
  pub shows_none : (handlers : Handlers) (held : List Held) (reason : Option ℕ) (before : V) (end : End)
      → None ≡ taker handlers reason → end ≡ untaken handlers reason
      → ShowsHandler g (one_handler handlers held reason (g.state before)) None end before before
  shows_none handlers held reason before end none is =
      let nothing : Execution TakenHandler = taken_by None (untaken handlers reason) held (g.state before) in
      let shows : ShowsHandler g nothing None end before before = record { tree = refl; end = is; took = on.none before } in
      let state = g.state before in
      let how = handled-is handlers held reason state ∙ ap (λ b. taken_by b (untaken handlers reason) held state) (sym none) in
      subst (λ r. ShowsHandler g r None end before before) (sym how) shows
