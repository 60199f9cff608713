-- The place of what takes an abort.
use Rattle.std.proofs.Common.{◌≡◌, ℕ, Bool, true, false, cond, List, [], ◌∷◌, ◌++◌, map, refl, sym, ap, ◌∙◌, Option, Some, None}
use Rattle.std.specs.Prelude.{codes}
use Rattle.std.specs.List.{find}
use Rattle.meaning.specs.Trees as meant
use Rattle.meaning.specs.Trees.{Handlers, ForReason, NoStep, for_reasons}
use Rattle.meaning.specs.Words.{Naming}
use Rattle.meaning.specs.Texts.{handler_path, handler_block, pick}
use Rattle.meaning.specs.OneThread.{is_for}
use Rattle.batch.specs.Views.{block_view, handler_view, otherwise_view, subaction_view}
use Rattle.batch.specs.declared.tree.Block.{Block}
use Rattle.batch.specs.declared.tree.Handler.{Handler}
use Rattle.batch.specs.declared.tree.Otherwise.{Run, GoOn, Pass}
use Rattle.batch.specs.declared.tree.Subaction.{Subaction, out-Subaction}
use Rattle.batch.proofs.ViewLemmas.{handler_view-is, otherwise_view-Run, otherwise_view-GoOn, otherwise_view-Pass, subaction_view-handlers}
use Rattle.report.specs.Paths.{handler_place}

module _ (names : Naming) (path : List ℕ) (reason : Option ℕ) where
  abbrev found_place : Option Handler → Handlers → List ℕ × meant.Block
  found_place None last = handler_place names path reason last
  found_place (Some found) last = (path ++ codes ".h:" ++ names.reason found.reason, block_view found.block)

  abbrev first_place : Bool → Handler → Handlers → List ℕ × meant.Block
  first_place takes x others =
      let first_path : List ℕ = path ++ codes ".h:" ++ names.reason x.reason in
      (pick takes first_path (handler_path names path others reason), pick takes (block_view x.block) (handler_block others reason))

  first-is : (takes : Bool) (x : Handler) (found : Option Handler) (others last : Handlers)
      → handler_place names path reason others ≡ found_place found last
      → first_place takes x others ≡ found_place (cond takes (Some x) found) last
  first-is true x found others last is = refl
  first-is false x found others last is = is

  abbrev first_of : List Handler → Option Handler
  first_of by_reason = find (λ (h : Handler). is_for h.reason reason) by_reason

  by_reason-is : (by_reason : List Handler) (last : Handlers)
      → handler_place names path reason (for_reasons (map handler_view by_reason) last) ≡ found_place (first_of by_reason) last
  by_reason-is [] last = refl
  by_reason-is (x ∷ by_reason) last =
      let others : Handlers = for_reasons (map handler_view by_reason) last in
      ap (λ p. handler_place names path reason (ForReason p.0 p.1 others)) (handler_view-is x)
      ∙ first-is (is_for x.reason reason) x (first_of by_reason) others last (by_reason-is by_reason last)

  module _ (child : Subaction) where
    abbrev last_of : Handlers
    last_of = otherwise_view (out-Subaction child).otherwise

    -- the first handler for the reason, or else what is otherwise
    pub handler_place-is : (found : Option Handler) → found ≡ first_of (out-Subaction child).handlers.items
        → handler_place names path reason (subaction_view child).handlers ≡ found_place found last_of
    handler_place-is found is =
        ap (handler_place names path reason) (subaction_view-handlers child) ∙ by_reason-is (out-Subaction child).handlers.items last_of
        ∙ ap (λ f. found_place f last_of) (sym is)

    pub otherwise_place-Run : (block : Block) → (out-Subaction child).otherwise ≡ Run block
        → handler_place names path reason last_of ≡ (path ++ codes ".h", block_view block)
    otherwise_place-Run block is =
        ap (λ o. handler_place names path reason (otherwise_view o)) is ∙ ap (handler_place names path reason) (otherwise_view-Run block)

    pub otherwise_block-GoOn : (out-Subaction child).otherwise ≡ GoOn → handler_block last_of reason ≡ NoStep
    otherwise_block-GoOn is =
        ap (λ o. handler_block (otherwise_view o) reason) is ∙ ap (λ h. handler_block h reason) otherwise_view-GoOn

    pub otherwise_block-Pass : (out-Subaction child).otherwise ≡ Pass → handler_block last_of reason ≡ NoStep
    otherwise_block-Pass is =
        ap (λ o. handler_block (otherwise_view o) reason) is ∙ ap (λ h. handler_block h reason) otherwise_view-Pass
