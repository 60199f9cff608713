-- What takes an abort is what the handlers say.
use Rattle.std.proofs.Common.{◌≡◌, ℕ, Bool, true, false, cond, List, [], ◌∷◌, map, refl, sym, ap, subst, ◌∙◌, arith}
use Rattle.std.proofs.Common.{Option, Some, None}
use Rattle.std.specs.Prelude.{option_map}
use Rattle.std.specs.Option.{option_or}
use Rattle.std.specs.List.{find}
use Rattle.meaning.specs.declared.end.End.{End}
use Rattle.meaning.specs.declared.held.Held.{Held}
use Rattle.objects.specs.Entries.{State}
use Rattle.meaning.specs.Trees as meant
use Rattle.meaning.specs.Trees.{Handlers, ForReason, GoOn, Pass, for_reasons}
use Rattle.meaning.specs.Records.{TakenHandler}
use Rattle.meaning.specs.OneThread.{Execution, is_for, one, one_handler, choose_handler}
use Rattle.batch.specs.Views.{block_view, handler_view, subaction_view, otherwise_view}
use Rattle.batch.specs.Running.{CanRunHere, CanHandleHere}
use Rattle.batch.specs.Taking.{first_of, taker, untaken, taken_by}
use Rattle.batch.specs.declared.tree.Handler.{Handler}
use Rattle.batch.specs.declared.tree.Otherwise as otherwise
use Rattle.batch.specs.declared.tree.Subaction.{Subaction, out-Subaction}
use Rattle.batch.proofs.ViewLemmas.{handler_view-is, subaction_view-handlers}

-- ---- what runs

one_of-first : (takes : Bool) (block : meant.Block) (others : Option meant.Block) (end : End) (held : List Held) (state : State)
    (rest : State → Execution TakenHandler) → rest state ≡ taken_by others end held state
    → choose_handler takes (one block held) rest state ≡ taken_by (first_of takes block others) end held state
one_of-first true block others end held state rest is = refl
one_of-first false block others end held state rest is = is

pub handled-is : (handlers : Handlers) (held : List Held) (reason : Option ℕ) (state : State)
    → one_handler handlers held reason state ≡ taken_by (taker handlers reason) (untaken handlers reason) held state
unfolding one
handled-is (ForReason for block others) held reason state =
    one_of-first (is_for for reason) block (taker others reason) (untaken others reason) held state (one_handler others held reason)
    (handled-is others held reason state)
handled-is (meant.Otherwise block) held reason state = refl
handled-is GoOn held reason state = refl
handled-is Pass held reason state = refl

-- ---- and it can be run

can_first : (takes : Bool) (block taking : meant.Block) (others : Option meant.Block) (held : List Held) (state : State)
    → CanRunHere block held state → (Some taking ≡ others → CanRunHere taking held state)
    → Some taking ≡ first_of takes block others → CanRunHere taking held state
can_first true block taking others held state here there is =
    let same : block ≡ taking = cc in subst (λ b. CanRunHere b held state) same here
can_first false block taking others held state here there is = there is

pub taker_can_run : (handlers : Handlers) (taking : meant.Block) (held : List Held) (reason : Option ℕ) (state : State)
    → CanHandleHere handlers held state → Some taking ≡ taker handlers reason → CanRunHere taking held state
taker_can_run (ForReason for block others) taking held reason state h is =
    let here : CanRunHere block held state =
    record { labels = h.labels; held_by = h.held_by; well_formed = h.well_formed.0; room = omega (arith, h.room) } in
    let there : CanHandleHere others held state =
    record { labels = h.labels; held_by = h.held_by; well_formed = h.well_formed.1; room = omega (arith, h.room) } in
    can_first (is_for for reason) block taking (taker others reason) held state here
    (taker_can_run others taking held reason state there) is
taker_can_run (meant.Otherwise block) taking held reason state h is =
    let same : block ≡ taking = cc in
    subst (λ b. CanRunHere b held state) same
    (record { labels = h.labels; held_by = h.held_by; well_formed = h.well_formed; room = h.room })
taker_can_run GoOn taking held reason state h is = absurd cc
taker_can_run Pass taking held reason state h is = absurd cc

-- ---- the handlers of a subaction

abbrev is_for_it : Option ℕ → Handler → Bool
is_for_it reason handler = is_for handler.reason reason

abbrev found_or : Option Handler → Option meant.Block → Option meant.Block
found_or found last = option_or (option_map (λ (h : Handler). block_view h.block) found) last

taker-first : (takes : Bool) (x : Handler) (found : Option Handler) (others last : Option meant.Block)
    → others ≡ found_or found last → first_of takes (block_view x.block) others ≡ found_or (cond takes (Some x) found) last
taker-first true x found others last is = refl
taker-first false x found others last is = is

taker-by_reason : (by_reason : List Handler) (last : Handlers) (reason : Option ℕ)
    → taker (for_reasons (map handler_view by_reason) last) reason ≡ found_or (find (is_for_it reason) by_reason) (taker last reason)
taker-by_reason [] last reason = refl
taker-by_reason (x ∷ by_reason) last reason =
    let others : Handlers = for_reasons (map handler_view by_reason) last in
    ap (λ p. taker (ForReason p.0 p.1 others) reason) (handler_view-is x)
    ∙ taker-first (is_for x.reason reason) x (find (is_for_it reason) by_reason) (taker others reason) (taker last reason)
    (taker-by_reason by_reason last reason)

-- the first handler for the reason, or else what is otherwise
pub taker-is : (child : Subaction) (reason : Option ℕ) (found : Option Handler)
    → found ≡ find (λ (h : Handler). is_for h.reason reason) (out-Subaction child).handlers.items
    → taker (subaction_view child).handlers reason ≡ found_or found (taker (otherwise_view (out-Subaction child).otherwise) reason)
taker-is child reason found is =
    let last : Handlers = otherwise_view (out-Subaction child).otherwise in
    ap (λ h. taker h reason) (subaction_view-handlers child) ∙ taker-by_reason (out-Subaction child).handlers.items last reason
    ∙ ap (λ f. found_or f (taker last reason)) (sym is)

-- what runs otherwise takes an abort that no handler does
pub taker-otherwise : (child : Subaction) (reason : Option ℕ)
    → None ≡ find (λ (h : Handler). is_for h.reason reason) (out-Subaction child).handlers.items
    → (here : otherwise.Otherwise) → (out-Subaction child).otherwise ≡ here
    → (last : Handlers) → otherwise_view here ≡ last
    → taker last reason ≡ taker (subaction_view child).handlers reason
taker-otherwise child reason none here is last view =
    sym (taker-is child reason None none ∙ ap (λ o. taker (otherwise_view o) reason) is ∙ ap (λ h. taker h reason) view)

untaken-last : (by_reason : List (ℕ × meant.Block)) (last : Handlers) (reason : Option ℕ)
    → untaken (for_reasons by_reason last) reason ≡ untaken last reason
untaken-last [] last reason = refl
untaken-last (x ∷ by_reason) last reason = untaken-last by_reason last reason

pub untaken-is : (child : Subaction) (reason : Option ℕ)
    → untaken (subaction_view child).handlers reason ≡ untaken (otherwise_view (out-Subaction child).otherwise) reason
untaken-is child reason =
    let last : Handlers = otherwise_view (out-Subaction child).otherwise in
    ap (λ h. untaken h reason) (subaction_view-handlers child)
    ∙ untaken-last (map handler_view (out-Subaction child).handlers.items) last reason
