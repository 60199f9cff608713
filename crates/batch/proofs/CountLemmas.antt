-- How many operations the parts of a list have that are left.
use Rattle.std.proofs.Common.{◌≡◌, ℕ, suc, ◌+◌, ◌<◌, ◌≤◌, List, [], ◌∷◌, length, get_or, drop, map, refl, sym, ap, ◌∙◌, arith, add-one}
use Rattle.std.proofs.Common.{drop-cons}
use Rattle.std.proofs.Math.ListN.{drop_of_length-le}
use Rattle.meaning.specs.Trees as meant
use Rattle.meaning.specs.Trees.{Handlers, Pass, for_reasons}
use Rattle.meaning.specs.Running.{all_operations}
use Rattle.meaning.specs.WellFormed.{operations, operations_of_step, operations_of_handlers, operations_of_children}
use Rattle.batch.specs.Counting.{operations_of}
use Rattle.batch.specs.Views.{block_view, step_view, steps_view, handler_view, otherwise_view, subaction_view, children_view}
use Rattle.batch.specs.declared.tree.Block.{Block}
use Rattle.batch.specs.declared.tree.Step.{Step}
use Rattle.batch.specs.declared.tree.Handler.{Handler}
use Rattle.batch.specs.declared.tree.Otherwise.{Run, GoOn, Pass as Pass_by}
use Rattle.batch.specs.declared.tree.Subaction.{Subaction, out-Subaction}
use Rattle.batch.proofs.ViewLemmas.{handler_view-is, otherwise_view-Run, otherwise_view-GoOn, otherwise_view-Pass, subaction_view-body}
use Rattle.batch.proofs.ViewLemmas.{subaction_view-handlers}

-- one element of a list that is left
pub left : {X : Type 0} (xs : List X) (i : ℕ) (x : X) → i < length xs → x ≡ get_or xs i x → drop i xs ≡ x ∷ drop (i + 1) xs
left xs i x lt e = drop-cons xs i x lt ∙ ap (λ y. y ∷ drop (suc i) xs) (sym e) ∙ rw add-one refl

-- the transactions from the i-th on
pub rest_of_blocks : ℕ → List Block → ℕ
rest_of_blocks i blocks = all_operations (map block_view (drop i blocks))

pub rest_of_blocks-start : (blocks : List Block) → rest_of_blocks 0 blocks ≡ all_operations (map block_view blocks)
unfolding rest_of_blocks
rest_of_blocks-start blocks = refl

pub rest_of_blocks-more : (i : ℕ) (blocks : List Block) (x : Block) → i < length blocks → x ≡ get_or blocks i x
    → rest_of_blocks i blocks ≡ operations (block_view x) + rest_of_blocks (i + 1) blocks
unfolding rest_of_blocks
rest_of_blocks-more i blocks x lt is = ap (λ bs. all_operations (map block_view bs)) (left blocks i x lt is)

pub rest_of_blocks-end : (i : ℕ) (blocks : List Block) → length blocks ≤ i → rest_of_blocks i blocks ≡ 0
unfolding rest_of_blocks
rest_of_blocks-end i blocks le = ap (λ bs. all_operations (map block_view bs)) (drop_of_length-le blocks le)

-- the steps from the i-th on
pub rest_of_steps : ℕ → List Step → ℕ
rest_of_steps i steps = operations (steps_view (drop i steps))

pub rest_of_steps-start : (steps : List Step) → rest_of_steps 0 steps ≡ operations (steps_view steps)
unfolding rest_of_steps
rest_of_steps-start steps = refl

pub rest_of_steps-more : (i : ℕ) (steps : List Step) (x : Step) → i < length steps → x ≡ get_or steps i x
    → rest_of_steps i steps ≡ operations_of_step (step_view x) + rest_of_steps (i + 1) steps
unfolding rest_of_steps
rest_of_steps-more i steps x lt is = ap (λ ss. operations (steps_view ss)) (left steps i x lt is)

pub rest_of_steps-end : (i : ℕ) (steps : List Step) → length steps ≤ i → rest_of_steps i steps ≡ 0
unfolding rest_of_steps
rest_of_steps-end i steps le = ap (λ ss. operations (steps_view ss)) (drop_of_length-le steps le)

-- the children from the i-th on
pub rest_of_children : ℕ → List Subaction → ℕ
rest_of_children i children = operations_of_children (children_view (drop i children))

pub rest_of_children-start : (children : List Subaction) → rest_of_children 0 children ≡ operations_of_children (children_view children)
unfolding rest_of_children
rest_of_children-start children = refl

pub rest_of_children-more : (i : ℕ) (children : List Subaction) (x : Subaction) → i < length children → x ≡ get_or children i x
    → rest_of_children i children ≡ operations_of (subaction_view x) + rest_of_children (i + 1) children
unfolding rest_of_children
rest_of_children-more i children x lt is = ap (λ cs. operations_of_children (children_view cs)) (left children i x lt is)

pub rest_of_children-end : (i : ℕ) (children : List Subaction) → length children ≤ i → rest_of_children i children ≡ 0
unfolding rest_of_children
rest_of_children-end i children le = ap (λ cs. operations_of_children (children_view cs)) (drop_of_length-le children le)

-- the handlers by reason from the i-th on
pub rest_of_handlers : ℕ → List Handler → ℕ
rest_of_handlers i handlers = operations_of_handlers (for_reasons (map handler_view (drop i handlers)) Pass)

pub rest_of_handlers-start : (handlers : List Handler) → rest_of_handlers 0 handlers ≡ operations_of_handlers
    (for_reasons (map handler_view handlers) Pass)
unfolding rest_of_handlers
rest_of_handlers-start handlers = refl

pub rest_of_handlers-more : (i : ℕ) (handlers : List Handler) (x : Handler) → i < length handlers → x ≡ get_or handlers i x
    → rest_of_handlers i handlers ≡ operations (block_view x.block) + rest_of_handlers (i + 1) handlers
unfolding rest_of_handlers
rest_of_handlers-more i handlers x lt is =
    ap (λ hs. operations_of_handlers (for_reasons (map handler_view hs) Pass)) (left handlers i x lt is)
    ∙ ap (λ h. operations_of_handlers (for_reasons (h ∷ map handler_view (drop (i + 1) handlers)) Pass)) (handler_view-is x)

pub rest_of_handlers-end : (i : ℕ) (handlers : List Handler) → length handlers ≤ i → rest_of_handlers i handlers ≡ 0
unfolding rest_of_handlers
rest_of_handlers-end i handlers le = ap (λ hs. operations_of_handlers (for_reasons (map handler_view hs) Pass))
    (drop_of_length-le handlers le)

-- handlers by reason, and then others
before_others : (by_reason : List (ℕ × meant.Block)) (others : Handlers) → operations_of_handlers (for_reasons by_reason others)
    ≡ operations_of_handlers (for_reasons by_reason Pass) + operations_of_handlers others
before_others [] others = omega arith
before_others (first ∷ by_reason) others = let rest = before_others by_reason others in omega (arith, rest)

-- a subaction: its body, its handlers by reason, and what is otherwise
pub operations_of-parts : (child : Subaction) → operations_of (subaction_view child)
    ≡ operations (block_view (out-Subaction child).body)
    + operations_of_handlers (for_reasons (map handler_view (out-Subaction child).handlers.items) Pass)
    + operations_of_handlers (otherwise_view (out-Subaction child).otherwise)
operations_of-parts child =
    let by_reason = before_others (map handler_view (out-Subaction child).handlers.items)
    (otherwise_view (out-Subaction child).otherwise) in
    let handlers = ap operations_of_handlers (subaction_view-handlers child) ∙ by_reason in
    let body = ap operations (subaction_view-body child) in
    omega (arith, handlers, body)

module _ (child : Subaction) where
  abbrev otherwise_operations : ℕ
  otherwise_operations = operations_of_handlers (otherwise_view (out-Subaction child).otherwise)

  pub otherwise_operations-Run : (block : Block) → (out-Subaction child).otherwise ≡ Run block
      → otherwise_operations ≡ operations (block_view block)
  otherwise_operations-Run block is =
      ap (λ o. operations_of_handlers (otherwise_view o)) is ∙ ap operations_of_handlers (otherwise_view-Run block)

  pub otherwise_operations-GoOn : (out-Subaction child).otherwise ≡ GoOn → otherwise_operations ≡ 0
  otherwise_operations-GoOn is = ap (λ o. operations_of_handlers (otherwise_view o)) is ∙ ap operations_of_handlers otherwise_view-GoOn

  pub otherwise_operations-Pass : (out-Subaction child).otherwise ≡ Pass_by → otherwise_operations ≡ 0
  otherwise_operations-Pass is = ap (λ o. operations_of_handlers (otherwise_view o)) is ∙ ap operations_of_handlers otherwise_view-Pass
