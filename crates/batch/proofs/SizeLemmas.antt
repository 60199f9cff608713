-- What is inside of a block or a subaction is smaller than that.
use Rattle.std.proofs.Common.{◌≡◌, ℕ, ◌<◌, ◌≤◌, List, length, get_or, sym, subst, Vec, Global, arith, rules}
use denote.Param.Weighed.{most, at_most}
use Rattle.batch.specs.declared.tree.Block.{Block, size-Block, size_is-Block}
use Rattle.batch.specs.declared.tree.Step.{Step, Parallel, size-Step, size_is-Step}
use Rattle.batch.specs.declared.tree.Handler.{Handler, size-Handler, size_is-Handler}
use Rattle.batch.specs.declared.tree.Otherwise.{Run, size-Otherwise, size_is-Otherwise, the_lemmas}
use Rattle.batch.specs.declared.tree.Subaction.{Subaction, out-Subaction, size-Subaction, size_is-Subaction}

-- What is in a list is no larger than its largest.
pub among-most : {X : Type 0} (size : X → ℕ) (xs : List X) (i : ℕ) (x : X) → i < length xs → x ≡ get_or xs i x → size x ≤ most size xs
among-most size xs i x lt read = subst (λ y. size y ≤ most size xs) (sym read) (at_most size xs i x lt)

pub last-is_smaller : (child : Subaction) (block : Block)
    → (out-Subaction child).otherwise ≡ Run block → size-Block block < size-Subaction child
last-is_smaller child block is =
    let inner : size-Block block < size-Otherwise (Run block) = rw (size_is-Otherwise (Run block)) (search (rules, the_lemmas)) in
    rw (size_is-Subaction child, is) (omega (arith, inner))

pub handlers-are_smaller : (child : Subaction) → most size-Handler (out-Subaction child).handlers.items < size-Subaction child
handlers-are_smaller child = rw (size_is-Subaction child) (omega arith)

pub block-is_smaller : (x : Handler) → size-Block x.block < size-Handler x
block-is_smaller x = rw (size_is-Handler x) (omega arith)

-- the steps of a block
pub steps-are_smaller : (block : Block) → most size-Step block.steps.items < size-Block block
steps-are_smaller block = rw (size_is-Block block) (omega arith)

-- the children of a parallel step
pub children-are_smaller : (step : Step) (children : Vec Subaction Global) → step ≡ Parallel children
    → most size-Subaction children.items < size-Step step
children-are_smaller step children is =
    let inner : most size-Subaction children.items < size-Step (Parallel children) = rw (size_is-Step (Parallel children))
    (search (rules, the_lemmas)) in
    subst (λ s. most size-Subaction children.items < size-Step s) (sym is) inner
