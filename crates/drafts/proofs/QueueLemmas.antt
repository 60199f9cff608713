-- Queues that differ from a borrowed one at their ends: one more change.
use Rattle.std.proofs.Common.{◌≡◌, ℕ, zero, suc, ◌+◌, ◌-◌, ◌<◌, ◌≤◌, arith, List, [], ◌∷◌, ◌++◌, length, drop, refl, sym, ap, ◌∙◌, subst}
use Rattle.std.proofs.Common.{length-append, append_assoc, add-one}
use Rattle.std.proofs.Math.Nat.{zero-sub, sub-zero}
use Rattle.std.specs.Prelude.{slice_get, IsSome}
use Rattle.std.proofs.lemmas.List.{drop-append-le}
use Rattle.atoms.proofs.QueueLemmas.{queue_takes_back}
use Rattle.atoms.specs.declared.item.Item.{Item}
use Rattle.atoms.specs.declared.queue.QueueCall.TheVariants.{Enq}
use Rattle.drafts.specs.declared.queue_draft.QueueDraftChange.{QueueDraftChange}
use Rattle.drafts.specs.declared.queue_draft.QueueDraftChange.TheVariants.{Enqueued, Dequeued}
use Rattle.drafts.specs.History.{changed, journaled, seen_as}
use Rattle.drafts.specs.Queues.{Ends, between, queue_back, AreWithin}
use Rattle.drafts.proofs.HistoryLemmas.{journaled_more}

-- the ends by their parts
abbrev pub ends_at : ℕ → List Item → Ends
ends_at taken added = record { taken = taken; added = added }

pub within_now : (lent : List Item) (ends : Ends) (journal : List QueueDraftChange) → AreWithin lent ends journal
    → ends.taken ≤ length lent + length ends.added
within_now lent ends [] h = h
within_now lent ends (change ∷ journal) h = h.0

-- an item more at the end
pub within_enqueued : (lent added pushed : List Item) (taken : ℕ) (x : Item) (journal grown : List QueueDraftChange)
    → AreWithin lent (ends_at taken added) journal
    → pushed ≡ added ++ x ∷ [] → grown ≡ Enqueued ∷ journal → AreWithin lent (ends_at taken pushed) grown
within_enqueued lent added pushed taken x journal grown h is more =
    let now = within_now lent (ends_at taken added) journal h in
    let size : length (added ++ x ∷ []) ≡ length added + 1 = length-append added (x ∷ []) in
    let all : AreWithin lent (ends_at taken (added ++ x ∷ [])) (Enqueued ∷ journal) =
    (omega arith, subst (λ xs. AreWithin lent (ends_at taken xs) journal) (sym (queue_takes_back added (Enq x))) h) in
    subst (λ xs. AreWithin lent (ends_at taken xs) grown) (sym is) (subst (AreWithin lent (ends_at taken (added ++ x ∷ []))) (sym more) all)

pub history_enqueued : (lent added pushed : List Item) (taken : ℕ) (x : Item) (journal grown : List QueueDraftChange)
    → AreWithin lent (ends_at taken added) journal
    → pushed ≡ added ++ x ∷ [] → grown ≡ Enqueued ∷ journal
    → seen_as (between lent) (journaled queue_back (ends_at taken pushed) grown)
    ≡ changed (seen_as (between lent) (journaled queue_back (ends_at taken added) journal)) (between lent (ends_at taken added) ++ x ∷ [])
history_enqueued lent added pushed taken x journal grown h is more =
    let old = journaled queue_back (ends_at taken added) journal in
    let now = within_now lent (ends_at taken added) journal h in
    let within : taken ≤ length (lent ++ added) = omega (arith, length-append lent added) in
    let end : between lent (ends_at taken (added ++ x ∷ [])) ≡ between lent (ends_at taken added) ++ x ∷ [] =
    ap (drop taken) (sym (append_assoc lent added (x ∷ []))) ∙ drop-append-le taken (lent ++ added) (x ∷ []) within in
    ap (λ xs. seen_as (between lent) (journaled queue_back (ends_at taken xs) grown)) is
    ∙ ap (λ js. seen_as (between lent) (journaled queue_back (ends_at taken (added ++ x ∷ [])) js)) more
    ∙ ap (seen_as (between lent)) (journaled_more queue_back (ends_at taken added) (ends_at taken (added ++ x ∷ [])) Enqueued journal
    (ap (ends_at taken) (queue_takes_back added (Enq x))))
    ∙ ap (changed (seen_as (between lent) old)) end

-- an item less at the front
pub some_left : (xs : List Item) (n : ℕ) → IsSome (slice_get (drop n xs) 0) → n < length xs
some_left [] zero h = cc
some_left [] (suc n) h = cc
some_left (x ∷ xs) zero h = omega arith
some_left (x ∷ xs) (suc n) h = let rest = some_left xs n h in omega arith

drop_one_more : (n : ℕ) (xs : List Item) → drop (n + 1) xs ≡ drop 1 (drop n xs)
drop_one_more n xs = rw add-one (step n xs)
  where
    step : (m : ℕ) (ys : List Item) → drop (suc m) ys ≡ drop 1 (drop m ys)
    step zero ys = refl
    step (suc m) [] = refl
    step (suc m) (y ∷ ys) = step m ys

pub within_dequeued : (lent added : List Item) (taken : ℕ) (journal grown : List QueueDraftChange)
    → AreWithin lent (ends_at taken added) journal
    → IsSome (slice_get (between lent (ends_at taken added)) 0) → grown ≡ Dequeued taken ∷ journal
    → AreWithin lent (ends_at (taken + 1) added) grown
within_dequeued lent added taken journal grown h some more =
    let left = some_left (lent ++ added) taken some in
    let all : AreWithin lent (ends_at (taken + 1) added) (Dequeued taken ∷ journal) = (omega (arith, length-append lent added), h) in
    subst (AreWithin lent (ends_at (taken + 1) added)) (sym more) all

pub history_dequeued : (lent added : List Item) (taken : ℕ) (journal grown : List QueueDraftChange) → grown ≡ Dequeued taken ∷ journal
    → seen_as (between lent) (journaled queue_back (ends_at (taken + 1) added) grown)
    ≡ changed (seen_as (between lent) (journaled queue_back (ends_at taken added) journal)) (drop 1 (between lent (ends_at taken added)))
history_dequeued lent added taken journal grown more =
    let old = journaled queue_back (ends_at taken added) journal in
    ap (λ js. seen_as (between lent) (journaled queue_back (ends_at (taken + 1) added) js)) more
    ∙ ap (changed (seen_as (between lent) old)) (drop_one_more taken (lent ++ added))

-- what is left of the borrowed items and of those that came
pub between_parts : (lent added : List Item) (taken : ℕ) → between lent (ends_at taken added) ≡ drop taken lent ++ drop
    (taken - length lent) added
between_parts lent added zero = rw zero-sub refl
between_parts [] added (suc n) = rw sub-zero refl
between_parts (x ∷ lent) added (suc n) = between_parts lent added n ∙ ap (λ m. drop n lent ++ drop m added) (omega arith)
