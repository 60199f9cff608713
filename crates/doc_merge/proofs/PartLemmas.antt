-- The blocks of ranges, one range after the other.
use Rattle.std.proofs.Common.{◌≡◌, ℕ, zero, suc, ◌<◌, List, [], ◌∷◌, ◌++◌, drop, length, map, take, get_or, refl, sym, ap, ◌∙◌}
use Rattle.std.proofs.Common.{append_assoc, append-nil, subst, arith}
use Rattle.std.specs.Prelude.{Option, Some, None, IsSome, IfOk, Ok, Result, option_to_list, unwrap_or}
use Rattle.batch.specs.declared.tree.Block.{Block as Transaction}
use Rattle.std.proofs.lemmas.List.{length-map}
use Rattle.std.proofs.Math.Seq.{take-append_seam}
use Rattle.batch.specs.Views.{block_view}
use Rattle.doc_merge.specs.Parts.{AreNew, AreParts, blocks_in, renumbered_part, renumbered_parts}
use Rattle.doc_merge.specs.declared.parts.Part.{Part}

-- one range more
pub one_more : (parts : List Part) (part : Part) → renumbered_parts (parts ++ part ∷ []) ≡ renumbered_parts parts ++ renumbered_part part
one_more [] part = append-nil (renumbered_part part)
one_more (first ∷ parts) part =
    ap (λ blocks. renumbered_part first ++ blocks) (one_more parts part)
    ∙ sym (append_assoc (renumbered_part first) (renumbered_parts parts) (renumbered_part part))

-- ranges that are renumbered, each at its place
pub all_renumbered : (old new : List Part) → length new ≡ length old
    → ((i : ℕ) (d : Part) → i < length old → map block_view (get_or new i d).blocks.items ≡ renumbered_part (get_or old i d))
    → blocks_in new ≡ renumbered_parts old
all_renumbered [] [] size each = refl
all_renumbered [] (part ∷ new) size each = absurd (omega (arith, size))
all_renumbered (part ∷ old) [] size each = absurd (omega (arith, size))
all_renumbered (part ∷ old) (now ∷ new) size each =
    let here = each 0 part (omega arith) in
    let rest = all_renumbered old new (omega (arith, size)) (λ i d below. each (suc i) d (omega (arith, below))) in
    λ i. here i ++ rest i

-- a list in whose memory another of its length was put
pub in_place : {A : Type 0} (n : ℕ) (old new : List A) → n ≡ length new → take n (new ++ drop (length new) old) ≡ new
in_place n old new size = ap (λ k. take k (new ++ drop (length new) old)) size ∙ take-append_seam new (drop (length new) old)

-- what an iterator gives, where it gives something
pub next_is : {A : Type 0} (o : Option A) (d : A) (old new : List A) → IsSome o → old ≡ option_to_list o ++ new
    → old ≡ unwrap_or o d ∷ new
next_is None d old new some is = cc
next_is (Some x) d old new some is = is

-- the parts of no range
pub parts_none : (ranges : List (List Transaction)) (items reasons : List (List ℕ)) → ranges ≡ [] → AreParts ranges items reasons []
parts_none ranges items reasons none = subst (λ r. AreParts r items reasons []) (sym none) tt

-- the part of a range, before those of the others
pub parts_next : (ranges : List (List Transaction)) (items reasons : List (List ℕ)) (blocks : List Transaction)
    (others : List (List Transaction)) (is rs : List ℕ) (other_items other_reasons : List (List ℕ)) (part : Part) (more : List Part)
    → ranges ≡ blocks ∷ others → items ≡ is ∷ other_items → reasons ≡ rs ∷ other_reasons → part.blocks.items ≡ blocks
    → AreNew part.numbers.items.items is → AreNew part.numbers.reasons.items rs → AreParts others other_items other_reasons more
    → AreParts ranges items reasons (part ∷ more)
parts_next ranges items reasons blocks others is rs other_items other_reasons part more first second third same own_items own_reasons rest =
    subst (λ r. AreParts r items reasons (part ∷ more)) (sym first)
    (subst (λ i. AreParts (blocks ∷ others) i reasons (part ∷ more)) (sym second)
    (subst (λ r. AreParts (blocks ∷ others) (is ∷ other_items) r (part ∷ more)) (sym third) (same, own_items, own_reasons, rest)))

-- what holds of each value that is there, at its place
at_value : {A B E : Type 0} (f : A → B) (P : B → Type 0) (xs : List A) (i : ℕ) (none : B) → i < length xs
    → ((d : Result A E) → IfOk (get_or (map Ok xs) i d) (λ x. P (f x))) → P (get_or (map f xs) i none)
at_value f P [] i none below each = absurd (omega (arith, below))
at_value f P (x ∷ xs) zero none below each = each (Ok x)
at_value f P (x ∷ xs) (suc i) none below each = at_value f P xs i none (omega (arith, below)) each

-- the same, of results that are these values
pub ok_at : {A B E : Type 0} (f : A → B) (P : B → Type 0) (xs : List A) (rs : List (Result A E)) (i : ℕ) (none : B) → map Ok xs ≡ rs
    → i < length xs → ((d : Result A E) → (r : Result A E) × (r ≡ get_or rs i d) × IfOk r (λ x. P (f x))) → P (get_or (map f xs) i none)
ok_at f P xs rs i none all below each = at_value f P xs i none below (λ d.
    let one = each d in
    subst (λ r. IfOk r (λ x. P (f x))) (one.1 ∙ ap (λ l. get_or l i d) (sym all)) one.2)

-- as many results as there are values
pub as_many : {A E : Type 0} (xs : List A) (rs : List (Result A E)) → map Ok xs ≡ rs → length xs ≡ length rs
as_many xs rs all = sym (length-map xs Ok) ∙ ap length all
