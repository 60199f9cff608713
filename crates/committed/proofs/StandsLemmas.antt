-- Which entries stand past a part of a list.
use Rattle.std.proofs.Common.{◌≡◌, ℕ, suc, zero, ◌-◌, ◌<◌, ◌≤◌, arith, Bool, true, false, Option, None, List, [], ◌∷◌, length, drop, take}
use Rattle.std.proofs.Common.{get_or, refl, sym, subst, inl, inr}
use Rattle.std.proofs.lemmas.List.{get_or-take, length-take, length-drop}
use Rattle.std.specs.Prelude.{slice_range, if◌then◌else◌}
use Rattle.atoms.specs.declared.item.Item.{Item}
use Rattle.objects.specs.declared.entry.Entry.{Entry}
use Rattle.objects.specs.Entries.{CommutesWith, CommuteForward}
use Rattle.conflicts.specs.declared.classes.Class.{Class}
use Rattle.committed.specs.declared.heading.Heading.{Heading}
use Rattle.committed.specs.declared.index.Index.{Index}
use Rattle.conflicts.specs.Classes.{class_of, is_by_item}
use Rattle.committed.specs.Headings.{heading_against}
use Rattle.conflicts.specs.Items.{operation_item, is_compared}
use Rattle.committed.specs.Index.{IsLinked, IsListed}
use Rattle.committed.proofs.FilterLemmas.{same_item, same_object}

-- of two entries that commute one after the other, each does
pub commute_turned : (p q : Entry) → CommuteForward p q → CommuteForward q p
commute_turned p q h v legal_q legal_p = let both = h v legal_p legal_q in
    record { first = both.second; second = both.first; same = sym both.same }

-- an entry that commutes with each one of a list
pub all_commute : (e : Entry) (xs : List Entry) → ((n : ℕ) → n < length xs → CommuteForward e (get_or xs n e)) → CommutesWith e xs
all_commute e [] h = tt
all_commute e (x ∷ xs) h = (h 0 (omega arith), all_commute e xs (λ n l. h (suc n) (omega arith)))

-- commutes with each
pub one_commutes : (e : Entry) (xs : List Entry) (n : ℕ) → n < length xs → CommutesWith e xs → CommuteForward e (get_or xs n e)
one_commutes e [] n l h = absurd (omega arith)
one_commutes e (x ∷ xs) zero l h = h.0
one_commutes e (x ∷ xs) (suc n) l h = one_commutes e xs n (omega arith) h.1

-- how long a range is
pub length-range : {A : Type 0} (xs : List A) (a b : ℕ) → b ≤ length xs → length (slice_range xs a b) ≡ b - a
length-range xs a b h = omega (arith, length-take (b - a) (drop a xs), length-drop a xs)

-- an entry that commutes with each of the first ones stands past them
pub all_first : (e : Entry) (es : List Entry) (upto : ℕ) → upto ≤ length es → ((k : ℕ) → k < upto → CommuteForward e (get_or es k e))
    → CommutesWith e (take upto es)
all_first e es upto within h = all_commute e (take upto es) (λ n l.
    let before : n < upto = omega (arith, length-take upto es) in
    subst (CommuteForward e) (sym (get_or-take upto es n e before)) (h n before))

-- an entry that commutes with the first ones commutes with each of them
pub each_first : (e : Entry) (es : List Entry) (upto : ℕ) → upto ≤ length es → CommutesWith e (take upto es) → (k : ℕ) → k < upto
    → CommuteForward e (get_or es k e)
each_first e es upto within h k before =
    subst (CommuteForward e) (get_or-take upto es k e before) (one_commutes e (take upto es) k (omega (arith, length-take upto es)) h)

-- what an entry is compared with is linked where it looks for the class
pub linked_against : (index : Index) (p q : Entry) (k : ℕ) → is_compared p q ≡ true → IsListed index k q
    → IsLinked index k (heading_against p (class_of q.call q.reply))
linked_against index p q k compared listed = by_class (is_by_item class) refl
  where
    class : Class
    class = class_of q.call q.reply

    IsUnder : ℕ → Option Item → Type 0
    IsUnder o i = (let heading : Heading = record { object = o; item = i; class = class } in IsLinked index k heading)

    by_object : IsUnder p.object None
    by_object = subst (λ o. IsUnder o None) (same_object p q compared) listed.0

    by_class : (b : Bool) → is_by_item class ≡ b → IsUnder p.object (if b then operation_item p.call p.reply else None)
    by_class true of_item = elim (same_item p q compared of_item) [
      | inl none ↦ subst (IsUnder p.object) (sym none) by_object
      | inr same ↦ subst (IsUnder p.object) same
          (subst (λ o. IsUnder o (operation_item q.call q.reply)) (same_object p q compared) listed.1)
    ]
    by_class false of_object = by_object
