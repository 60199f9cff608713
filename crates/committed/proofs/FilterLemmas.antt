-- What a filter has, and which entries it speaks of.
use Rattle.std.proofs.Common.{◌&&◌, ◌||◌, nat_eq, zero, suc, ◌≡◌, ◌≢◌, ◌⊎◌, ℕ, ◌-◌, ◌^◌, ◌<◌, ◌≤◌, arith, max}
use Rattle.std.proofs.Common.{Bool, true, false, List, [], ◌∷◌, ◌++◌}
use Rattle.std.proofs.Common.{length, get_or, set, refl, sym, ap, ◌∙◌, subst, inl, inr, bit_and, bit_or}
use Rattle.std.specs.Prelude.{Option, Some, None, if◌then◌else◌}
use Rattle.std.specs.Int.{bit_at}
use Rattle.std.proofs.lemmas.Bool.{cases_eq, cases_lt, eqb-true, and_parts, false≢true}
use Rattle.std.proofs.lemmas.List.{length-set, get_or-set_same, get_or-set_other, get_or_default, get_or_past}
use Rattle.std.proofs.lemmas.List.{length-append, get_or_append_left, get_or-append_right}
use Rattle.std.proofs.lemmas.Nat.Bits.{bit_at_and, bit_at_or, bit_at-lt, bit_at-pow_same, bit_at_above, bit_at_ones}
use Rattle.atoms.specs.declared.item.Item.{Item}
use Rattle.atoms.proofs.Items.{one_item}
use Rattle.objects.specs.declared.entry.Entry.{Entry}
use Rattle.conflicts.specs.declared.classes.Class.{Class}
use Rattle.conflicts.specs.declared.classes.Class.TheVariants.{Deposit}
use Rattle.committed.specs.declared.filter.Filter.{Filter}
use Rattle.conflicts.specs.Classes.{class_of, class_number, classes, conflicts_of, always_commute, is_by_item, by_item}
use Rattle.conflicts.specs.Items.{operation_item, is_same_item, is_compared}
use Rattle.committed.specs.Marks.{hash_of, mark_of}
use Rattle.committed.specs.Filter.{slot_of, HasAllIn, set_at, IsMarked, IsFilterOf, Meets}
use Rattle.objects.specs.Entries.{CommuteForward}
use Rattle.conflicts.proofs.EffectLemmas.{always_commutes, elsewhere}
use Rattle.conflicts.proofs.ClassNumbers.{class_at, number-bound}

-- ---- classes put into a set

-- the place of a set is not changed by what the sets are
same_slot : (sets : List ℕ) (slot value hash : ℕ) → slot_of (length (set sets slot value)) hash ≡ slot_of (length sets) hash
same_slot sets slot value hash = ap (λ n. slot_of n hash) (length-set sets slot value)

-- classes put into a set leave those that the sets have
pub kept_in : (sets : List ℕ) (slot old more hash want : ℕ) → slot < length sets → old ≡ get_or sets slot old
    → HasAllIn sets hash want → HasAllIn (set sets slot (bit_or old more)) hash want
kept_in sets slot old more hash want within was has n wanted =
    ap (λ at. bit_at (get_or (set sets slot (bit_or old more)) at 65535) n) (same_slot sets slot (bit_or old more) hash)
    ∙ by_place (cases_eq at slot)
  where
    at : ℕ
    at = slot_of (length sets) hash

    by_place : (at ≡ slot) ⊎ (at ≢ slot) → bit_at (get_or (set sets slot (bit_or old more)) at 65535) n ≡ 1
    by_place (inl same) =
        let read : get_or sets at 65535 ≡ old = get_or_default sets at 65535 old (subst (λ k. k < length sets) (sym same) within)
        ∙ ap (λ k. get_or sets k old) same ∙ sym was in
        let had : bit_at old n ≡ 1 = ap (λ s. bit_at s n) (sym read) ∙ has n wanted in
        ap (λ k. bit_at (get_or (set sets slot (bit_or old more)) k 65535) n) same
        ∙ ap (λ s. bit_at s n) (get_or-set_same sets slot (bit_or old more) 65535 within)
        ∙ bit_at_or old more n ∙ omega (arith, had, bit_at-lt more n)
    by_place (inr other) = ap (λ s. bit_at s n) (get_or-set_other sets slot at (bit_or old more) 65535 other) ∙ has n wanted

-- they are in their own
pub own_in : (sets : List ℕ) (slot old more hash : ℕ) → slot < length sets → slot ≡ slot_of (length sets) hash
    → HasAllIn (set sets slot (bit_or old more)) hash more
own_in sets slot old more hash within is n wanted =
    ap (λ at. bit_at (get_or (set sets slot (bit_or old more)) at 65535) n) (same_slot sets slot (bit_or old more) hash ∙ sym is)
    ∙ ap (λ s. bit_at s n) (get_or-set_same sets slot (bit_or old more) 65535 within)
    ∙ bit_at_or old more n ∙ omega (arith, wanted, bit_at-lt old n)

-- where there is no set, all are
pub all_in : (sets : List ℕ) (hash more : ℕ) → length sets ≤ slot_of (length sets) hash → more < 2 ^ 16 → HasAllIn sets hash more
all_in sets hash more past small n wanted =
    ap (λ s. bit_at s n) (get_or_past sets (slot_of (length sets) hash) 65535 past) ∙ by_place (cases_lt n 16)
  where
    by_place : (n < 16) ⊎ (16 ≤ n) → bit_at 65535 n ≡ 1
    by_place (inl low) = bit_at_ones 16 n low
    by_place (inr high) = absurd (omega (arith, wanted, bit_at_above more 16 n small high))

-- ---- the entries that a filter speaks of

-- a check of all classes, one by one
every : (Class → Bool) → List Class → Bool
every p [] = true
every p (c ∷ cs) = p c && every p cs

every_at : (p : Class → Bool) (cs : List Class) (n : ℕ) → every p cs ≡ true → n < length cs → p (get_or cs n Deposit) ≡ true
unfolding every
every_at p [] n h l = absurd (omega arith)
every_at p (c ∷ cs) zero h l = (and_parts (p c) (every p cs) h).0
every_at p (c ∷ cs) (suc n) h l = every_at p cs n (and_parts (p c) (every p cs) h).1 (omega arith)

every_class : (p : Class → Bool) (c : Class) → every p classes ≡ true → p c ≡ true
every_class p c h = subst (λ d. p d ≡ true) (class_at c) (every_at p classes (class_number c) h (number-bound c))

-- the set of conflicts has each class that one doesn't always commute with
pub conflict_bit : (c d : Class) → always_commute c d ≡ false → bit_at (conflicts_of c) (class_number d) ≡ 1
unfolding every
conflict_bit c d may = eqb-true (bit_at (conflicts_of c) (class_number d)) 1 (in_set (always_commute c d) may (every_class
    (has c) d every_pair))
  where
    has : Class → Class → Bool
    has x y = always_commute x y || nat_eq (bit_at (conflicts_of x) (class_number y)) 1

    every_pair : every (has c) classes ≡ true
    every_pair = every_class (λ x. every (has x) classes) c refl

    in_set : (b : Bool) → b ≡ false → (b || nat_eq (bit_at (conflicts_of c) (class_number d)) 1) ≡ true
        → nat_eq (bit_at (conflicts_of c) (class_number d)) 1 ≡ true
    in_set true f h = absurd (false≢true (sym f))
    in_set false f h = h

-- the classes that aren't compared by item, as a set
abbrev pub by_object : ℕ
by_object = 65535 - by_item

-- of a class that is in it, and of no other, no item is asked for
object_bit : (c : Class) → bit_at by_object (class_number c) ≡ (if is_by_item c then 0 else 1)
unfolding every
object_bit c = eqb-true _ _ (every_class (λ d. nat_eq (bit_at by_object (class_number d)) (if is_by_item d then 0 else 1)) c refl)

-- entries that are compared have one item where their class asks for one
pub same_item : (p q : Entry) → is_compared p q ≡ true → is_by_item (class_of q.call q.reply) ≡ true
    → (operation_item p.call p.reply ≡ None) ⊎ (operation_item q.call q.reply ≡ operation_item p.call p.reply)
same_item p q compared asked = by_items (operation_item p.call p.reply) (operation_item q.call q.reply)
    (ap (λ b. is_same_item (if b then operation_item p.call p.reply else None) (operation_item q.call q.reply)) (sym asked)
    ∙ (and_parts _ _ compared).1)
  where
    by_items : (i j : Option Item) → is_same_item i j ≡ true → (i ≡ None) ⊎ (j ≡ i)
    by_items None j h = inl refl
    by_items (Some x) None h = absurd (false≢true h)
    by_items (Some x) (Some y) h = inr (ap Some (sym (one_item x y (eqb-true x.0 y.0 h))))

-- and one object
pub same_object : (p q : Entry) → is_compared p q ≡ true → q.object ≡ p.object
same_object p q compared = eqb-true q.object p.object (and_parts _ _ compared).0

-- so the hash that the class asks for is the one's hash of its object, or of its item
pub same_hash : (p q : Entry) → is_compared p q ≡ true → is_by_item (class_of q.call q.reply) ≡ true
    → ((mark_of p).of_item ≡ (mark_of q).of_object) ⊎ ((mark_of p).of_item ≡ (mark_of q).of_item)
same_hash p q compared asked = elim (same_item p q compared asked) [
  | inl none ↦ inl (ap (hash_of p.object) none ∙ ap (λ o. hash_of o None) (sym (same_object p q compared)))
  | inr same ↦ inr (ap (hash_of p.object) (sym same) ∙ ap (λ o. hash_of o (operation_item q.call q.reply)) (sym (same_object p q compared)))
]

-- the set of an entry's object and that of its item have the class of each other that it may conflict with
record IsMet (filter : Filter) (p q : Entry) : Type 0 where
  object : bit_at (bit_and (set_at filter (mark_of p).of_object) (mark_of p).conflicts) (class_number (class_of q.call q.reply)) ≡ 1
  item : bit_at (bit_or (set_at filter (mark_of p).of_item) by_object) (class_number (class_of q.call q.reply)) ≡ 1

-- two entries commute, or one is of the classes that the other meets
meets : (filter : Filter) (p q : Entry) → IsMarked filter q → CommuteForward p q ⊎ IsMet filter p q
meets filter p q marked = by_class (always_commute own class) refl (is_compared p q) refl
  where
    own : Class
    own = class_of p.call p.reply

    class : Class
    class = class_of q.call q.reply

    number : ℕ
    number = class_number class

    there : bit_at (set_at filter (mark_of q).of_object) number ≡ 1
    there = marked.object number (bit_at-pow_same number)

    in_item : is_compared p q ≡ true → (b : Bool) → is_by_item class ≡ b
        → max (bit_at (set_at filter (mark_of p).of_item) number) (bit_at by_object number) ≡ 1
    in_item compared true of_item =
        let found : bit_at (set_at filter (mark_of p).of_item) number ≡ 1 = elim (same_hash p q compared of_item) [
          | inl is ↦ ap (λ h. bit_at (set_at filter h) number) is ∙ there
          | inr is ↦ ap (λ h. bit_at (set_at filter h) number) is ∙ marked.item number (bit_at-pow_same number)
        ] in
        omega (arith, found, bit_at-lt by_object number)
    in_item compared false of_object =
        let found : bit_at by_object number ≡ 1 = object_bit class ∙ ap (λ b. if b then 0 else 1) of_object in
        omega (arith, found, bit_at-lt (set_at filter (mark_of p).of_item) number)

    by_class : (b : Bool) → always_commute own class ≡ b → (u : Bool) → is_compared p q ≡ u → CommuteForward p q ⊎ IsMet filter p q
    by_class true always u compared = inl (always_commutes p q always)
    by_class false may false compared = inl (elsewhere p q compared)
    by_class false may true compared =
        let all : ℕ = set_at filter (mark_of p).of_object in
        let here : bit_at all number ≡ 1 =
        ap (λ o. bit_at (set_at filter (hash_of o None)) number) (sym (same_object p q compared)) ∙ there in
        inr (record {
          object = bit_at_and all (conflicts_of own) number ∙ omega (arith, here, conflict_bit own class may);
          item = bit_at_or (set_at filter (mark_of p).of_item) by_object number ∙ in_item compared (is_by_item class) refl;
        })

-- what the set of its object says
pub met_by_object : (filter : Filter) (p q : Entry) → IsMarked filter q
    → Meets (bit_and (set_at filter (mark_of p).of_object) (mark_of p).conflicts) p q
met_by_object filter p q marked = elim (meets filter p q marked) [ inl commutes ↦ inl commutes | inr is ↦ inr is.object ]

-- what that of its item says too
pub met_by_item : (filter : Filter) (p q : Entry) → IsMarked filter q
    → Meets (bit_and (bit_and (set_at filter (mark_of p).of_object) (mark_of p).conflicts) (bit_or (set_at filter
    (mark_of p).of_item) by_object)) p q
met_by_item filter p q marked = elim (meets filter p q marked) [
  | inl commutes ↦ inl commutes
  | inr is ↦ (let n : ℕ = class_number (class_of q.call q.reply) in
      let met : ℕ = bit_and (set_at filter (mark_of p).of_object) (mark_of p).conflicts in
      let sets : ℕ = bit_or (set_at filter (mark_of p).of_item) by_object in
      inr (bit_at_and met sets n ∙ omega (arith, is.object, is.item)))
]

-- a filter of entries, where one more is marked
pub filter_next : (es : List Entry) (e : Entry) (old new : Filter) → IsFilterOf es old
    → ((other : Entry) → IsMarked old other → IsMarked new other) → IsMarked new e → IsFilterOf (es ++ e ∷ []) new
filter_next es e old new was kept own k d l = elim (cases_lt k (length es)) [
  | inl before ↦ subst (IsMarked new) (sym (get_or_append_left es (e ∷ []) d k before)) (kept (get_or es k d) (was k d before))
  | inr late ↦ (let last : k ≡ length es = omega (arith, l, length-append es (e ∷ [])) in
      let none : length es - length es ≡ 0 = omega arith in
      subst (IsMarked new) (sym (ap (λ n. get_or (es ++ e ∷ []) n d) last
      ∙ get_or-append_right es (e ∷ []) (length es) (length es) d refl (omega arith) ∙ ap (λ n. get_or (e ∷ []) n d) none)) own)
]
