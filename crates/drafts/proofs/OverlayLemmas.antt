-- What is found in a set or a directory over a borrowed one.
use Rattle.std.specs.Prelude.{◌≡◌, ℕ, ◌+◌, ◌-◌, ◌≤◌, Bool, true, false, cond, not, ◌&&◌, ◌||◌, List, [], ◌∷◌, ◌++◌, length, Option, Some}
use Rattle.std.specs.Prelude.{None}
use Rattle.std.proofs.Common.{refl, sym, ap, ◌∙◌, arith, suc, zero}
use Rattle.std.specs.BTreeMap.{is_at}
use Rattle.std.specs.Cmp.{eq_by_cmp_equiv}
use Rattle.std.specs.Ordering.{eq_by_cmp}
use Rattle.std.specs.FinSet as set
use Rattle.std.specs.FinMap as map
use Rattle.atoms.specs.Item.{item_cmp}
use Rattle.atoms.proofs.Items.{items_total, items_antisymmetric}
use Rattle.atoms.specs.ItemSet.{Sets}
use Rattle.atoms.specs.Directory.{Directories, put_at}
use Rattle.atoms.specs.declared.item.Item.{Item}
use Rattle.std.proofs.lemmas.Bool.{false≢true}
use Rattle.atoms.proofs.ItemSets.{len_inserted, len_removed, none_in_empty}
use Rattle.drafts.specs.Overlays.{put_item, over_set, over_directory, slot_at}

-- a slot's content, or what is borrowed
abbrev pub slot_or : {B : Type 0} → Option B → B → B
slot_or None lent = lent
slot_or (Some now) lent = now

slot_or-cond : {B : Type 0} (b : Bool) (now : B) (slot : Option B) (lent : B) → slot_or (cond b (Some now) slot) lent ≡ cond b now
    (slot_or slot lent)
slot_or-cond true now slot lent = refl
slot_or-cond false now slot lent = refl

or_is : (b x : Bool) → (b || x) ≡ cond b true x
or_is true x = refl
or_is false x = refl

and_is : (b x : Bool) → (not b && x) ≡ cond b false x
and_is true x = refl
and_is false x = refl

-- ---- sets

contains-put : (s : Sets) (k : Item) (inside : Bool) (q : Item) → set.contains (put_item s k inside) q ≡ cond
    (eq_by_cmp item_cmp q k) inside (set.contains s q)
contains-put s k true q = set.contains-insert items_total s k q ∙ or_is (eq_by_cmp item_cmp q k) (set.contains s q)
contains-put s k false q = set.contains-remove items_total s k q ∙ and_is (eq_by_cmp item_cmp q k) (set.contains s q)

pub contains-over : (s : Sets) (slots : List (Item × Bool)) (q : Item) → set.contains (over_set s slots) q ≡ slot_or (slot_at slots q)
    (set.contains s q)
contains-over s [] q = refl
contains-over s (e ∷ slots) q =
    contains-put (over_set s slots) e.0 e.1 q ∙ ap (cond (eq_by_cmp item_cmp q e.0) e.1) (contains-over s slots q)
    ∙ sym (slot_or-cond (eq_by_cmp item_cmp q e.0) e.1 (slot_at slots q) (set.contains s q))

-- one slot written
pub over_set-write : (s : Sets) (slots written : List (Item × Bool)) (k : Item) (inside : Bool)
    → ((q : Item) → slot_at written q ≡ cond (is_at (item_cmp k) q) (Some inside) (slot_at slots q))
    → over_set s written ≡ put_item (over_set s slots) k inside
over_set-write s slots written k inside h = set.same_set items_total items_antisymmetric _ _ (λ q.
    contains-over s written q ∙ ap (λ o. slot_or o (set.contains s q)) (h q)
    ∙ slot_or-cond (is_at (item_cmp k) q) inside (slot_at slots q) (set.contains s q)
    ∙ ap (λ b. cond b inside (slot_or (slot_at slots q) (set.contains s q))) ((eq_by_cmp_equiv items_total).symm k q)
    ∙ sym (contains-put (over_set s slots) k inside q ∙ ap (cond (eq_by_cmp item_cmp q k) inside) (contains-over s slots q)))

-- slots written from the last one on
pub over_set-append : (s : Sets) (slots : List (Item × Bool)) (e : Item × Bool) → over_set s (slots ++ e ∷ []) ≡ over_set
    (put_item s e.0 e.1) slots
over_set-append s [] e = refl
over_set-append s (d ∷ slots) e = ap (λ t. put_item t d.0 d.1) (over_set-append s slots e)

-- ---- directories

get-put : (m : Directories) (k : Item) (bound : Option Item) (q : Item) → map.get (put_at m k bound) q ≡ cond
    (eq_by_cmp item_cmp q k) bound (map.get m q)
get-put m k None q = map.get-remove items_total m k q
get-put m k (Some v) q = map.get-insert items_total m k v q

pub get-over : (m : Directories) (slots : List (Item × Option Item)) (q : Item) → map.get (over_directory m slots) q ≡ slot_or
    (slot_at slots q) (map.get m q)
get-over m [] q = refl
get-over m (e ∷ slots) q =
    get-put (over_directory m slots) e.0 e.1 q ∙ ap (cond (eq_by_cmp item_cmp q e.0) e.1) (get-over m slots q)
    ∙ sym (slot_or-cond (eq_by_cmp item_cmp q e.0) e.1 (slot_at slots q) (map.get m q))

pub over_directory-write : (m : Directories) (slots written : List (Item × Option Item)) (k : Item) (bound : Option Item)
    → ((q : Item) → slot_at written q ≡ cond (is_at (item_cmp k) q) (Some bound) (slot_at slots q)) → over_directory m written ≡ put_at
    (over_directory m slots) k bound
over_directory-write m slots written k bound h = map.same_map items_total items_antisymmetric _ _ (λ q.
    get-over m written q ∙ ap (λ o. slot_or o (map.get m q)) (h q)
    ∙ slot_or-cond (is_at (item_cmp k) q) bound (slot_at slots q) (map.get m q)
    ∙ ap (λ b. cond b bound (slot_or (slot_at slots q) (map.get m q))) ((eq_by_cmp_equiv items_total).symm k q)
    ∙ sym (get-put (over_directory m slots) k bound q ∙ ap (cond (eq_by_cmp item_cmp q k) bound) (get-over m slots q)))

pub over_directory-append : (m : Directories) (slots : List (Item × Option Item)) (e : Item × Option Item)
    → over_directory m (slots ++ e ∷ []) ≡ over_directory (put_at m e.0 e.1) slots
over_directory-append m [] e = refl
over_directory-append m (d ∷ slots) e = ap (λ t. put_at t d.0 d.1) (over_directory-append m slots e)

-- ---- the size of a set

at_most : (b : Bool) (n m : ℕ) → m ≡ cond b n (n + 1) → m ≤ n + 1
at_most true n m e = omega arith
at_most false n m e = omega arith

less_or_same : (b : Bool) (n m : ℕ) → m ≡ cond b (n - 1) n → m ≤ n + 1
less_or_same true n m e = omega arith
less_or_same false n m e = omega arith

len-put : (s : Sets) (k : Item) (inside : Bool) → set.len (put_item s k inside) ≤ set.len s + 1
len-put s k true = at_most (set.contains s k) (set.len s) _ (set.len-insert items_total s k)
len-put s k false = less_or_same (set.contains s k) (set.len s) _ (set.len-remove items_total s k)

pub len-over : (s : Sets) (slots : List (Item × Bool)) → set.len (over_set s slots) ≤ set.len s + length slots
len-over s [] = omega arith
len-over s (e ∷ slots) =
    let one : set.len (put_item (over_set s slots) e.0 e.1) ≤ set.len (over_set s slots) + 1 = len-put (over_set s slots) e.0 e.1 in
    let rest : set.len (over_set s slots) ≤ set.len s + length slots = len-over s slots in
    omega arith

-- an item more, and one less
pub size-inserted : (s : Sets) (slots written : List (Item × Bool)) (k : Item) (size : ℕ) → size ≡ set.len (over_set s slots)
    → set.contains (over_set s slots) k ≡ false
    → over_set s written ≡ set.insert (over_set s slots) k → size + 1 ≡ set.len (over_set s written)
size-inserted s slots written k size is new now = ap (λ n. n + 1) is ∙ sym (len_inserted (over_set s slots) k new) ∙ sym (ap set.len now)

pub size-removed : (s : Sets) (slots written : List (Item × Bool)) (k : Item) (size : ℕ) → size ≡ set.len (over_set s slots)
    → set.contains (over_set s slots) k ≡ true
    → over_set s written ≡ set.remove (over_set s slots) k → size - 1 ≡ set.len (over_set s written)
size-removed s slots written k size is there now = ap (λ n. n - 1) is ∙ sym (len_removed (over_set s slots) k there) ∙ sym (ap set.len now)

-- a set with a member is not empty
pub some-inside : (s : Sets) (k : Item) (size : ℕ) → size ≡ set.len s → set.contains s k ≡ true → 1 ≤ size
some-inside s k zero is there = absurd (false≢true (sym (none_in_empty s k (sym is)) ∙ there))
some-inside s k (suc n) is there = omega arith
