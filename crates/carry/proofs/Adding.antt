-- Starts and names that are added one by one.
use Rattle.std.proofs.Common.{◌≡◌, ℕ, zero, suc, ◌+◌, ◌≤◌, Bool, true, false, cond, List, [], ◌∷◌, ◌++◌, length, drop}
use Rattle.std.proofs.Common.{map, take, refl, ap, ap₂, sym, ◌∙◌, ◌||◌}
use Rattle.std.proofs.Common.{append_assoc, arith, Option, Some, None}
use Rattle.std.specs.Prelude.{slice_get, if◌then◌else◌}
use Rattle.std.specs.List.{AllByRecursion, IsDistinct}
use Rattle.std.specs.Str.{bytes_eq}
use Rattle.std.proofs.lemmas.Bool.{false_from_ne_true}
use Rattle.std.proofs.lemmas.Slice.Eq.{bytes_eq-Decides}
use Rattle.std.proofs.Math.ListN.{drop_of_length-le}
use Rattle.objects.specs.Entries.{State}
use Rattle.objects.specs.declared.kind.Value.{Value}
use Rattle.doc_tree.specs.Scope.{Table, is_listed, with_text}
use Rattle.carry.specs.Joined.{Named, StartOf, added, are_of_one_kind, first_clash, own}
use Rattle.carry.proofs.Walking.{next_element}

-- one more element is pushed, which stands for the first of those that are left
pub pushed : {A B : Type 0} (f : A → B) (old new : List A) (x : A) (b : B) (left rest all : List B) → left ≡ b ∷ rest
    → new ≡ old ++ x ∷ [] → f x ≡ b → map f old ++ left ≡ all → map f new ++ rest ≡ all
pushed f old new x b left rest all split wrote same is =
    ap (λ xs. map f xs ++ rest) wrote ∙ ap (λ ys. ys ++ rest) (mapped old) ∙ append_assoc (map f old) (f x ∷ []) rest
    ∙ ap (λ y. map f old ++ y ∷ rest) same ∙ ap (λ ys. map f old ++ ys) (sym split) ∙ is
  where
    mapped : (xs : List _) → map f (xs ++ x ∷ []) ≡ map f xs ++ f x ∷ []
    mapped [] = refl
    mapped (y ∷ xs) = ap (λ ys. f y ∷ ys) (mapped xs)

pub no_own : (first next : Named) (i : ℕ) (values : State) → length values ≤ i → own first next i (drop i values) ≡ []
no_own first next i values le = ap (own first next i) (drop_of_length-le values le)

pub none_added : (first : Named) (known : Table) (i : ℕ) (values : State) → length values ≤ i → added first known i (drop i values) ≡ []
none_added first known i values le = ap (added first known i) (drop_of_length-le values le)

-- ---- kinds

module _ (values : State) (starts : List StartOf) (i : ℕ) (v : Value) (there : slice_get values i ≡ Some v) where
  module _ (start : StartOf) (also : slice_get starts i ≡ Some start) where
    abbrev same : Bool
    same = are_of_one_kind v start.value

    abbrev after : Option ℕ
    after = first_clash (i + 1) (drop (i + 1) values) (drop (i + 1) starts)

    both : first_clash i (drop i values) (drop i starts) ≡ (if same then after else Some i)
    both = ap₂ (first_clash i) (next_element values i v there) (next_element starts i start also)

    pub clash_here : same ≡ false → first_clash i (drop i values) (drop i starts) ≡ Some i
    clash_here e = both ∙ ap (λ b. if b then after else Some i) e

    pub kinds_alike : same ≡ true → first_clash i (drop i values) (drop i starts) ≡ after
    kinds_alike e = both ∙ ap (λ b. if b then after else Some i) e

  -- no start is left
  pub none_clashes : length starts ≤ i → first_clash i (drop i values) (drop i starts) ≡ None
  none_clashes le = ap₂ (first_clash i) (next_element values i v there) (drop_of_length-le starts le)

pub no_clash : (values : State) (starts : List StartOf) (i : ℕ) → length values ≤ i → first_clash i (drop i values) (drop i starts) ≡ None
no_clash values starts i le = ap (λ vs. first_clash i vs (drop i starts)) (drop_of_length-le values le)

-- ---- a table of names

turned : (text t : List ℕ) → bytes_eq text t ≡ false → bytes_eq t text ≡ false
turned text t apart = false_from_ne_true (bytes_eq t text) (λ same. let is : bytes_eq text t ≡ true = (bytes_eq-Decides text t).1
    (sym ((bytes_eq-Decides t text).0 same)) in cc)

differs_at : (t : List ℕ) (table : Table) (i : ℕ) (text : List ℕ) → AllByRecursion (λ u. bytes_eq t u ≡ false) table
    → slice_get table i ≡ Some text → bytes_eq t text ≡ false
differs_at t [] i text all there = cc
differs_at t (u ∷ table) zero text all there = ap (bytes_eq t) (sym (some_same u text there)) ∙ all.0
  where
    some_same : (u text : List ℕ) → Some u ≡ Some text → u ≡ text
    some_same u text e = cc
differs_at t (u ∷ table) (suc i) text all there = differs_at t table i text all.1 there

-- a name isn't among those before it
new_name : (table : Table) (i : ℕ) (text : List ℕ) → IsDistinct bytes_eq table → slice_get table i ≡ Some text
    → is_listed text (take i table) ≡ false
unfolding IsDistinct
new_name [] i text distinct there = cc
new_name (t ∷ table) zero text distinct there = refl
new_name (t ∷ table) (suc i) text distinct there =
    ap (λ b. b || is_listed text (take i table)) (turned t text (differs_at t table i text distinct.0 there))
    ∙ new_name table i text distinct.1 there

one_more : (table : Table) (i : ℕ) (text : List ℕ) → slice_get table i ≡ Some text → take i table ++ text ∷ [] ≡ take (suc i) table
one_more [] i text there = cc
one_more (t ∷ table) zero text there = ap (λ u. u ∷ []) (some_same text t there)
  where
    some_same : (text t : List ℕ) → Some t ≡ Some text → text ≡ t
    some_same text t e = cc
one_more (t ∷ table) (suc i) text there = ap (λ ts. t ∷ ts) (one_more table i text there)

-- with the next name the table has those up to it
pub table_grows : (table : Table) (i : ℕ) (text : List ℕ) → IsDistinct bytes_eq table → slice_get table i ≡ Some text
    → with_text text (take i table) ≡ take (i + 1) table
table_grows table i text distinct there =
    ap (λ b. cond b (take i table) (take i table ++ text ∷ [])) (new_name table i text distinct there)
    ∙ one_more table i text there ∙ ap (λ n. take n table) (next i)
  where
    next : (n : ℕ) → suc n ≡ n + 1
    next n = omega arith
