-- Lists that are read item by item.
use Rattle.std.proofs.Common.{◌≡◌, ℕ, ◌+◌, ◌<◌, ◌≤◌, List, [], ◌∷◌, ◌++◌, length, drop, get_or, refl, sym, ap, ◌∙◌, add-one}
use Rattle.std.proofs.Common.{append_assoc}
use Rattle.std.proofs.Math.Seq.{drop-cons}
use Rattle.std.proofs.lemmas.List.{append-nil, drop_all}
use Rattle.std.specs.Prelude.{codes}
use Rattle.serde_json.specs.Data.{Data, Items, no_items, item}
use Rattle.serde_json.specs.View.{items_view, view}
use Rattle.serde_json.specs.declared.value.Value.{Value}
use Rattle.objects.specs.declared.kind.Kind.{Kind}
use Rattle.objects.specs.declared.kind.ValueForm.{ValueForm}
use Rattle.objects.specs.declared.kind.ValueForm.TheVariants as value_form
use Rattle.objects.specs.Objects.{form_of, kind_of_value}
use Rattle.objects.proofs.KindLemmas.{number_of_kind, only_directories, only_queues, only_sets, only_signed}
use Rattle.objects.specs.Entries.{kinds}
use Rattle.doc_tree.specs.Asked.{declared_by, kind_in, kinds_of, names_of, part}
use Rattle.doc_tree.specs.Scope.{Numbers, Setting, Table}
use Rattle.doc_tree.specs.Spelled.{form_start, start_of, starts_of}

-- the items from a place on, by the one at the place
pub items_from : (xs : List Value) (i : ℕ) (x : Value) → i < length xs → x ≡ get_or xs i x → items_view (drop i xs) ≡ item (view x)
    (items_view (drop (i + 1) xs))
items_from xs i x h is =
    let here : drop i xs ≡ get_or xs i x ∷ drop (i + 1) xs = rw (add-one, drop-cons xs i x) refl in
    ap items_view here ∙ ap (λ y. item (view y) (items_view (drop (i + 1) xs))) (sym is)

-- what was read of a list, in front of what is left
abbrev pub in_front : {A T : Type 0} → List A → List A × T → List A × T
in_front xs p = (xs ++ p.0, p.1)

pub in_front_push : {A T : Type 0} (xs : List A) (x : A) (p : List A × T) → in_front (xs ++ x ∷ []) p ≡ in_front xs (x ∷ p.0, p.1)
in_front_push xs x p = ap (λ ys. (ys, p.1)) (append_assoc xs (x ∷ []) p.0)

pub in_front_none : {A T : Type 0} (xs : List A) (t : T) → in_front xs ([], t) ≡ (xs, t)
in_front_none xs t = ap (λ ys. (ys, t)) (append-nil xs)

-- where no item is left, what was read is all
pub all_read : {A : Type 0} (spell : Items → List A × Numbers) (here : List A) (numbers : Numbers) (whole : List A × Numbers)
    (xs : List Value) (i : ℕ) → length xs ≤ i → spell no_items ≡ ([], numbers)
    → whole ≡ in_front here (spell (items_view (drop i xs))) → (here, numbers) ≡ whole
all_read spell here numbers whole xs i end none is =
    sym (is ∙ ap (λ vs. in_front here (spell (items_view vs))) (drop_all i xs end) ∙ ap (in_front here) none ∙ in_front_none here numbers)

-- ---- objects

-- a value that an object starts with is of its kind
pub kind_of_start : (k : Kind) (numbers : Numbers) (d : Data) → kind_of_value (start_of k numbers d).0 ≡ k
unfolding start_of
kind_of_start k numbers d = kind_of_form (form_of k) refl
  where
    kind_of_form : (form : ValueForm) → form_of k ≡ form → kind_of_value (form_start form numbers d).0 ≡ k
    kind_of_form (value_form.Number m) h = number_of_kind k m _ h
    kind_of_form value_form.Signed h = sym (only_signed k h)
    kind_of_form value_form.Set h = sym (only_sets k h)
    kind_of_form value_form.Queue h = sym (only_queues k h)
    kind_of_form value_form.Directory h = sym (only_directories k h)

-- the kinds of the starting values are those that the objects declare
pub kinds_of_starts : (version : ℕ) (numbers : Numbers) (ds : Items) → kinds (starts_of version numbers ds).0 ≡ kinds_of version ds
kinds_of_starts version numbers no_items = refl
kinds_of_starts version numbers (item d ds) = let first = kind_of_start (kind_in version d) numbers (part (codes "start") d) in
    let rest = kinds_of_starts version (start_of (kind_in version d) numbers (part (codes "start") d)).1 ds in cc

pub same_setting : (version : ℕ) (names : Table) (ks : List Kind) (ds : Items) → names ≡ names_of ds → ks ≡ kinds_of version ds
    → (let here : Setting = record { version = version; names = names; kinds = ks } in here ≡ declared_by version ds)
same_setting version names ks ds e f = rw (e, f) refl
