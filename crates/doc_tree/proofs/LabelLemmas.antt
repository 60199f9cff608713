-- Labels, as the entries of a map.
use Rattle.std.proofs.Common.{◌≡◌, ◌+◌, ◌<◌, ℕ, Bool, true, false, not, cond, ◌||◌, Ok, List, [], ◌∷◌, ◌++◌, drop, length, get_or}
use Rattle.std.proofs.Common.{Option, Some, None, String, Global, string_bytes, is_some, add-one, append_assoc, refl, sym, ap, ◌∙◌}
use Rattle.std.specs.Prelude.{slice_get}
use Rattle.std.proofs.Math.Seq.{drop-cons}
use Rattle.std.proofs.lemmas.List.{append-nil}
use Rattle.std.proofs.lemmas.Option.{slice_get-get_or, slice_get_within}
use Rattle.std.proofs.lemmas.Slice.Eq.{bytes_eq-Decides}
use Rattle.serde_json.specs.Data.{Data, Items, no_items, item}
use Rattle.doc_tree.specs.declared.steps.Sort.{Sort}
use Rattle.doc_tree.specs.declared.steps.Sort.TheVariants.{Operation, If, Sub, Abort, Parallel}
use Rattle.doc_tree.specs.Answer.{IsMet}
use Rattle.doc_tree.specs.Asked.{children_in, label_asked, label_in, labels_of, scope_after, scope_after_by, sort_of}
use Rattle.doc_tree.specs.Demand.{check, holds}
use Rattle.batch.specs.Names.{is_name}
use Rattle.doc_tree.specs.declared.counts.Counts.{Counts}
use Rattle.doc_rules.specs.declared.rule.NameRule.TheVariants.{Label}
use Rattle.doc_rules.specs.declared.rule.Rule.TheVariants.{Name, NewLabel}
use Rattle.doc_rules.specs.declared.subject.Subject.TheVariants.{Outcome}
use Rattle.doc_tree.specs.Scope.{AreUnseen, Extends, Scope, Setting, is_named, named, label_number, scope_of, with_label, with_labels, fit}
use Rattle.std.specs.List.{position_or_len}
use Rattle.std.specs.Map.{lookup, keys_of}
use Rattle.std.specs.Str.{bytes_eq}
use Rattle.std.specs.String.{string_eq}
use Rattle.indexmap.specs.IndexMap.{IndexMap, get, insert_entry}
use Rattle.indexmap.proofs.CallerLemmas.{insert_entry-new}
use Rattle.doc_rules.specs.declared.subject.Subject.{Subject}

-- what a label is of, from the entries of a map
pub named_view : (name : List ℕ) (es : List (String Global × Subject)) → named name (scope_of es) ≡ lookup
    (λ k. bytes_eq name (string_bytes k)) es
named_view name [] = refl
named_view name (e ∷ es) = simp (named_view name es)

place_view : (name : List ℕ) (es : List (String Global × Subject)) → position_or_len (bytes_eq name) (keys_of (scope_of es))
    ≡ position_or_len (λ k. bytes_eq name (string_bytes k)) (keys_of es)
place_view name [] = refl
place_view name (e ∷ es) = simp (place_view name es)

-- how many labels come before a label, from the entries of a map
pub number_view : (name : List ℕ) (es : List (String Global × Subject)) → label_number name (scope_of es) ≡ fit
    (position_or_len (λ k. bytes_eq name (string_bytes k)) (keys_of es))
number_view name es = ap fit (place_view name es)

is_absent : (o : Option Subject) → is_some o ≡ false → o ≡ None
is_absent None h = refl
is_absent (Some x) h = cc

scope_of-append : (es : List (String Global × Subject)) (k : String Global) (a : Subject) → scope_of (es ++ (k, a) ∷ []) ≡ scope_of es
    ++ (string_bytes k, a) ∷ []
scope_of-append [] k a = refl
scope_of-append (e ∷ es) k a = ap (λ rest. (string_bytes e.0, e.1) ∷ rest) (scope_of-append es k a)

-- a label that is new goes last
pub scope_of-insert_new : {S : Type 0} (m : IndexMap (String Global) Subject S) (k : String Global) (a : Subject)
    → is_named (string_bytes k) (scope_of m.entries) ≡ false
    → scope_of (insert_entry string_eq m.entries k a) ≡ scope_of m.entries ++ (string_bytes k, a) ∷ []
scope_of-insert_new m k a h =
    let none : lookup (λ l. bytes_eq (string_bytes k) (string_bytes l)) m.entries ≡ None = sym (named_view (string_bytes k) m.entries)
    ∙ is_absent _ h in
    ap scope_of (insert_entry-new string_eq m k a none) ∙ scope_of-append m.entries k a

-- a label that was not seen is seen after the others
pub scope_of-insert : {S : Type 0} (m : IndexMap (String Global) Subject S) (k : String Global) (a : Subject) (name : List ℕ)
    → string_bytes k ≡ name → is_named name (scope_of m.entries) ≡ false
    → scope_of (insert_entry string_eq m.entries k a) ≡ with_label (Some name) a (scope_of m.entries)
scope_of-insert m k a name is new =
    scope_of-insert_new m k a (ap (λ n. is_named n (scope_of m.entries)) is ∙ new) ∙ ap (λ n. scope_of m.entries ++ (n, a) ∷ []) is
    ∙ ap (λ b. cond b (scope_of m.entries) (scope_of m.entries ++ (name, a) ∷ [])) (sym new)

-- whether a label is seen, by a look into the map with a key of the same bytes
pub is_named-get : {S : Type 0} (m : IndexMap (String Global) Subject S) (k : String Global) (name : List ℕ) → string_bytes k ≡ name
    → is_named name (scope_of m.entries) ≡ is_some (get string_eq m k)
is_named-get m k name is = ap (λ n. is_named n (scope_of m.entries)) (sym is) ∙ ap is_some (named_view (string_bytes k) m.entries)

-- with a label that was seen the map shows what it showed
pub scope_of-same : {S : Type 0} (m : IndexMap (String Global) Subject S) (k : String Global) (a : Subject) (name : List ℕ)
    → string_bytes k ≡ name → is_some (get string_eq m k) ≡ true → (es : List (String Global × Subject)) → es ≡ m.entries
    → scope_of es ≡ with_label (Some name) a (scope_of m.entries)
scope_of-same m k a name is there es same =
    ap scope_of same
    ∙ ap (λ b. cond b (scope_of m.entries) (scope_of m.entries ++ (name, a) ∷ [])) (sym (is_named-get m k name is ∙ there))

-- the labels from a place on, by the one at the place
pub labels_from : (es : List (String Global × Subject)) (i : ℕ) (e : String Global × Subject) → Some e ≡ slice_get es i
    → drop i es ≡ e ∷ drop (i + 1) es
labels_from es i e at =
    let within : i < length es = slice_get_within es i e (sym at) in
    let is : get_or es i e ≡ e = let same = slice_get-get_or es i e within in cc in
    let here : drop i es ≡ get_or es i e ∷ drop (i + 1) es = rw (add-one, drop-cons es i e) refl in
    here ∙ ap (λ x. x ∷ drop (i + 1) es) is

scope_after_append : (scope : Scope) → Extends scope scope
scope_after_append scope = ([], sym (append-nil scope))

pub with_label_extends : (label : Option (List ℕ)) (subject : Subject) (scope : Scope) → Extends scope (with_label label subject scope)
with_label_extends None subject scope = scope_after_append scope
with_label_extends (Some name) subject scope = by (is_named name scope)
  where
    by : (b : Bool) → Extends scope (cond b scope (scope ++ (name, subject) ∷ []))
    by true = scope_after_append scope
    by false = ((name, subject) ∷ [], refl)

pub extends_twice : (a b c : Scope) → Extends a b → Extends b c → Extends a c
extends_twice a b c first second = (first.0 ++ second.0, second.1 ∙ ap (λ s. s ++ second.0) first.1 ∙ append_assoc a first.0 second.0)

with_labels_extends : (labels : Scope) (scope : Scope) → Extends scope (with_labels labels scope)
with_labels_extends [] scope = scope_after_append scope
with_labels_extends (label ∷ labels) scope =
    let one = with_label (Some label.0) label.1 scope in
    extends_twice scope one (with_labels labels one) (with_label_extends (Some label.0) label.1 scope) (with_labels_extends labels one)

by_sort : (sort : Option Sort) (setting : Setting) (scope : Scope) (d : Data) → Extends scope (scope_after_by sort setting scope d)
by_sort None setting scope d = scope_after_append scope
by_sort (Some Operation) setting scope d = with_label_extends _ _ scope
by_sort (Some If) setting scope d = scope_after_append scope
by_sort (Some Sub) setting scope d = with_label_extends _ _ scope
by_sort (Some Abort) setting scope d = scope_after_append scope
by_sort (Some Parallel) setting scope d = with_labels_extends (labels_of [] (children_in d)) scope

-- a step adds labels only after those that are seen
pub scope_after_extends : (setting : Setting) (scope : Scope) (d : Data) → Extends scope (scope_after setting scope d)
unfolding scope_after
scope_after_extends setting scope d = by_sort (sort_of d) setting scope d

-- ---- labels of which none is seen

-- what is seen among two lists of labels is seen among either
pub is_named-append : (name : List ℕ) (first second : Scope)
    → is_named name (first ++ second) ≡ (is_named name first || is_named name second)
is_named-append name [] second = refl
is_named-append name (label ∷ first) second = by (bytes_eq name label.0) (is_named-append name first second)
  where
    by : (b : Bool) → is_named name (first ++ second) ≡ (is_named name first || is_named name second)
        → is_some (cond b (Some label.1) (named name (first ++ second)))
        ≡ (is_some (cond b (Some label.1) (named name first)) || is_named name second)
    by true later = refl
    by false later = later

-- what isn't seen with more labels isn't seen without them
pub unseen_before : (name : List ℕ) (old new : Scope) → Extends old new → is_named name new ≡ false → is_named name old ≡ false
unseen_before name old new more unseen =
    by (is_named name old) (sym (is_named-append name old more.0) ∙ ap (is_named name) (sym more.1) ∙ unseen)
  where
    by : (b : Bool) → (b || is_named name more.0) ≡ false → b ≡ false
    by true e = e
    by false e = refl

-- what is seen is seen with more labels
seen_after : (name : List ℕ) (old new : Scope) → Extends old new → is_named name old ≡ true → is_named name new ≡ true
seen_after name old new more seen =
    ap (is_named name) more.1 ∙ is_named-append name old more.0 ∙ ap (λ b. b || is_named name more.0) seen

-- one label more that isn't seen
pub unseen_one : (label : List ℕ) (a : Subject) (rest scope : Scope) → is_named label scope ≡ false
    → AreUnseen rest scope → AreUnseen ((label, a) ∷ rest) scope
unseen_one label a rest scope new later name there = by (bytes_eq name label) refl there
  where
    by : (b : Bool) → bytes_eq name label ≡ b → is_some (cond b (Some a) (named name rest)) ≡ true → is_named name scope ≡ false
    by true e h = ap (λ n. is_named n scope) ((bytes_eq-Decides name label).0 e) ∙ new
    by false e h = later name h

-- the labels of children come after those of their earlier siblings
labels_of-extends : (earlier : Scope) (ds : Items) → Extends earlier (labels_of earlier ds)
labels_of-extends earlier no_items = scope_after_append earlier
labels_of-extends earlier (item d ds) =
    let one = with_label (label_in d) Outcome earlier in
    extends_twice earlier one (labels_of one ds) (with_label_extends (label_in d) Outcome earlier) (labels_of-extends one ds)

-- a label that was added is seen
seen_once_added : (name : List ℕ) (a : Subject) (scope : Scope) → is_named name (with_label (Some name) a scope) ≡ true
seen_once_added name a scope = by (is_named name scope) refl
  where
    itself : is_named name ((name, a) ∷ []) ≡ true
    itself = ap (λ b. is_some (cond b (Some a) None)) ((bytes_eq-Decides name name).1 refl)

    by : (b : Bool) → is_named name scope ≡ b → is_named name (cond b scope (scope ++ (name, a) ∷ [])) ≡ true
    by true e = e
    by false e = is_named-append name scope ((name, a) ∷ []) ∙ rw (e, itself) refl

-- a child's label that is no earlier sibling's may be set where none of the children's labels is seen
pub child_label_met : (version : ℕ) (scope earlier : Scope) (label : Option (List ℕ)) (ds : Items) (counts : Counts)
    → AreUnseen (labels_of (with_label label Outcome earlier) ds) scope
    → IsMet counts (label_asked version earlier [] label) counts
    → IsMet counts (label_asked version scope earlier label) counts
unfolding label_asked
child_label_met version scope earlier None ds counts unseen met = refl
child_label_met version scope earlier (Some name) ds counts unseen met =
    let added = with_label (Some name) Outcome earlier in
    let new : is_named name scope ≡ false = unseen name (seen_after name added (labels_of added ds) (labels_of-extends added ds)
    (seen_once_added name Outcome earlier)) in
    by (is_name version name) (is_named name earlier) (is_named name scope) new met
  where
    by : (a b s : Bool) → s ≡ false → check counts (holds a (Name version Label) ∷ holds (not (b || false)) NewLabel ∷ []) ≡ Ok counts
        → check counts (holds a (Name version Label) ∷ holds (not (s || b)) NewLabel ∷ []) ≡ Ok counts
    by true false false n e = refl
    by true true s n e = cc
    by true false true n e = cc
    by false b s n e = cc

-- for attributes to cite
pub ruleset named_labels = named_view

pub ruleset all_labels = (named_view, number_view)
