-- An object's members beside the entries of its map.
use Rattle.std.proofs.Common.{◌≡◌, ℕ, true, false, List, [], ◌∷◌, ◌&&◌, Some, Ordering, Less, Equal, Greater, string_bytes, refl, sym, ap}
use Rattle.std.proofs.Common.{◌∙◌}
use Rattle.std.specs.Prelude.{codes, is_some}
use Rattle.std.specs.Ordering.{nat_cmp, match_ordering, is_eq}
use Rattle.std.specs.Cmp.Lexicographic.{slice_cmp}
use Rattle.std.specs.List.{list_all}
use Rattle.std.specs.Map.{keys_of}
use Rattle.std.proofs.lemmas.Bool.{false≢true, and_parts}
use Rattle.std.proofs.lemmas.Map.Text.{is_eq-slice_cmp}
use Rattle.std.proofs.lemmas.Slice.Eq.{bytes_eq-Decides}
use Rattle.serde_json.specs.Data.{Data, Members, no_members, member, null, boolean, number, string, array, object}
use Rattle.serde_json.specs.Find.{get_member}
use Rattle.serde_json.specs.View.{members_view}
use Rattle.serde_json.proofs.Views.{Entry, items_len-items_view}
use Rattle.doc_tree.specs.Asked.{sort_of}
use Rattle.doc_tree.specs.Look.{has, has_only, is_among, members_among}
use Rattle.doc_tree.specs.declared.steps.Sort.TheVariants.{Operation}

pub members_among-keys : (names : List (List ℕ)) (es : List Entry) → members_among names (members_view es) ≡ list_all
    (λ k. is_among (string_bytes k) names) (keys_of es)
members_among-keys names [] = refl
members_among-keys names (e ∷ es) = ap (λ rest. is_among (string_bytes e.0) names && rest) (members_among-keys names es)

-- the lemma on sizes under a name that an attribute can cite
pub ruleset array_sizes = items_len-items_view

-- a name that isn't among those of all members is no member's
absent_member : (names : List (List ℕ)) (q : List ℕ) (ms : Members) → members_among names ms ≡ true → is_among q names ≡ false
    → is_some (get_member q ms) ≡ false
absent_member names q no_members only out = refl
absent_member names q (member k d ms) only out =
    let parts : (is_among k names ≡ true) × (members_among names ms ≡ true) = and_parts _ _ only in
    by parts.0 (absent_member names q ms parts.1 out) (slice_cmp nat_cmp q k) refl
  where
    by : is_among k names ≡ true → is_some (get_member q ms) ≡ false → (o : Ordering) → slice_cmp nat_cmp q k ≡ o
        → is_some (match_ordering o (get_member q ms) (Some d) (get_member q ms)) ≡ false
    by listed later Less e = later
    by listed later Greater e = later
    by listed later Equal e =
        let same : q ≡ k = (bytes_eq-Decides q k).0 (sym (is_eq-slice_cmp q k) ∙ ap is_eq e) in
        absurd (false≢true (sym out ∙ ap (λ name. is_among name names) same ∙ listed))

-- nor is it a member of the value
pub absent : (names : List (List ℕ)) (q : List ℕ) (d : Data) → has_only names d ≡ true → is_among q names ≡ false → has q d ≡ false
absent names q (object ms) only out = absent_member names q ms only out
absent names q null only out = absurd (false≢true only)
absent names q (boolean b) only out = absurd (false≢true only)
absent names q (number n) only out = absurd (false≢true only)
absent names q (string s) only out = absurd (false≢true only)
absent names q (array ds) only out = absurd (false≢true only)

-- a step with an operation and no other part than a label and `else` is an operation
pub only_operation : (d : Data) → has (codes "op") d ≡ true → has_only (codes "op" ∷ codes "as" ∷ codes "else" ∷ []) d ≡ true
    → sort_of d ≡ Some Operation
unfolding sort_of
only_operation d op only = rw (
  op,
  none (codes "if") refl,
  none (codes "sub") refl,
  none (codes "abort") refl,
  none (codes "parallel") refl,
) refl
  where
    none : (q : List ℕ) → is_among q (codes "op" ∷ codes "as" ∷ codes "else" ∷ []) ≡ false → has q d ≡ false
    none q out = absent (codes "op" ∷ codes "as" ∷ codes "else" ∷ []) q d only out

-- the lemma on operations under a name that an attribute can cite
pub ruleset operations = only_operation
