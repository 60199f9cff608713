-- What is noted of a document's members, member by member.
use Rattle.std.proofs.Common.{◌≡◌, ℕ, ℤ, ◌<◌, ◌≤◌, List, ◌∷◌, Bool, true, false, ◌&&◌, Option, Some, None, Ordering, Less, Equal, Greater}
use Rattle.std.proofs.Common.{refl, sym, ap, ◌∙◌, arith, ltb-false, leb-true, true≢false}
use Rattle.std.specs.Prelude.{codes, is_some, nat_le, nat_lt, option_and_then, option_map, unwrap_or}
use Rattle.std.specs.Ordering.{nat_cmp, match_ordering, is_eq}
use Rattle.std.specs.Cmp.Lexicographic.{slice_cmp}
use Rattle.std.specs.Str.{bytes_eq}
use Rattle.std.proofs.lemmas.Map.Text.{is_eq-slice_cmp}
use Rattle.std.proofs.lemmas.Slice.Eq.{bytes_eq-Decides}
use Rattle.json.specs.Token.{Token}
use Rattle.json.specs.Json as json
use Rattle.json.specs.Json.{parse_map}
use Rattle.json.specs.Reads.{token_of}
use Rattle.json.specs.declared.token.Token.{Token as Lent}
use Rattle.json.specs.declared.token.Token.TheVariants as lent
use Rattle.json.proofs.Grammar.{value_is}
use Rattle.serde_json.specs.Data.{Data, Num, Items, Members, array, boolean, member, no_members, null, number, object, put, string}
use Rattle.serde_json.specs.Events.{items_len}
use Rattle.serde_json.specs.Find.{as_array, as_i64, as_object, get_member}
use Rattle.serde_json.specs.Read.{converted, number_of, of_json}
use Rattle.serde_json.proofs.Views.{get_member-put, get_member-put_other}
use Rattle.doc_tokens.specs.declared.notes.Notes.{Notes}
use Rattle.doc_tokens.specs.declared.pass.PassedValue.{PassedValue}
use Rattle.doc_tree.specs.Asked.{document_shape_asked, or_no_items, version_in}
use Rattle.doc_rules.specs.Limits.{limits_of}
use Rattle.doc_rules.proofs.LimitLemmas.{limits_within}
use Rattle.doc_tree.specs.Look.{is_among, members_among, whole, within}
use Rattle.doc_rules.specs.Forms.{member_names}
use Rattle.doc_rules.specs.declared.form.Form.TheVariants as form
use Rattle.doc_tokens.specs.Passed.{AreNoted, IsNoted, noted_asked, noted_count, noted_version, seen_as, version_in_notes, whole_or_other}
use Rattle.doc_tree.specs.Scope.{fit}
use Rattle.doc_rules.specs.declared.limits.TheConstants.{LAST_VERSION}
use Rattle.doc_tokens.proofs.PassLemmas.{array_opened}

-- ---- names among others

once : (a r : Bool) → (a && r) ≡ (a && (a && r))
once true r = refl
once false r = refl

turned : (a b r : Bool) → (b && (a && r)) ≡ (a && (b && r))
turned true true r = refl
turned true false r = refl
turned false true r = refl
turned false false r = refl

put_among : (names : List (List ℕ)) (o : Ordering) (k l : List ℕ) (d e : Data) (ms : Members) → slice_cmp nat_cmp k l ≡ o
    → members_among names (put k d ms) ≡ (is_among k names && members_among names ms)
    → members_among names (match_ordering o (member k d (member l e ms)) (member l d ms) (member l e (put k d ms)))
    ≡ (is_among k names && (is_among l names && members_among names ms))
put_among names Less k l d e ms is later = refl
put_among names Equal k l d e ms is later =
    let same : k ≡ l = (bytes_eq-Decides k l).0 (sym (is_eq-slice_cmp k l) ∙ ap is_eq is) in
    once (is_among l names) (members_among names ms)
    ∙ ap (λ q. is_among q names && (is_among l names && members_among names ms)) (sym same)
put_among names Greater k l d e ms is later = ap (λ r. is_among l names && r) later
    ∙ turned (is_among k names) (is_among l names) (members_among names ms)

-- a member that is put is among the names if its own is
pub members_among-put : (names : List (List ℕ)) (k : List ℕ) (d : Data) (ms : Members)
    → members_among names (put k d ms) ≡ (is_among k names && members_among names ms)
members_among-put names k d no_members = refl
members_among-put names k d (member l e ms) =
    put_among names (slice_cmp nat_cmp k l) k l d e ms refl (members_among-put names k d ms)

-- ---- one more member

-- the member of a name, once one is put
noted_at : (q k : List ℕ) (d : Data) (ms : Members) (seen : PassedValue) → q ≡ k → seen ≡ seen_as d
    → Some seen ≡ option_map seen_as (get_member q (put k d ms))
noted_at q k d ms seen same is = ap Some is ∙ sym (ap (λ n. option_map seen_as (get_member n (put k d ms))) same
    ∙ ap (option_map seen_as) (get_member-put k d ms))

kept_at : (q k : List ℕ) (d : Data) (ms : Members) (o : Option PassedValue) → (q ≡ k → ⊥) → o ≡ option_map seen_as (get_member q ms)
    → o ≡ option_map seen_as (get_member q (put k d ms))
kept_at q k d ms o other is = is ∙ ap (option_map seen_as) (sym (get_member-put_other q k d ms other))

among_still : (k : List ℕ) (d : Data) (ms : Members) (only : Bool) → is_among k (member_names form.Document) ≡ true
    → only ≡ members_among (member_names form.Document) ms → only ≡ members_among (member_names form.Document) (put k d ms)
among_still k d ms only listed is =
    let names = member_names form.Document in
    is ∙ sym (members_among-put names k d ms ∙ ap (λ b. b && members_among names ms) listed)

apart : (q p k : List ℕ) → bytes_eq q p ≡ false → k ≡ p → q ≡ k → ⊥
apart q p k differ is same = true≢false (sym ((bytes_eq-Decides q p).1 (same ∙ is)) ∙ differ)

module _ (notes : Notes) (k : List ℕ) (d : Data) (ms : Members) (seen : PassedValue) (is : seen ≡ seen_as d)
    (noted : IsNoted notes ms) where
  pub version_noted : k ≡ codes "ordtx" → IsNoted (record notes { version = Some seen }) (put k d ms)
  version_noted named = record {
    only = among_still k d ms notes.only (ap (λ n. is_among n (member_names form.Document)) named) noted.only;
    version = noted_at (codes "ordtx") k d ms seen (sym named) is;
    objects = kept_at (codes "objects") k d ms notes.objects (apart (codes "objects") (codes "ordtx") k refl named) noted.objects;
    transactions = kept_at (codes "transactions") k d ms notes.transactions
        (apart (codes "transactions") (codes "ordtx") k refl named) noted.transactions;
  }

  pub objects_noted : k ≡ codes "objects" → (n : ℕ) → IsNoted (record notes { objects = Some seen; objects_times = n }) (put k d ms)
  objects_noted named n = record {
    only = among_still k d ms notes.only (ap (λ n. is_among n (member_names form.Document)) named) noted.only;
    version = kept_at (codes "ordtx") k d ms notes.version (apart (codes "ordtx") (codes "objects") k refl named) noted.version;
    objects = noted_at (codes "objects") k d ms seen (sym named) is;
    transactions = kept_at (codes "transactions") k d ms notes.transactions
        (apart (codes "transactions") (codes "objects") k refl named) noted.transactions;
  }

  pub transactions_noted : k ≡ codes "transactions" → (n : ℕ)
      → IsNoted (record notes { transactions = Some seen; transactions_times = n }) (put k d ms)
  transactions_noted named n = record {
    only = among_still k d ms notes.only (ap (λ n. is_among n (member_names form.Document)) named) noted.only;
    version = kept_at (codes "ordtx") k d ms notes.version
        (apart (codes "ordtx") (codes "transactions") k refl named) noted.version;
    objects = kept_at (codes "objects") k d ms notes.objects
        (apart (codes "objects") (codes "transactions") k refl named) noted.objects;
    transactions = noted_at (codes "transactions") k d ms seen (sym named) is;
  }

  -- a member of another name
  pub other_noted : bytes_eq k (codes "ordtx") ≡ false → bytes_eq k (codes "objects") ≡ false
      → bytes_eq k (codes "transactions") ≡ false → IsNoted (record notes { only = false }) (put k d ms)
  other_noted a b e = record {
    only = sym (members_among-put (member_names form.Document) k d ms ∙ rw (a, b, e) refl);
    version = kept_at (codes "ordtx") k d ms notes.version (differs (codes "ordtx") a) noted.version;
    objects = kept_at (codes "objects") k d ms notes.objects (differs (codes "objects") b) noted.objects;
    transactions = kept_at (codes "transactions") k d ms notes.transactions (differs (codes "transactions") e) noted.transactions;
  }
    where
      differs : (q : List ℕ) → bytes_eq k q ≡ false → q ≡ k → ⊥
      differs q differ same = true≢false (sym ((bytes_eq-Decides k q).1 (sym same)) ∙ differ)

-- ---- values that are no objects

-- the value that was read, if there was one
read_or_null : Option (Data × List Token) → Data
read_or_null None = null
read_or_null (Some p) = p.0

no_object_items : (o : Option (Items × List Token)) → as_object (read_or_null (parse_map array o)) ≡ None
unfolding read_or_null
no_object_items None = refl
no_object_items (Some p) = refl

no_object_number : (o : Option Num) (rest : List Token)
    → as_object (read_or_null (option_map {U = Data × List Token} (λ d. (d, rest)) (option_map number o))) ≡ None
unfolding read_or_null
no_object_number None rest = refl
no_object_number (Some x) rest = refl

-- a value that begins with another token is no object
pub no_object : (depth : ℕ) (token : Lent) (rest new : List Token) (d : Data) → 0 < depth → (token ≡ lent.BeginObject → ⊥)
    → converted of_json (json.value depth (token_of token ∷ rest)) ≡ Some (d, new) → as_object d ≡ None
unfolding read_or_null
no_object depth token rest new d some other e =
    ap (λ o. as_object (read_or_null o)) (sym e) ∙ by token other
  where
    by : (k : Lent) → (k ≡ lent.BeginObject → ⊥) → as_object (read_or_null (converted of_json (json.value depth (token_of k ∷ rest))))
        ≡ None
    by lent.BeginObject never = absurd (never refl)
    by lent.BeginArray never = ap (λ o. as_object (read_or_null o)) (array_opened depth rest some) ∙ no_object_items _
    by lent.EndObject never = ap (λ o. as_object (read_or_null (converted of_json o))) (value_is depth (Token.end_object ∷ rest))
    by lent.EndArray never = ap (λ o. as_object (read_or_null (converted of_json o))) (value_is depth (Token.end_array ∷ rest))
    by (lent.Key s) never = ap (λ o. as_object (read_or_null (converted of_json o))) (value_is depth (Token.key s.now ∷ rest))
    by (lent.String s) never = ap (λ o. as_object (read_or_null (converted of_json o))) (value_is depth (Token.string s.now ∷ rest))
    by (lent.Number s) never = ap (λ o. as_object (read_or_null (converted of_json o))) (value_is depth (Token.number s.now ∷ rest))
        ∙ no_object_number (number_of s.now) rest
    by (lent.Bool b) never = ap (λ o. as_object (read_or_null (converted of_json o))) (value_is depth (Token.boolean b ∷ rest))
    by lent.Null never = ap (λ o. as_object (read_or_null (converted of_json o))) (value_is depth (Token.null ∷ rest))
    by lent.Bad never = ap (λ o. as_object (read_or_null (converted of_json o))) (value_is depth (Token.bad ∷ rest))

-- ---- the shape by its notes

version_by : (o : Option ℤ) → noted_version (Some (whole_or_other o)) ≡ option_and_then (within 1 LAST_VERSION) o
version_by None = refl
version_by (Some n) = refl

version_same : (o : Option Data) → noted_version (option_map seen_as o)
    ≡ option_and_then (within 1 LAST_VERSION) (option_and_then whole o)
version_same None = refl
version_same (Some null) = refl
version_same (Some (boolean b)) = refl
version_same (Some (number x)) = version_by (as_i64 x)
version_same (Some (string s)) = refl
version_same (Some (array ds)) = refl
version_same (Some (object ms)) = refl

count_by : (o : Option ℤ) → noted_count (Some (whole_or_other o)) ≡ None
count_by None = refl
count_by (Some n) = refl

count_same : (o : Option Data) → noted_count (option_map seen_as o) ≡ option_map (λ ds. fit (items_len ds)) (option_and_then as_array o)
count_same None = refl
count_same (Some null) = refl
count_same (Some (boolean b)) = refl
count_same (Some (number x)) = count_by (as_i64 x)
count_same (Some (string s)) = refl
count_same (Some (array ds)) = refl
count_same (Some (object ms)) = refl

above : (a b : ℕ) (r : Bool) → nat_le a b ≡ r → b < a → nat_le a b ≡ false
above a b true is more = absurd (omega (arith, leb-true a b is, more))
above a b false is more = is

fit_within : (n most : ℕ) (b : Bool) → nat_lt n 4294967295 ≡ b → most < 4294967295 → nat_le (fit n) most ≡ nat_le n most
fit_within n most true is few = rw is refl
fit_within n most false is few =
    let many : 4294967295 ≤ n = ltb-false n 4294967295 is in
    rw is (above 4294967295 most _ refl few ∙ sym (above n most _ refl (omega (arith, many, few))))

is_list : (o : Option Items) → is_some (option_map (λ ds. fit (items_len ds)) o) ≡ is_some o
is_list None = refl
is_list (Some ds) = refl

few_items : (o : Option Items) (most : ℕ) → most < 4294967295
    → nat_le (unwrap_or (option_map (λ ds. fit (items_len ds)) o) 0) most ≡ nat_le (items_len (or_no_items o)) most
few_items None most few = refl
few_items (Some ds) most few = fit_within (items_len ds) most _ refl few

-- what is asked of a document's shape is known by its notes
pub noted_shape : (notes : Notes) (ms : Members) → IsNoted notes ms → noted_asked notes ≡ document_shape_asked (object ms)
unfolding document_shape_asked
noted_shape notes ms noted =
    let version = version_in (object ms) in
    let limits = limits_of version in
    let within = limits_within version in
    rw (
      noted.only,
      noted.version,
      noted.objects,
      noted.transactions,
      version_same (get_member (codes "ordtx") ms),
      count_same (get_member (codes "objects") ms),
      count_same (get_member (codes "transactions") ms),
      is_list (option_and_then as_array (get_member (codes "objects") ms)),
      is_list (option_and_then as_array (get_member (codes "transactions") ms)),
      few_items (option_and_then as_array (get_member (codes "objects") ms)) limits.objects (omega (arith, within.objects)),
      few_items (option_and_then as_array (get_member (codes "transactions") ms)) limits.transactions (omega (arith, within.transactions)),
    ) refl

-- the version that is noted of a document is its version
pub noted_version_in : (notes : Notes) (d : Data) → AreNoted (Some notes) d → version_in_notes notes ≡ version_in d
noted_version_in notes d (ms, is, noted) =
    ap (λ o. unwrap_or (noted_version o) 1) noted.version
    ∙ ap (λ o. unwrap_or o 1) (version_same (get_member (codes "ordtx") ms))
    ∙ ap version_in (sym is)

-- a value that is no object has the first version
pub no_object_version : (d : Data) → as_object d ≡ None → version_in d ≡ 1
no_object_version null none = refl
no_object_version (boolean b) none = refl
no_object_version (number x) none = refl
no_object_version (string s) none = refl
no_object_version (array ds) none = refl
no_object_version (object ms) none = cc
