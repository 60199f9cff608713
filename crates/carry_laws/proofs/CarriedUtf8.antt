-- The document of objects as they are is UTF-8.
use Rattle.std.proofs.Common.{◌≡◌, ℕ, pos, negsuc, ◌+◌, ◌≤◌, true, List, [], ◌∷◌, ◌++◌, map, decimal, refl, arith, IsUtf8}
use Rattle.std.specs.Prelude.{codes}
use Rattle.std.specs.Fmt.{signed_decimal}
use Rattle.std.specs.FinMap as finite_map
use Rattle.std.specs.List.{AllByRecursion, list_all}
use Rattle.std.specs.Str.{IsAscii}
use Rattle.std.proofs.lemmas.Bool.{and_parts}
use Rattle.std.proofs.lemmas.Fmt.{IsAscii-decimal, IsAscii-signed}
use Rattle.std.proofs.lemmas.Str.{IsUtf8-append, IsUtf8-from_ascii, IsUtf8-nil}
use Rattle.std.proofs.lemmas.Str.Ascii.{IsAscii-cons, IsAscii-nil}
use Rattle.json.proofs.Printed.Utf8.{IsUtf8-are_ascii}
use Rattle.atoms.specs.declared.item.Item.{Item}
use Rattle.objects.specs.Entries.{State}
use Rattle.objects.specs.Objects.{kind_of_value, Content, Number, Signed, Set, Queue, Directory, content_of}
use Rattle.objects.specs.declared.kind.Value.{Value}
use Rattle.meaning.specs.Words.{Naming, members, joined_by}
use Rattle.vocabulary.specs.Words.{kind_text}
use Rattle.batch.specs.Names.{is_name, is_name_byte}
use Rattle.meaning.specs.declared.limits.TheConstants.{MAX_START}
use Rattle.doc_rules.specs.declared.limits.TheConstants.{LAST_VERSION}
use Rattle.carry.specs.Carried.{carried_text, content_json, document_head, item_text, list_text, object_text, object_texts, pair_text}
use Rattle.carry.specs.Carried.{quoted, start_text}
use Rattle.carry_laws.proofs.Listed.{AreNamedBoth, AreWritable, IsNamed, IsWritable, IsWritableContent}
use Rattle.carry_laws.proofs.KindWords.{kind_named}
use Rattle.carry_laws.proofs.NamesPlain.{high_byte}

bytes_ascii : (version : ℕ) (s : List ℕ) → list_all (is_name_byte version) s ≡ true → IsAscii s
bytes_ascii version [] e = IsAscii-nil
bytes_ascii version (x ∷ s) e =
    let both = and_parts _ _ e in
    let high = high_byte version x both.0 in
    IsAscii-cons x s (omega arith) (bytes_ascii version s both.1)

name_utf8 : (version : ℕ) (s : List ℕ) → is_name version s ≡ true → IsUtf8 s
unfolding is_name
name_utf8 version s e = IsUtf8-from_ascii s (bytes_ascii version s (and_parts _ _ e).1)

between_utf8 : (a b c : List ℕ) → IsUtf8 a → IsUtf8 b → IsUtf8 c → IsUtf8 (a ++ b ++ c)
between_utf8 a b c first second third = IsUtf8-append (a ++ b) c (IsUtf8-append a b first second) third

quoted_utf8 : (s : List ℕ) → IsUtf8 s → IsUtf8 (quoted s)
quoted_utf8 s is = between_utf8 (codes "\"") s (codes "\"") (IsUtf8-are_ascii (codes "\"") refl) is (IsUtf8-are_ascii (codes "\"") refl)

joined_utf8 : (separator : List ℕ) → IsUtf8 separator → (texts : List (List ℕ)) → AllByRecursion IsUtf8 texts
    → IsUtf8 (joined_by separator texts)
joined_utf8 separator is [] all = IsUtf8-nil
joined_utf8 separator is (text ∷ []) all = all.0
joined_utf8 separator is (text ∷ next ∷ texts) all =
    between_utf8 text separator (joined_by separator (next ∷ texts)) all.0 is (joined_utf8 separator is (next ∷ texts) all.1)

list_utf8 : (texts : List (List ℕ)) → AllByRecursion IsUtf8 texts → IsUtf8 (list_text texts)
list_utf8 texts all = between_utf8 (codes "[") (joined_by (codes ", ") texts) (codes "]") (IsUtf8-are_ascii (codes "[") refl)
    (joined_utf8 (codes ", ") (IsUtf8-are_ascii (codes ", ") refl) texts all) (IsUtf8-are_ascii (codes "]") refl)

number_utf8 : (n : ℕ) → n ≤ MAX_START → IsUtf8 (decimal n)
number_utf8 n small = IsUtf8-from_ascii (decimal n) (IsAscii-decimal n (omega arith))

module _ (version : ℕ) (names : Naming) where
  items_utf8 : (xs : List Item) → AllByRecursion (IsNamed version names) xs → AllByRecursion IsUtf8 (map (item_text names) xs)
  items_utf8 [] named = tt
  items_utf8 (x ∷ xs) named = (quoted_utf8 (names.item x) (name_utf8 version (names.item x) named.0), items_utf8 xs named.1)

  pairs_utf8 : (pairs : List (Item × Item)) → AllByRecursion (AreNamedBoth version names) pairs
      → AllByRecursion IsUtf8 (map (pair_text names) pairs)
  pairs_utf8 [] named = tt
  pairs_utf8 (pair ∷ pairs) named = (
    list_utf8 (item_text names pair.0 ∷ item_text names pair.1 ∷ [])
        (items_utf8 (pair.0 ∷ pair.1 ∷ []) (named.0.0, (named.0.1, tt))),
    pairs_utf8 pairs named.1,
  )

  content_utf8 : (c : Content) → IsWritableContent version names c → IsUtf8 (content_json names c)
  content_utf8 (Number n) ok = number_utf8 n ok
  content_utf8 (Signed (pos n)) ok = number_utf8 n ok
  content_utf8 (Signed (negsuc n)) ok = IsUtf8-from_ascii (signed_decimal (negsuc n)) (IsAscii-signed (negsuc n) (omega arith))
  content_utf8 (Set s) ok = list_utf8 (map (item_text names) (members s)) (items_utf8 (members s) ok)
  content_utf8 (Queue q) ok = list_utf8 (map (item_text names) q) (items_utf8 q ok)
  content_utf8 (Directory d) ok = list_utf8 (map (pair_text names) (finite_map.entries d)) (pairs_utf8 (finite_map.entries d) ok)

  object_utf8 : (n : ℕ) (v : Value) → is_name version (names.object n) ≡ true → IsWritable version names v
      → IsUtf8 (object_text names n v)
  object_utf8 n v named ok =
      let name = quoted (names.object n) in
      let kind = quoted (kind_text (kind_of_value v)) in
      let first = codes "{\"name\": " in
      let second = codes ", \"kind\": " in
      let third = codes ", \"start\": " in
      between_utf8 (first ++ name ++ second ++ kind ++ third) (start_text names v) (codes "}")
      (between_utf8 (first ++ name ++ second) kind third
      (between_utf8 first name second (IsUtf8-are_ascii first refl)
      (quoted_utf8 (names.object n) (name_utf8 version (names.object n) named)) (IsUtf8-are_ascii second refl))
      (quoted_utf8 (kind_text (kind_of_value v)) (name_utf8 1 _ (kind_named (kind_of_value v)))) (IsUtf8-are_ascii third refl))
      (content_utf8 (content_of v) ok) (IsUtf8-are_ascii (codes "}") refl)

  objects_utf8 : (n : ℕ) (values : State) → AreWritable version names n values → AllByRecursion IsUtf8 (object_texts names n values)
  objects_utf8 n [] ok = tt
  objects_utf8 n (v ∷ values) ok = (object_utf8 n v ok.0 ok.1, objects_utf8 (n + 1) values ok.2)

module _ (version : ℕ) (known : version ≤ LAST_VERSION) where
  -- what it begins with
  head_utf8 : IsUtf8 (document_head version)
  head_utf8 = between_utf8 (codes "{\"ordtx\": ") (decimal version) (codes ",\n\"objects\": [\n")
      (IsUtf8-are_ascii (codes "{\"ordtx\": ") refl) (number_utf8 version (omega arith))
      (IsUtf8-are_ascii (codes ",\n\"objects\": [\n") refl)

  pub carried_utf8 : (names : Naming) (values : State) → AreWritable version names 0 values → IsUtf8 (carried_text version names values)
  carried_utf8 names values ok = between_utf8 (document_head version) (joined_by (codes ",\n") (object_texts names 0 values))
      (codes "\n],\n\"transactions\": [\n]}\n") head_utf8
      (joined_utf8 (codes ",\n") (IsUtf8-are_ascii (codes ",\n") refl) (object_texts names 0 values)
      (objects_utf8 version names 0 values ok))
      (IsUtf8-are_ascii _ refl)
