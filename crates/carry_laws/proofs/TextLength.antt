-- How long the document of objects as they are can be.
use Rattle.std.proofs.Common.{◌≡◌, ℕ, pos, negsuc, suc, ◌+◌, ◌*◌, ◌≤◌, true, None, List, [], ◌∷◌, ◌++◌, map, length, decimal, arith}
use Rattle.std.proofs.Common.{length-append}
use Rattle.std.specs.Prelude.{codes}
use Rattle.std.specs.FinMap as finite_map
use Rattle.std.specs.List.{AllByRecursion}
use Rattle.std.proofs.lemmas.Fmt.{length-decimal-le}
use Rattle.atoms.specs.declared.item.Item.{Item}
use Rattle.objects.specs.Entries.{State}
use Rattle.objects.specs.Objects.{kind_of_value, Content, Number, Signed, Set, Queue, Directory, content_length, content_of}
use Rattle.objects.specs.declared.kind.Kind.{Kind}
use Rattle.objects.specs.declared.kind.Value.{Value}
use Rattle.meaning.specs.Words.{Naming, members, joined_by}
use Rattle.vocabulary.specs.Words.{kind_text}
use Rattle.batch.specs.Limits.{all_entries_in, entries_in}
use Rattle.batch.specs.Names.{is_name}
use Rattle.meaning.specs.declared.limits.TheConstants.{MAX_START}
use Rattle.doc_rules.specs.Limits.{limits_of}
use Rattle.carry.specs.Carried.{carried_text, document_head, first_unfit, item_text, list_text, object_text, object_texts, pair_text}
use Rattle.carry.specs.Carried.{content_json, quoted, start_text}
use Rattle.carry_laws.specs.Carrying.{IsCarriedVersion}
use Rattle.carry_laws.proofs.Carriable.{first_fits}
use Rattle.carry_laws.proofs.ItemsOf.{members_few}
use Rattle.carry_laws.proofs.KindWords.{kind_named}
use Rattle.carry_laws.proofs.LaterNames.{most_bytes, name_bytes}
use Rattle.carry_laws.proofs.Listed.{AreNamedBoth, AreWritable, IsNamed, IsWritable, IsWritableContent}
use Rattle.carry_laws.proofs.Versions.{enough_bytes}

-- the bytes of all the texts, with two more for each
abbrev total : List (List ℕ) → ℕ
total [] = 0
total (text ∷ texts) = length text + 2 + total texts

joined_length : (separator : List ℕ) (texts : List (List ℕ)) → length separator ≤ 2 → length (joined_by separator texts) ≤ total texts
joined_length separator [] short = omega arith
joined_length separator (text ∷ []) short = omega arith
joined_length separator (text ∷ next ∷ texts) short =
    let rest = joined_length separator (next ∷ texts) short in
    omega (arith, rest, length-append (text ++ separator) (joined_by separator (next ∷ texts)), length-append text separator)

total_most : (most : ℕ) (texts : List (List ℕ)) → AllByRecursion (λ text. length text ≤ most) texts
    → total texts ≤ (most + 2) * length texts
total_most most [] all = omega arith
total_most most (text ∷ texts) all = let first = all.0 in omega (arith, total_most most texts all.1)

list_length : (texts : List (List ℕ)) → length (list_text texts) ≤ total texts + 2
list_length texts =
    let two : length (codes ", ") ≤ 2 = omega arith in
    omega (arith, joined_length (codes ", ") texts two, length-append (codes "[" ++ joined_by (codes ", ") texts) (codes "]"))

name_length : (version : ℕ) (name : List ℕ) → is_name version name ≡ true → length name ≤ 128
name_length version name e = omega (arith, name_bytes version name e, most_bytes version)

quoted_length : (text : List ℕ) → length (quoted text) ≤ length text + 2
quoted_length text = omega (arith, length-append (codes "\"" ++ text) (codes "\""))

kind_length : (k : Kind) → length (kind_text k) ≤ 32
kind_length k = name_bytes 1 (kind_text k) (kind_named k)

number_length : (n : ℕ) → n ≤ MAX_START → length (decimal n) ≤ 16
number_length n small = length-decimal-le 16 n (omega arith) (omega arith) (omega arith)

module _ (version : ℕ) (names : Naming) where
  items_length : (xs : List Item) → AllByRecursion (IsNamed version names) xs → total (map (item_text names) xs) ≤ 132 * length xs
  items_length [] named = omega arith
  items_length (x ∷ xs) named =
      omega (arith, items_length xs named.1, quoted_length (names.item x), name_length version (names.item x) named.0)

  pair_length : (pair : Item × Item) → AreNamedBoth version names pair → length (pair_text names pair) ≤ 266
  pair_length pair named =
      omega (
        arith,
        list_length (item_text names pair.0 ∷ item_text names pair.1 ∷ []),
        items_length (pair.0 ∷ pair.1 ∷ []) (named.0, (named.1, tt)),
      )

  pairs_length : (pairs : List (Item × Item)) → AllByRecursion (AreNamedBoth version names) pairs
      → total (map (pair_text names) pairs) ≤ 268 * length pairs
  pairs_length [] named = omega arith
  pairs_length (pair ∷ pairs) named = omega (arith, pairs_length pairs named.1, pair_length pair named.0)

  content_chars : (c : Content) → IsWritableContent version names c → length (content_json names c) ≤ 268 * content_length c + 20
  content_chars (Number n) ok = omega (arith, number_length n ok)
  content_chars (Signed (pos n)) ok = omega (arith, number_length n ok)
  content_chars (Signed (negsuc n)) ok = omega (arith, number_length (suc n) ok)
  content_chars (Set s) ok =
      omega (arith, list_length (map (item_text names) (members s)), items_length (members s) ok, members_few s)
  content_chars (Queue q) ok = omega (arith, list_length (map (item_text names) q), items_length q ok)
  content_chars (Directory d) ok =
      omega (
        arith,
        list_length (map (pair_text names) (finite_map.entries d)),
        pairs_length (finite_map.entries d) ok,
        finite_map.len-entries d,
      )

  parts_length : (a name b kind c start d : List ℕ) → length (a ++ name ++ b ++ kind ++ c ++ start ++ d)
      ≡ length a + length name + length b + length kind + length c + length start + length d
  parts_length a name b kind c start d = simp length-append

  object_length : (n : ℕ) (v : Value) → is_name version (names.object n) ≡ true → IsWritable version names v
      → length (object_text names n v) ≤ 268 * entries_in v + 216
  object_length n v named ok =
      omega (
        arith,
        parts_length (codes "{\"name\": ") (quoted (names.object n)) (codes ", \"kind\": ") (quoted (kind_text (kind_of_value v)))
            (codes ", \"start\": ")
            (start_text names v) (codes "}"),
        quoted_length (names.object n),
        name_length version (names.object n) named,
        quoted_length (kind_text (kind_of_value v)),
        kind_length (kind_of_value v),
        content_chars (content_of v) ok,
      )

  objects_length : (n : ℕ) (values : State) → AreWritable version names n values
      → total (object_texts names n values) ≤ 268 * all_entries_in values + 218 * length values
  objects_length n [] ok = omega arith
  objects_length n (v ∷ values) ok = omega (arith, objects_length (n + 1) values ok.2, object_length n v ok.0 ok.1)

-- so many entries may start a document of the version
pub all_few : (version n entries : ℕ) (values : State) → entries ≤ (limits_of version).entries → first_unfit version n entries values ≡ None
    → entries + all_entries_in values ≤ (limits_of version).entries
all_few version n entries [] few fit = omega (arith, few)
all_few version n entries (v ∷ values) few fit =
    let fits = first_fits version n entries v values fit in
    omega (arith, all_few version (n + 1) (entries + entries_in v) values fits.few fits.rest)

-- the text is not longer than a document of the version may be
pub carried_length : (version : ℕ) → IsCarriedVersion version → (names : Naming) (values : State)
    → length values ≤ (limits_of version).objects → first_unfit version 0 0 values ≡ None → AreWritable version names 0 values
    → length (carried_text version names values) ≤ (limits_of version).bytes
carried_length version carried names values few fit ok =
    let first = codes "{\"ordtx\": " in
    let digits = decimal version in
    let objects = joined_by (codes ",\n") (object_texts names 0 values) in
    let tail = codes "\n],\n\"transactions\": [\n]}\n" in
    let two : length (codes ",\n") ≤ 2 = omega arith in
    let last = carried.1 in
    omega (
      arith,
      few,
      enough_bytes version carried,
      joined_length (codes ",\n") (object_texts names 0 values) two,
      objects_length version names 0 values ok,
      all_few version 0 0 values (omega arith) fit,
      length-append (document_head version ++ objects) tail,
      length-append (document_head version) objects,
      length-append (first ++ digits) (codes ",\n\"objects\": [\n"),
      length-append first digits,
      number_length version (omega (arith, last)),
    )
