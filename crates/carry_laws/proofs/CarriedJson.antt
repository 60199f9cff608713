-- The document of objects as they are, as JSON.
use Rattle.std.proofs.Common.{◌≡◌, ◌≤◌, ℕ, pos, negsuc, ◌+◌, true, List, [], ◌∷◌, ◌++◌, map, decimal, refl, sym, ap, ◌∙◌}
use Rattle.std.proofs.Common.{append_assoc, arith}
use Rattle.std.specs.Prelude.{codes}
use Rattle.std.specs.Fmt.{signed_decimal}
use Rattle.std.specs.FinMap as finite_map
use Rattle.std.specs.List.{AllByRecursion}
use Rattle.json.specs.Json as json
use Rattle.json.specs.Print.{IsNumber}
use Rattle.json.specs.Text.{content}
use Rattle.json.proofs.Printed.Numbers.{lex-number}
use Rattle.json.specs.Lex.{lex, between, token, comma, colon}
use Rattle.json.specs.Token.{Token}
use Rattle.json.proofs.Printed.Decimals.{IsNumber-decimal, IsNumber-signed_decimal}
use Rattle.atoms.specs.declared.item.Item.{Item}
use Rattle.objects.specs.Entries.{State}
use Rattle.objects.specs.Objects.{kind_of_value, Content, Number, Signed, Set, Queue, Directory, content_of}
use Rattle.objects.specs.declared.kind.Value.{Value}
use Rattle.meaning.specs.Words.{Naming, members, joined_by}
use Rattle.vocabulary.specs.Words.{kind_text}
use Rattle.batch.specs.Names.{is_name}
use Rattle.carry.specs.Carried.{carried_text, content_json, document_head, item_text, object_text, object_texts, pair_text, quoted}
use Rattle.carry.specs.Carried.{start_text}
use Rattle.doc_rules.specs.declared.limits.TheConstants.{LAST_VERSION}
use Rattle.carry_laws.proofs.Lexemes.{json_lexemes}
use Rattle.carry_laws.proofs.Listed.{AreWritable, IsWritable, IsWritableContent, IsNamed, AreNamedBoth}
use Rattle.carry_laws.proofs.KindWords.{kind_named}
use Rattle.carry_laws.proofs.NamesPlain.{name_plain}
use Rattle.carry_laws.proofs.Written.{AllWrite, Writes, joined_lexed, list_written, number_written, quoted_lexed, text_written}

abbrev pub items_json : Naming → List Item → json.Items
items_json names [] = json.no_items
items_json names (x ∷ xs) = json.item (json.string (names.item x)) (items_json names xs)

abbrev pub pair_json : Naming → Item × Item → json.Json
pair_json names pair = json.array (json.item (json.string (names.item pair.0)) (json.item (json.string (names.item pair.1)) json.no_items))

abbrev pub pairs_json : Naming → List (Item × Item) → json.Items
pairs_json names [] = json.no_items
pairs_json names (pair ∷ pairs) = json.item (pair_json names pair) (pairs_json names pairs)

abbrev pub content_tree : Naming → Content → json.Json
content_tree names (Number n) = json.number (decimal n)
content_tree names (Signed n) = json.number (signed_decimal n)
content_tree names (Set s) = json.array (items_json names (members s))
content_tree names (Queue q) = json.array (items_json names q)
content_tree names (Directory d) = json.array (pairs_json names (finite_map.entries d))

abbrev pub start_json : Naming → Value → json.Json
start_json names v = content_tree names (content_of v)

abbrev pub object_json : Naming → ℕ → Value → json.Json
object_json names n v = json.object (json.member (codes "name") (json.string (names.object n))
    (json.member (codes "kind") (json.string (kind_text (kind_of_value v)))
    (json.member (codes "start") (start_json names v) json.no_members)))

abbrev pub objects_json : Naming → ℕ → State → json.Items
objects_json names n [] = json.no_items
objects_json names n (v ∷ values) = json.item (object_json names n v) (objects_json names (n + 1) values)

abbrev pub carried_json : ℕ → Naming → State → json.Json
carried_json version names values = json.object (json.member (codes "ordtx") (json.number (decimal version))
    (json.member (codes "objects") (json.array (objects_json names 0 values))
    (json.member (codes "transactions") (json.array json.no_items) json.no_members)))

-- ---- the text

-- the parts of an object's text, and what follows it
object_parts : (a name b kind c start d rest : List ℕ)
    → (a ++ name ++ b ++ kind ++ c ++ start ++ d) ++ rest ≡ a ++ (name ++ (b ++ (kind ++ (c ++ (start ++ (d ++ rest))))))
object_parts a name b kind c start d rest = simp append_assoc

name_key : (rest : List ℕ) → lex between (codes "{\"name\": " ++ rest)
    ≡ token Token.begin_object ∷ token (Token.string (codes "name")) ∷ colon ∷ lex between rest
unfolding lex content
name_key rest = refl

kind_key : (rest : List ℕ) → lex between (codes ", \"kind\": " ++ rest)
    ≡ comma ∷ token (Token.string (codes "kind")) ∷ colon ∷ lex between rest
unfolding lex content
kind_key rest = refl

start_key : (rest : List ℕ) → lex between (codes ", \"start\": " ++ rest)
    ≡ comma ∷ token (Token.string (codes "start")) ∷ colon ∷ lex between rest
unfolding lex content
start_key rest = refl

closed : (rest : List ℕ) → lex between (codes "}" ++ rest) ≡ token Token.end_object ∷ lex between rest
unfolding lex
closed rest = refl

pub version_key : (version : ℕ) (rest : List ℕ) → lex between (document_head version ++ rest)
    ≡ token Token.begin_object ∷ token (Token.string (codes "ordtx")) ∷ colon
    ∷ lex between (decimal version ++ (codes ",\n\"objects\": [\n" ++ rest))
unfolding lex content
version_key version rest =
    let first = codes "{\"ordtx\": " in
    let digits = decimal version in
    let last = codes ",\n\"objects\": [\n" in
    ap (lex between) (append_assoc (first ++ digits) last rest ∙ append_assoc first digits (last ++ rest))

pub objects_key : (rest : List ℕ) → lex between (codes ",\n\"objects\": [\n" ++ rest)
    ≡ comma ∷ token (Token.string (codes "objects")) ∷ colon ∷ token Token.begin_array ∷ lex between rest
unfolding lex content
objects_key rest = refl

-- the version is written as a number
pub version_written : (version : ℕ) → version ≤ LAST_VERSION → IsNumber (decimal version)
version_written version known = IsNumber-decimal version (omega arith)

module _ (version : ℕ) (names : Naming) where
  items_written : (xs : List Item) → AllByRecursion (IsNamed version names) xs → AllWrite (map (item_text names) xs) (items_json names xs)
  items_written [] named = tt
  items_written (x ∷ xs) named = (text_written (names.item x) (name_plain version (names.item x) named.0), items_written xs named.1)

  pair_written : (pair : Item × Item) → AreNamedBoth version names pair → Writes (pair_text names pair) (pair_json names pair)
  pair_written pair named = list_written (item_text names pair.0 ∷ item_text names pair.1 ∷ [])
      (json.item (json.string (names.item pair.0)) (json.item (json.string (names.item pair.1)) json.no_items)) (
        text_written (names.item pair.0) (name_plain version (names.item pair.0) named.0),
        (text_written (names.item pair.1) (name_plain version (names.item pair.1) named.1), tt),
      )

  pairs_written : (pairs : List (Item × Item)) → AllByRecursion (AreNamedBoth version names) pairs
      → AllWrite (map (pair_text names) pairs) (pairs_json names pairs)
  pairs_written [] named = tt
  pairs_written (pair ∷ pairs) named = (pair_written pair named.0, pairs_written pairs named.1)

  content_written : (c : Content) → IsWritableContent version names c → Writes (content_json names c) (content_tree names c)
  content_written (Number n) ok = number_written (decimal n) (IsNumber-decimal n (omega arith))
  content_written (Signed (pos n)) ok = number_written (decimal n) (IsNumber-decimal n (omega arith))
  content_written (Signed (negsuc n)) ok =
      number_written (signed_decimal (negsuc n)) (IsNumber-signed_decimal (negsuc n) (omega arith))
  content_written (Set s) ok = list_written _ _ (items_written (members s) ok)
  content_written (Queue q) ok = list_written _ _ (items_written q ok)
  content_written (Directory d) ok = list_written _ _ (pairs_written (finite_map.entries d) ok)

  pub object_written : (n : ℕ) (v : Value) → is_name version (names.object n) ≡ true → IsWritable version names v
      → Writes (object_text names n v) (object_json names n v)
  object_written n v named ok rest ended =
      let name = names.object n in
      let kind = kind_text (kind_of_value v) in
      let start = json_lexemes (start_json names v) in
      ap (lex between) (object_parts (codes "{\"name\": ") (quoted name) (codes ", \"kind\": ") (quoted kind) (codes ", \"start\": ")
      (start_text names v) (codes "}") rest)
      ∙ name_key _ ∙ ap (λ ls. token Token.begin_object ∷ token (Token.string (codes "name")) ∷ colon ∷ ls) (
      quoted_lexed name _ (name_plain version name named) ∙ ap (λ ls. token (Token.string name) ∷ ls) (
      kind_key _ ∙ ap (λ ls. comma ∷ token (Token.string (codes "kind")) ∷ colon ∷ ls) (
      quoted_lexed kind _ (name_plain 1 kind (kind_named (kind_of_value v))) ∙ ap (λ ls. token (Token.string kind) ∷ ls) (
      start_key _ ∙ ap (λ ls. comma ∷ token (Token.string (codes "start")) ∷ colon ∷ ls) (
      content_written (content_of v) ok (codes "}" ++ rest) refl ∙ ap (λ ls. start ++ ls) (closed rest)
      ∙ sym (append_assoc start (token Token.end_object ∷ []) (lex between rest))
      )))))

  objects_written : (n : ℕ) (values : State) → AreWritable version names n values
      → AllWrite (object_texts names n values) (objects_json names n values)
  objects_written n [] ok = tt
  objects_written n (v ∷ values) ok = (object_written n v ok.0 ok.1, objects_written (n + 1) values ok.2)

pub carried_lexed : (version : ℕ) → version ≤ LAST_VERSION → (names : Naming) (values : State) → AreWritable version names 0 values
    → lex between (carried_text version names values) ≡ json_lexemes (carried_json version names values)
unfolding lex content
carried_lexed version known names values ok =
    let texts = joined_by (codes ",\n") (object_texts names 0 values) in
    let last = codes ",\n\"transactions\": [\n]}\n" in
    ap (lex between) (append_assoc (document_head version) texts (codes "\n]" ++ last))
    ∙ version_key version (texts ++ (codes "\n]" ++ last))
    ∙ ap (λ ls. token Token.begin_object ∷ token (Token.string (codes "ordtx")) ∷ colon ∷ ls) (
    lex-number (decimal version) _ (version_written version known) refl
    ∙ ap (λ ls. token (Token.number (decimal version)) ∷ ls) (
    objects_key (texts ++ (codes "\n]" ++ last))
    ∙ ap (λ ls. comma ∷ token (Token.string (codes "objects")) ∷ colon ∷ token Token.begin_array ∷ ls)
    (joined_lexed (codes ",\n") (codes "\n]") (λ r. refl) (λ r. refl) (λ r. refl) (λ r. refl)
    (object_texts names 0 values) (objects_json names 0 values) last (objects_written version names 0 values ok))))
