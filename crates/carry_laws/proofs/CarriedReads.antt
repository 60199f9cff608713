-- The document of objects as they are is JSON of a known value.
use Rattle.std.proofs.Common.{◌≡◌, ℕ, pos, negsuc, ◌+◌, ◌≤◌, List, [], ◌∷◌, decimal, Some, None, refl, sym, ap, ◌∙◌, arith, append-nil}
use Rattle.std.specs.Prelude.{cond, option_and_then, if◌then◌else◌}
use Rattle.std.specs.Str.{is_utf8}
use Rattle.std.specs.FinMap as finite_map
use Rattle.std.proofs.lemmas.Str.{is_utf8-from_IsUtf8}
use Rattle.json.specs.Json as json
use Rattle.json.specs.Tree.{depth, items_depth}
use Rattle.json.proofs.Printed.Trees.{value-json_tokens}
use Rattle.serde_json.specs.Data.{unsigned}
use Rattle.serde_json.specs.Read.{max_depth, number_of, of_items, of_json, read}
use Rattle.serde_json.proofs.Numbers.{number_of-decimal, number_of-negative}
use Rattle.atoms.specs.declared.item.Item.{Item}
use Rattle.objects.specs.Entries.{State}
use Rattle.objects.specs.declared.kind.Value.{Value}
use Rattle.objects.specs.Objects.{Content, Number, Signed, Set, Queue, Directory, content_of}
use Rattle.meaning.specs.Words.{Naming, members}
use Rattle.doc_rules.specs.declared.limits.TheConstants.{LAST_VERSION}
use Rattle.carry.specs.Carried.{carried_text}
use Rattle.carry_laws.specs.CarriedData.{carried_data, content_data, items_data, object_data, objects_data, pairs_data}
use Rattle.carry_laws.proofs.CarriedJson.{carried_json, carried_lexed, content_tree, items_json, object_json, objects_json, pairs_json}
use Rattle.carry_laws.proofs.CarriedJson.{start_json}
use Rattle.carry_laws.proofs.CarriedUtf8.{carried_utf8}
use Rattle.carry_laws.proofs.Lexemes.{tokens_alone}
use Rattle.carry_laws.proofs.Listed.{AreWritable, IsWritable, IsWritableContent}

-- the version is read
pub version_number : (version : ℕ) → version ≤ LAST_VERSION → number_of (decimal version) ≡ Some (unsigned version)
version_number version known = number_of-decimal version (omega arith)

module _ (names : Naming) where
  -- ---- the value

  items_read : (xs : List Item) → of_items (items_json names xs) ≡ Some (items_data names xs)
  items_read [] = refl
  items_read (x ∷ xs) = rw (items_read xs)

  pairs_read : (pairs : List (Item × Item)) → of_items (pairs_json names pairs) ≡ Some (pairs_data names pairs)
  pairs_read [] = refl
  pairs_read (pair ∷ pairs) = rw (pairs_read pairs)

  content_read : (version : ℕ) (c : Content) → IsWritableContent version names c
      → of_json (content_tree names c) ≡ Some (content_data names c)
  content_read version (Number n) ok = rw (number_of-decimal n (omega arith))
  content_read version (Signed (pos n)) ok = rw (number_of-decimal n (omega arith))
  content_read version (Signed (negsuc n)) ok = rw (number_of-negative n (omega arith))
  content_read version (Set s) ok = rw (items_read (members s))
  content_read version (Queue q) ok = rw (items_read q)
  content_read version (Directory d) ok = rw (pairs_read (finite_map.entries d))

  pub object_read : (version n : ℕ) (v : Value) → IsWritable version names v
      → of_json (object_json names n v) ≡ Some (object_data names n v)
  object_read version n v ok = rw (content_read version (content_of v) ok)

  objects_read : (version n : ℕ) (values : State) → AreWritable version names n values
      → of_items (objects_json names n values) ≡ Some (objects_data names n values)
  objects_read version n [] ok = refl
  objects_read version n (v ∷ values) ok = rw (object_read version n v ok.1, objects_read version (n + 1) values ok.2)

  document_read : (version : ℕ) → version ≤ LAST_VERSION → (values : State) → AreWritable version names 0 values
      → of_json (carried_json version names values) ≡ Some (carried_data version names values)
  document_read version known values ok = rw (version_number version known, objects_read version 0 values ok)

  -- ---- how deep it is

  items_flat : (xs : List Item) → items_depth (items_json names xs) ≤ 0
  items_flat [] = omega arith
  items_flat (x ∷ xs) = omega (arith, items_flat xs)

  pairs_flat : (pairs : List (Item × Item)) → items_depth (pairs_json names pairs) ≤ 1
  pairs_flat [] = omega arith
  pairs_flat (pair ∷ pairs) = omega (arith, pairs_flat pairs)

  content_flat : (c : Content) → depth (content_tree names c) ≤ 2
  content_flat (Number n) = omega arith
  content_flat (Signed n) = omega arith
  content_flat (Set s) = omega (arith, items_flat (members s))
  content_flat (Queue q) = omega (arith, items_flat q)
  content_flat (Directory d) = omega (arith, pairs_flat (finite_map.entries d))

  pub start_flat : (v : Value) → depth (start_json names v) ≤ 2
  start_flat v = content_flat (content_of v)

  objects_flat : (n : ℕ) (values : State) → items_depth (objects_json names n values) ≤ 3
  objects_flat n [] = omega arith
  objects_flat n (v ∷ values) = omega (arith, start_flat v, objects_flat (n + 1) values)

  shallow : (version : ℕ) (values : State) → depth (carried_json version names values) ≤ 127
  shallow version values = omega (arith, objects_flat 0 values)

  -- ---- the text

  module _ (version : ℕ) (known : version ≤ LAST_VERSION) where
    pub carried_read : (values : State) → AreWritable version names 0 values
        → read (carried_text version names values) ≡ Some (carried_data version names values)
    carried_read values ok =
        let j = carried_json version names values in
        let tokens_are = tokens_alone (carried_text version names values) j (carried_lexed version known names values ok) in
        ap (λ o. option_and_then of_json (option_and_then (λ p. json.if_last p.0 p.1) o))
        (ap (json.value max_depth) (tokens_are ∙ sym (append-nil _))
        ∙ value-json_tokens j max_depth [] (shallow version values))
        ∙ document_read version known values ok

    pub carried_value : (values : State) → AreWritable version names 0 values
        → (if is_utf8 (carried_text version names values) then read (carried_text version names values) else None)
        ≡ Some (carried_data version names values)
    carried_value values ok =
        let utf8 = is_utf8-from_IsUtf8 (carried_text version names values) (carried_utf8 version known names values ok) in
        ap (λ b. cond b (read (carried_text version names values)) None) utf8 ∙ carried_read values ok
