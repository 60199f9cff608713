-- The JSON value of the document of objects as they are. Members of an object come in the order of their keys.
use Rattle.std.specs.Prelude.{ℕ, ◌+◌, List, [], ◌∷◌, codes}
use Rattle.std.specs.FinMap as finite_map
use Rattle.serde_json.specs.Data.{Data, number, string, array, object, unsigned, Items, no_items, item, no_members, member}
use Rattle.serde_json.specs.Find.{of_integer}
use Rattle.atoms.specs.declared.item.Item.{Item}
use Rattle.objects.specs.Entries.{State}
use Rattle.objects.specs.Objects.{kind_of_value, Content, Number, Signed, Set, Queue, Directory, content_of}
use Rattle.objects.specs.declared.kind.Value.{Value}
use Rattle.meaning.specs.Words.{Naming, members}
use Rattle.vocabulary.specs.Words.{kind_text}

abbrev pub items_data : Naming → List Item → Items
items_data names [] = no_items
items_data names (x ∷ xs) = item (string (names.item x)) (items_data names xs)

abbrev pub pair_data : Naming → Item × Item → Data
pair_data names pair = array (item (string (names.item pair.0)) (item (string (names.item pair.1)) no_items))

abbrev pub pairs_data : Naming → List (Item × Item) → Items
pairs_data names [] = no_items
pairs_data names (pair ∷ pairs) = item (pair_data names pair) (pairs_data names pairs)

abbrev pub content_data : Naming → Content → Data
content_data names (Number n) = number (unsigned n)
content_data names (Signed n) = number (of_integer n)
content_data names (Set s) = array (items_data names (members s))
content_data names (Queue q) = array (items_data names q)
content_data names (Directory d) = array (pairs_data names (finite_map.entries d))

abbrev pub start_data : Naming → Value → Data
start_data names v = content_data names (content_of v)

abbrev pub object_data : Naming → ℕ → Value → Data
object_data names n v = object (member (codes "kind") (string (kind_text (kind_of_value v)))
    (member (codes "name") (string (names.object n)) (member (codes "start") (start_data names v) no_members)))

abbrev pub objects_data : Naming → ℕ → State → Items
objects_data names n [] = no_items
objects_data names n (v ∷ values) = item (object_data names n v) (objects_data names (n + 1) values)

abbrev pub carried_data : ℕ → Naming → State → Data
carried_data version names values = object (member (codes "objects") (array (objects_data names 0 values))
    (member (codes "ordtx") (number (unsigned version)) (member (codes "transactions") (array no_items) no_members)))
