-- The transactions of a document, as they are written over.
use Rattle.std.specs.Prelude.{ℕ, List, [], ◌∷◌, ◌++◌, Option, None, codes, map, option_and_then, unwrap_or, if◌then◌else◌}
use Rattle.std.specs.Str.{is_utf8}
use Rattle.json.specs.Find.{as_array, get}
use Rattle.json.specs.Json.{Json, Items, no_items, item, document}
use Rattle.json.specs.Print.{print}
use Rattle.json.specs.Tree.{json_tokens}
use Rattle.meaning.specs.Words.{joined_by}
use Rattle.carry.specs.Carried.{document_head}
use Rattle.carry.specs.Joined.{StartOf, object_text_of}

-- the value that the bytes are, with numbers as they are written and members in their order
abbrev pub tree_of : List ℕ → Option Json
tree_of bytes = if is_utf8 bytes then document bytes else None

-- the items of the last member `transactions`
abbrev pub transactions_of : Option Json → Items
transactions_of tree = unwrap_or (option_and_then as_array (option_and_then (get (codes "transactions")) tree)) no_items

-- each without a space
abbrev pub item_texts : Items → List (List ℕ)
item_texts no_items = []
item_texts (item j js) = print (json_tokens j) ∷ item_texts js

abbrev pub transaction_texts : List ℕ → List (List ℕ)
transaction_texts bytes = item_texts (transactions_of (tree_of bytes))

-- the document of a version, of these starts with the transactions of that one, a start or a transaction a line
abbrev pub joined_text : ℕ → List StartOf → List ℕ → List ℕ
joined_text version starts bytes =
    document_head version ++ joined_by (codes ",\n") (map object_text_of starts)
    ++ codes "\n],\n\"transactions\": [\n" ++ joined_by (codes ",\n") (transaction_texts bytes) ++ codes "\n]}\n"
