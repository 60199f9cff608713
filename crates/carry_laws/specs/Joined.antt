-- The value of a document with objects that were carried into it.
use Rattle.std.specs.Prelude.{ℕ, List, [], ◌∷◌, codes}
use Rattle.serde_json.specs.Data.{Data, array, member, no_items, item, Items, no_members, number, object, unsigned}
use Rattle.objects.specs.Entries.{State}
use Rattle.meaning.specs.Words.{Naming}
use Rattle.batch.specs.Names.{names_of}
use Rattle.doc_tree.specs.Scope.{Numbers, no_numbers}
use Rattle.doc_tree.specs.Spelled.{starts_of}
use Rattle.carry.specs.Joined.{StartOf}
use Rattle.carry_laws.specs.CarriedData.{object_data}

abbrev pub starts_data : List StartOf → Items
starts_data [] = no_items
starts_data (start ∷ starts) = item (object_data start.names start.place start.value) (starts_data starts)

-- what these starts spell in a document of a version, with the texts that they number
abbrev pub spelled_starts : ℕ → List StartOf → State × Numbers
spelled_starts version starts = starts_of version no_numbers (starts_data starts)

abbrev pub names_after : Numbers → Naming
names_after numbers = names_of (record { objects = []; items = numbers.items; reasons = numbers.reasons })

-- a version, these starts and these transactions
abbrev pub joined_data : ℕ → List StartOf → Items → Data
joined_data version starts transactions = object (member (codes "objects") (array (starts_data starts))
    (member (codes "ordtx") (number (unsigned version)) (member (codes "transactions") (array transactions) no_members)))
