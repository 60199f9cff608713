-- What is taken from the tokens of a text, as the data that `serde_json` reads from them.
use Rattle.std.specs.Prelude.{⊤, ◌≡◌, ◌≤◌, ◌⊎◌, ◌∷◌, ℕ, Bool, List, length, Option, Some, None, codes, nat_le, true}
use Rattle.std.proofs.Common.{Less}
use Rattle.std.specs.Ordering.{nat_cmp}
use Rattle.std.specs.Cmp.Lexicographic.{slice_cmp}
use Rattle.json.specs.Token.{Token}
use Rattle.json.specs.Json as json
use Rattle.serde_json.specs.Data.{Data, array, boolean, number, object, string, unsigned, Items, item, Members, no_members, member, put}
use Rattle.serde_json.specs.Read.{of_json, of_items, of_members, converted}
use Rattle.doc_tree.specs.Scope.{Numbers}
use Rattle.doc_tree.specs.Spelled.{reason_of, spelled_map}
use Rattle.doc_tree.specs.Asked.{has_fills}
use Rattle.doc_tokens.specs.declared.stop.Stop.{Stop}
use Rattle.doc_tokens.specs.declared.stop.Stop.TheVariants.{NoMemory}
use Rattle.meaning.specs.declared.template.Refusal.{Refusal}
use Rattle.meaning.specs.declared.template.Refusal.TheVariants.{GoesOn, Aborts}

-- of the tokens `old`, the first make the value d, which nests no deeper than k, and `new` are left
abbrev pub ReadsValue : ℕ → List Token → Data → List Token → Type 0
ReadsValue k old d new = (depth : ℕ) → k ≤ depth → converted of_json (json.value depth old) ≡ Some (d, new)

-- of the tokens `old`, the first make the items of an array up to its end, and `new` are left
abbrev pub ReadsItems : ℕ → List Token → Items → List Token → Type 0
ReadsItems k old ds new = (depth n : ℕ) → k ≤ depth → length old ≤ n
    → converted of_items (json.items (json.value depth) n old) ≡ Some (ds, new)

-- of the tokens `old`, the first make the members of an object up to its end, and `new` are left;
-- the members are put on those that were found before
abbrev pub ReadsMembers : ℕ → Members → List Token → Members → List Token → Type 0
ReadsMembers k found old ms new = (depth n : ℕ) → k ≤ depth → length old ≤ n
    → converted (λ js. of_members js found) (json.members (json.value depth) n old) ≡ Some (ms, new)

-- reading stops so for want of memory, or where nothing is read
abbrev pub StopsFor : {A : Type 0} → Stop → Option A → Type 0
StopsFor stop read = (stop ≡ NoMemory) ⊎ (read ≡ None)

-- ---- of a text that is known to be read

-- the tokens begin with a value that nests no deeper than k
abbrev pub WritesValue : ℕ → List Token → Data → Type 0
WritesValue k old d = (rest : List Token) × (converted of_json (json.value k old) ≡ Some (d, rest))

-- the tokens begin with the items of an array up to its end, and `rest` are left
abbrev pub WritesItems : ℕ → List Token → Items → List Token → Type 0
WritesItems k old ds rest = (n : ℕ) × (converted of_items (json.items (json.value k) n old) ≡ Some (ds, rest))

-- ---- objects

-- the tokens of an object whose first key is this, before those that follow the key
abbrev pub first_key : List ℕ → List Token → List Token
first_key name rest = Token.begin_object ∷ Token.key name ∷ rest

-- a step's members, once its label is among them
abbrev pub labelled : Option (List ℕ) → Members → Members
labelled None ms = ms
labelled (Some name) ms = put (codes "as") (string name) ms

-- a step's members, once it is said whether its refusal aborts, and for which reason, where there is one
abbrev pub with_abort : Option (Option (List ℕ)) → Members → Members
with_abort None ms = ms
with_abort (Some None) ms = put (codes "else") (boolean true) ms
with_abort (Some (Some reason)) ms = put (codes "else") (string reason) ms

-- a version may have it
abbrev pub may_abort : ℕ → Option (Option (List ℕ)) → Bool
may_abort version None = true
may_abort version (Some reason) = has_fills version

-- its reason
abbrev pub reason_in : Option (Option (List ℕ)) → Option (List ℕ)
reason_in None = None
reason_in (Some reason) = reason

-- what the refusal does, with the numbers after it
abbrev pub refusal_told : Numbers → Option (Option (List ℕ)) → Refusal × Numbers
refusal_told numbers None = (GoesOn, numbers)
refusal_told numbers (Some reason) = spelled_map Aborts (reason_of numbers reason)

-- an operation by its array, its label and whether its refusal aborts
abbrev pub op_step : Option (List ℕ) → Option (Option (List ℕ)) → Data → Data
op_step label abort op = object (with_abort abort (labelled label (member (codes "op") op no_members)))

-- an operation's array by its object, its call and what follows
abbrev pub op_array : List ℕ → List ℕ → Items → Data
op_array o c rest = array (item (string o) (item (string c) rest))

-- ---- subactions

abbrev pub with_handlers : Option Members → Members → Members
with_handlers None ms = ms
with_handlers (Some reasons) ms = put (codes "handlers") (object reasons) ms

abbrev pub with_handler : Option Data → Members → Members
with_handler None ms = ms
with_handler (Some d) ms = put (codes "handler") d ms

-- a subaction's members: its body, and its handlers by reason, its handler and its label, where it has them
abbrev pub sub_members : Data → Option Members → Option Data → Option (List ℕ) → Members
sub_members body reasons every label = labelled label (with_handler every (with_handlers reasons (member (codes "sub") body no_members)))

-- a reason is greater than the one before it, where there is one, by their bytes
abbrev pub IsAfter : List ℕ → Option (List ℕ) → Type 0
IsAfter reason None = ⊤
IsAfter reason (Some before) = slice_cmp nat_cmp before reason ≡ Less

-- a version may have them
abbrev pub are_allowed : ℕ → Option Members → Bool
are_allowed version None = true
are_allowed version (Some reasons) = nat_le 3 version

-- ---- conditions and aborts

-- the member of an `if` that says how its label is tested
pub data TestKey : Type 0 where
  word : TestKey
  least : TestKey
  entry : TestKey

abbrev pub test_key : TestKey → List ℕ
test_key word = codes "is"
test_key least = codes "atleast"
test_key entry = codes "item"

abbrev pub with_else : Option Data → Members → Members
with_else None ms = ms
with_else (Some d) ms = put (codes "else") d ms

-- an `if` by its label, its test, its first branch and its second, where it has one
abbrev pub if_step : List ℕ → TestKey → Data → Data → Option Data → Data
if_step label key v first second =
    object (with_else second (put (codes "then") first (put (test_key key) v (member (codes "if") (string label) no_members))))

-- an abort by its reason, where it has one
abbrev pub abort_step : Option (List ℕ) → Data
abort_step None = object (member (codes "abort") (boolean true) no_members)
abort_step (Some reason) = object (member (codes "abort") (string reason) no_members)

-- ---- the document

-- a document's members before its transactions
abbrev pub before_transactions : ℕ → Items → Members
before_transactions version os = put (codes "objects") (array os) (put (codes "ordtx") (number (unsigned version)) no_members)

-- a document by its version, its objects and its transactions, where its members come in this order
abbrev pub in_order : ℕ → Items → Items → Data
in_order version os ts = object (put (codes "transactions") (array ts) (before_transactions version os))
