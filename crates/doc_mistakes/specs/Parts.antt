-- What rules are asked of, in the part that they are asked of.
use Rattle.std.specs.Prelude.{ℕ, Bool, ◌||◌, List, codes, Option, Some, None, is_some, option_and_then, if◌then◌else◌}
use Rattle.std.specs.List.{list_any}
use Rattle.std.specs.Str.{bytes_eq}
use Rattle.serde_json.specs.Data.{Data, Members, no_members, member}
use Rattle.serde_json.specs.Find.{at, as_array, as_object, as_str, get}
use Rattle.batch.specs.Names.{is_name}
use Rattle.doc_rules.specs.declared.form.Form.{Form}
use Rattle.doc_rules.specs.declared.rule.OperandPlace.{OperandPlace}
use Rattle.doc_rules.specs.declared.rule.OperandPlace.TheVariants.{Third, Fourth}
use Rattle.doc_rules.specs.Forms.{member_names}

abbrev pub has : List ℕ → Data → Bool
has name d = is_some (get name d)

-- an item of the list of an operation
abbrev pub operand : ℕ → Data → Option Data
operand i d = option_and_then (at i) (get (codes "op") d)

-- where the list of an operation has an item
abbrev pub index_of : OperandPlace → ℕ
index_of Third = 2
index_of Fourth = 3

-- the member `from` of an item of the list
abbrev pub source : OperandPlace → Data → Option Data
source place d = option_and_then (get (codes "from")) (operand (index_of place) d)

abbrev pub is_among : List ℕ → List (List ℕ) → Bool
is_among text names = list_any (λ name. bytes_eq text name) names

-- the name of the first member that isn't among these
abbrev pub first_other : List (List ℕ) → Members → Option (List ℕ)
first_other names no_members = None
first_other names (member k d ms) = if is_among k names then first_other names ms else Some k

-- the first member that an object of the form doesn't have
abbrev pub unknown_member : Form → Data → Option (List ℕ)
unknown_member form d = option_and_then (first_other (member_names form)) (as_object d)

abbrev pub first_unnamed : ℕ → Members → Option (List ℕ)
first_unnamed version no_members = None
first_unnamed version (member k d ms) = if is_name version k then first_unnamed version ms else Some k

-- the first reason of handlers that is no name of a version
abbrev pub unnamed_reason : ℕ → Data → Option (List ℕ)
unnamed_reason version d = option_and_then (first_unnamed version) (as_object d)

-- a member says what the step is
abbrev pub has_sort : Data → Bool
has_sort d = has (codes "op") d || has (codes "if") d || has (codes "sub") d || has (codes "abort") d || has (codes "parallel") d

abbrev pub is_text : Option Data → Bool
is_text found = is_some (option_and_then as_str found)

abbrev pub is_list : Option Data → Bool
is_list found = is_some (option_and_then as_array found)
