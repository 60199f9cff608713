-- Where in a part the value is that is wrong.
use Rattle.std.specs.Prelude.{ℕ, List, [], ◌++◌, codes, Option, Some, None, is_some, if◌then◌else◌, decimal}
use Rattle.json.specs.Print.{escape}
use Rattle.serde_json.specs.Data.{Data}
use Rattle.doc_rules.specs.Pointers.{pointer_token}
use Rattle.doc_rules.specs.declared.rule.OperandPlace.{OperandPlace}
use Rattle.doc_rules.specs.declared.rule.Rule.{Rule}
use Rattle.doc_rules.specs.declared.rule.CountRule.TheVariants as counted
use Rattle.doc_rules.specs.declared.rule.NameRule.TheVariants as named
use Rattle.doc_rules.specs.declared.rule.Rule.TheVariants as rule
use Rattle.doc_rules.specs.declared.rule.ShapeRule.TheVariants as shape
use Rattle.doc_mistakes.specs.Parts.{has, index_of, operand, unknown_member, unnamed_reason}

-- A name in a JSON Pointer. What JSON escapes in a text is escaped so here.
abbrev pub shown_token : List ℕ → List ℕ
shown_token name = escape (pointer_token name)

abbrev pub pointer_to : Option (List ℕ) → List ℕ
pointer_to None = []
pointer_to (Some name) = codes "/" ++ shown_token name

-- the member, where it is there
abbrev pub pointer_if : List ℕ → Data → List ℕ
pointer_if name d = if has name d then codes "/" ++ name else []

-- the item of the list of an operation, where it is there
abbrev pub pointer_operand : OperandPlace → Data → List ℕ
pointer_operand place d = if is_some (operand (index_of place) d) then codes "/op/" ++ decimal (index_of place) else []

abbrev pub place_within : Rule → Data → List ℕ
place_within (rule.Shape (shape.Members form)) d = pointer_to (unknown_member form d)
place_within (rule.Shape shape.Version) d = pointer_if (codes "ordtx") d
place_within (rule.Shape shape.Objects) d = pointer_if (codes "objects") d
place_within (rule.Shape shape.Transactions) d = pointer_if (codes "transactions") d
place_within (rule.Few (counted.Objects version)) d = pointer_if (codes "objects") d
place_within (rule.Few (counted.Transactions version)) d = pointer_if (codes "transactions") d
place_within (rule.Shape (shape.Else version)) d = pointer_if (codes "else") d
place_within (rule.Source place one) d = pointer_operand place d
place_within rule.SeenLabel d = pointer_if (codes "if") d
place_within (rule.Name version named.Handlers) d = pointer_to (unnamed_reason version d)
place_within (rule.Name version named.Else) d = pointer_if (codes "else") d
place_within r d = []
