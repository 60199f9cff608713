-- What is noted of a document's values where they are passed.
use Rattle.std.specs.Prelude.{◌≡◌, ℕ, ℤ, ◌+◌, [], ◌∷◌, List, length, Option, Some, None, codes, is_some, nat_le, option_map, unwrap_or}
use Rattle.std.specs.Prelude.{if◌then◌else◌}
use Rattle.std.specs.Str.{bytes_eq}
use Rattle.json.specs.Json as json
use Rattle.json.specs.Token.{Token}
use Rattle.serde_json.specs.Read.{of_members}
use Rattle.serde_json.specs.Data.{Data, Members, no_members, null, boolean, number, string, array, object}
use Rattle.serde_json.specs.Events.{items_len}
use Rattle.serde_json.specs.Find.{as_i64, as_object, get_member}
use Rattle.doc_tree.specs.Scope.{fit}
use Rattle.doc_tokens.specs.declared.pass.PassedValue.{PassedValue}
use Rattle.doc_tokens.specs.declared.pass.PassedValue.TheVariants as seen
use Rattle.doc_tokens.specs.declared.notes.Notes.{Notes}
use Rattle.doc_rules.specs.Forms.{member_names}
use Rattle.doc_rules.specs.declared.form.Form.TheVariants as form
use Rattle.doc_rules.specs.declared.rule.CountRule.TheVariants as counted
use Rattle.doc_rules.specs.declared.rule.Rule.TheVariants as rule
use Rattle.doc_rules.specs.declared.rule.ShapeRule.TheVariants as shape
use Rattle.doc_tree.specs.Demand.{Demand, holds}
use Rattle.doc_tree.specs.Look.{members_among, within}
use Rattle.doc_rules.specs.Limits.{limits_of}
use Rattle.doc_rules.specs.declared.limits.Limits.{Limits}
use Rattle.doc_rules.specs.declared.limits.TheConstants.{LAST_VERSION}

abbrev pub whole_or_other : Option ℤ → PassedValue
whole_or_other None = seen.Other
whole_or_other (Some n) = seen.Whole n

-- what is seen of a value that is passed
abbrev pub seen_as : Data → PassedValue
seen_as null = seen.Other
seen_as (boolean b) = seen.Other
seen_as (number x) = whole_or_other (as_i64 x)
seen_as (string s) = seen.Other
seen_as (array ds) = seen.List (fit (items_len ds))
seen_as (object ms) = seen.Other

-- ---- a document's members

-- what is noted of a document's members
pub record IsNoted (notes : Notes) (ms : Members) : Type 0 where
  pub only : notes.only ≡ members_among (member_names form.Document) ms
  pub version : notes.version ≡ option_map seen_as (get_member (codes "ordtx") ms)
  pub objects : notes.objects ≡ option_map seen_as (get_member (codes "objects") ms)
  pub transactions : notes.transactions ≡ option_map seen_as (get_member (codes "transactions") ms)

-- what is noted of a value; None where it is no object
abbrev pub AreNoted : Option Notes → Data → Type 0
AreNoted None d = as_object d ≡ None
AreNoted (Some notes) d = (ms : Members) × (d ≡ object ms) × IsNoted notes ms

-- ---- how often a name comes

abbrev pub once : List ℕ → List ℕ → ℕ
once k name = if bytes_eq k name then 1 else 0

-- how often a name comes among members, as they are written
abbrev pub times : List ℕ → json.Members → ℕ
times name json.no_members = 0
times name (json.member k j js) = once k name + times name js

pub record AreTimes (notes : Notes) (js : json.Members) : Type 0 where
  pub objects : notes.objects_times ≡ fit (times (codes "objects") js)
  pub transactions : notes.transactions_times ≡ fit (times (codes "transactions") js)

-- how often the two lists come is noted of the object that the tokens begin with
pub record AreCounted (notes : Notes) (old : List Token) : Type 0 where
  pub within : List Token
  pub written : json.Members
  pub rest : List Token
  pub begins : old ≡ Token.begin_object ∷ within
  pub reads : json.members (json.value 126) (length within) within ≡ Some (written, rest)
  pub counted : AreTimes notes written

-- The tokens begin with the members that are left of an object, among which a name comes so often. With those found before they
-- make these members.
pub record HasLeft (name : List ℕ) (count : ℕ) (found : Members) (old : List Token) (ms : Members) : Type 0 where
  pub turns : ℕ
  pub written : json.Members
  pub rest : List Token
  pub reads : json.members (json.value 126) turns old ≡ Some (written, rest)
  pub makes : of_members written found ≡ Some ms
  pub often : times name written ≡ count

-- the tokens begin with an object of these members, as which a name comes so often
pub record HasMembers (name : List ℕ) (count : ℕ) (old : List Token) (ms : Members) : Type 0 where
  pub within : List Token
  pub begins : old ≡ Token.begin_object ∷ within
  pub left : HasLeft name count no_members within ms

-- ---- by what is noted

abbrev pub noted_version : Option PassedValue → Option ℕ
noted_version None = None
noted_version (Some (seen.Whole n)) = within 1 LAST_VERSION n
noted_version (Some (seen.List n)) = None
noted_version (Some seen.Other) = None

abbrev pub noted_count : Option PassedValue → Option ℕ
noted_count None = None
noted_count (Some (seen.Whole n)) = None
noted_count (Some (seen.List n)) = Some n
noted_count (Some seen.Other) = None

-- the version that is noted, or else the first
abbrev pub version_in_notes : Notes → ℕ
version_in_notes notes = unwrap_or (noted_version notes.version) 1

-- its limits
abbrev pub noted_limits : Notes → Limits
noted_limits notes = limits_of (version_in_notes notes)

-- what is asked of a document's shape, by what is noted of it
abbrev pub noted_asked : Notes → List Demand
noted_asked notes =
    holds notes.only (rule.Shape (shape.Members form.Document))
    ∷ holds (is_some (noted_version notes.version)) (rule.Shape shape.Version)
    ∷ holds (is_some (noted_count notes.objects)) (rule.Shape shape.Objects)
    ∷ holds (is_some (noted_count notes.transactions)) (rule.Shape shape.Transactions)
    ∷ holds (nat_le (unwrap_or (noted_count notes.objects) 0) (noted_limits notes).objects)
    (rule.Few (counted.Objects (version_in_notes notes)))
    ∷ holds (nat_le (unwrap_or (noted_count notes.transactions) 0) (noted_limits notes).transactions)
    (rule.Few (counted.Transactions (version_in_notes notes)))
    ∷ []
