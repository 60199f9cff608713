-- What is said of a document's first fault: where it is, and in words which rule isn't kept.
use Rattle.std.specs.Prelude.{◌≡◌, ◌<◌, ◌≤◌, ◌⊎◌, ◌++◌, ℕ, List, [], codes, length, None, Some, Err, string_bytes, unwrap_or}
use Rattle.json.specs.Lex.{tokens}
use Rattle.serde_json.specs.Data.{Data, Members, null, object}
use Rattle.serde_json.specs.Find.{pointer as points_to}
use Rattle.serde_json.specs.View.{view}
use Rattle.faults.specs.declared.fault.Fault.{Fault}
use Rattle.doc_rules.specs.Failures.{fault_of}
use Rattle.doc_rules.specs.declared.failure.Failure.TheVariants.{Broken}
use Rattle.doc_rules.specs.declared.rule.Rule.{Rule}
use Rattle.doc_rules.specs.declared.rule.CountRule.TheVariants.{Bytes}
use Rattle.doc_rules.specs.declared.rule.Rule.TheVariants.{Few, Json}
use Rattle.doc_mistakes.specs.Words.{IsSaid}
use Rattle.doc_mistakes.specs.Within.{place_within}
use Rattle.doc_tree.specs.declared.counts.Counts.{Counts}
use Rattle.doc_tree.specs.Answer.{IsMet}
use Rattle.doc_tree.specs.Asked.{document_shape_asked, version_in}
use Rattle.doc_tree.specs.Demand.{no_counts}
use Rattle.doc_tokens.specs.Passed.{HasMembers, version_in_notes}
use Rattle.doc_tokens.specs.declared.notes.Notes.{Notes}
use Rattle.doc_tree.specs.Places.{Found, Placed, seek}
use Rattle.doc_language.specs.Document.{read_document}
use Rattle.doc_rules.specs.declared.limits.TheConstants.{LAST_VERSION, MAX_BYTES}
use Rattle.lang.specs.Reading.{most_bytes, value_of, version_by}
use Rattle.lang.specs.declared.misread.Misread.{Misread}
use Rattle.lang.specs.declared.places.Place.{Place}
use Rattle.lang.specs.declared.places.Place.TheVariants.{Whole, Pointer, LineColumn}

-- the part of a value to which a pointer leads
abbrev pub part_at : List ℕ → Data → Data
part_at pointer d = unwrap_or (points_to pointer d) null

-- What is said of the first rule that a value doesn't keep, as it was found: the place leads on from the part to what is wrong in it,
-- and the words are those of the rule.
pub record IsToldOf (value : Data) (found : Found) (place words : List ℕ) : Type 0 where
  pub rule : Rule
  pub transaction : ℕ
  pub broken : found.failure ≡ Broken rule transaction
  pub at : place ≡ found.pointer ++ place_within rule (part_at found.pointer value)
  pub said : IsSaid rule (part_at found.pointer value) words

-- The bytes write a value that doesn't spell a document, and this is its fault, the place of it and what is said of it.
pub record IsFoundAt (bytes : List ℕ) (fault : Fault) (place words : List ℕ) : Type 0 where
  pub value : Data
  pub written : value_of bytes ≡ Some value
  pub found : Found
  pub first : read_document value ≡ Err found
  pub is : fault ≡ fault_of found.failure
  pub told : IsToldOf value found place words

-- the words of a length that no version has, or that the bytes' own version doesn't have
abbrev pub IsTooLong : List ℕ → List ℕ → Type 0
IsTooLong bytes words = ((MAX_BYTES < length bytes) × IsSaid (Few (Bytes LAST_VERSION)) null words)
    ⊎ ((length bytes ≤ MAX_BYTES) × (most_bytes (value_of bytes) < length bytes)
    × IsSaid (Few (Bytes (version_by (value_of bytes)))) null words)

-- so many bytes may write their value
abbrev pub IsShort : List ℕ → Type 0
IsShort bytes = length bytes ≤ most_bytes (value_of bytes)

-- The place of a fault, and what is said of it. The whole is the place of a fault of its length, too.
abbrev pub IsMistake : List ℕ → Fault → Place → List ℕ → Type 0
IsMistake bytes fault Whole words = IsTooLong bytes words ⊎ (IsShort bytes × IsFoundAt bytes fault [] words)
IsMistake bytes fault (Pointer text position) words = IsShort bytes × (0 < length (string_bytes text))
    × IsFoundAt bytes fault (string_bytes text) words
IsMistake bytes fault (LineColumn position) words = IsShort bytes × (value_of bytes ≡ None) × IsSaid Json null words

-- A pointer is shown so. The empty pointer is that of the whole.
abbrev pub Shows : List ℕ → Place → Type 0
Shows pointer Whole = pointer ≡ []
Shows pointer (Pointer text position) = (0 < length pointer) × (string_bytes text ≡ pointer)
Shows pointer (LineColumn position) = ⊥

-- that is said of a rule of this part, to which the pointer leads, at the place that is shown
pub record IsToldAt (part : Data) (rule : Rule) (pointer : List ℕ) (place : Place) (words : List ℕ) : Type 0 where
  pub shown : Shows (pointer ++ place_within rule part) place
  pub said : IsSaid rule part words

-- that is said of what was found in a value, at the place that is shown
abbrev pub TellsPlace : Data → Found → Place → List ℕ → Type 0
TellsPlace value found place words = (pointer : List ℕ) × Shows pointer place × IsToldOf value found pointer words

-- ---- a value that is read a part at a time; no public contract names it

-- The text writes this document, whose own shape is right, and this is noted of it.
pub record IsKnown (text : List ℕ) (notes : Notes) (d : Data) : Type 0 where
  pub members : Members
  pub is : d ≡ object members
  pub version : version_in_notes notes ≡ version_in d
  pub shape : IsMet no_counts (document_shape_asked d) no_counts
  pub objects : HasMembers (codes "objects") notes.objects_times (tokens text) members
  pub transactions : HasMembers (codes "transactions") notes.transactions_times (tokens text) members

-- the rule that isn't kept, and where
abbrev pub found_by : Misread → Found
found_by misread = record { failure = Broken misread.rule misread.transaction; pointer = string_bytes misread.pointer }

-- it is the first rule that a value doesn't keep, with the part of which it is asked
abbrev pub IsFirstIn : Counts → Placed → Data → Misread → Type 0
IsFirstIn start asked value misread =
    (seek start asked ≡ Err (found_by misread)) × (view misread.part ≡ part_at (string_bytes misread.pointer) value)

-- the same rule of the same part, seen from a value from which this token leads to the one before
pub record IsBelow (token : List ℕ) (inner outer : Misread) : Type 0 where
  pub rule : outer.rule ≡ inner.rule
  pub transaction : outer.transaction ≡ inner.transaction
  pub pointer : string_bytes outer.pointer ≡ codes "/" ++ token ++ string_bytes inner.pointer
  pub part : view outer.part ≡ view inner.part
