-- What is written for a document, and its fault.
use Rattle.std.specs.Prelude.{◌≡◌, ℕ, Bool, true, false, ◌<◌, ◌≤◌, ◌⊎◌, ◌++◌, List, [], codes, length, map, slice_get, slice_index_or}
use Rattle.std.specs.Prelude.{Err, Ok, Result, Option, Some, None, if◌then◌else◌, nat_lt, option_map, string_bytes, unwrap_or}
use Rattle.std.specs.Fmt.{decimal}
use Rattle.std.specs.Str.{IsUtf8}
use Rattle.objects.specs.Entries.{State}
use Rattle.meaning.specs.Batch.{final_state}
use Rattle.meaning.specs.Rounds.{Rounds, Count}
use Rattle.meaning.specs.Running.{all_operations}
use Rattle.meaning.specs.Texts.{report, plain_report, audit_report, check_text, line}
use Rattle.batch.specs.Names.{names_of}
use Rattle.lang.specs.Reading.{Document, reading}
use Rattle.carry.specs.Carried.{carried_text, carried_version, first_unfit}
use Rattle.carry.specs.Joined.{StartOf, first_clash, name_of, starts_into, value_of, version_into}
use Rattle.carry.specs.Transactions.{joined_text}
use Rattle.carry.specs.declared.document.Misfit.{Misfit}
use Rattle.carry.specs.declared.document.Unfit.{Unfit}
use Rattle.carry.specs.declared.document.Unfit.TheVariants as unfit
use Rattle.faults.specs.Faults.{code_number, wrong_outside}
use Rattle.explain.specs.Why.{IsWhyText}
use Rattle.lang.specs.Found.{IsMistake}
use Rattle.faults.specs.declared.fault.Wrong.{Wrong}
use Rattle.faults.specs.declared.fault.Wrong.TheVariants as wrong
use Rattle.faults.specs.declared.fault.Fault.{Fault}
use Rattle.lang.specs.declared.places.Place.{Place}
use Rattle.lang.specs.declared.positions.Position.{Position}
use Rattle.lang.specs.declared.places.Place.TheVariants.{Whole, Pointer, LineColumn}
use Rattle.doc_rules.specs.Limits.{limits_of}
use Rattle.ordtx.specs.declared.carrying.Uncarried.{Uncarried}
use Rattle.ordtx.specs.declared.location.Located.{Located}
use Rattle.ordtx.specs.declared.location.Located.TheVariants.{Faultless, Faulty}
use Rattle.ordtx.specs.declared.carrying.Uncarried.TheVariants as uncarried

-- The bytes spell a document, and the text is the report of running its transactions by number, depth
-- first, on one thread, with the number of rounds that is defined for it, which is at most that of its transactions.
pub record IsReportOf (bytes text : List ℕ) : Type 0 where
  pub document : Document
  pub reads : reading bytes ≡ Ok document
  pub rounds : ℕ
  pub counted : Rounds document.start document.transactions rounds
  pub few : rounds ≤ length document.transactions
  pub is : text ≡ report (names_of document.texts) document.start document.transactions rounds

-- So is the text, and after it comes how often each transaction is run, as it is defined.
pub record IsAuditOf (bytes text : List ℕ) : Type 0 where
  pub document : Document
  pub reads : reading bytes ≡ Ok document
  pub rounds : ℕ
  pub counted : Rounds document.start document.transactions rounds
  pub few : rounds ≤ length document.transactions
  pub counts : List ℕ
  pub all : length counts ≡ length document.transactions
  pub each : (i : ℕ) → i < length document.transactions → Count document.start document.transactions i (slice_index_or counts i 0)
  pub is : text ≡ audit_report (names_of document.texts) document.start document.transactions rounds counts

-- The bytes spell a document, and the text says which operations ended each of its rounds but the last.
pub record IsWhyOf (bytes text : List ℕ) : Type 0 where
  pub document : Document
  pub reads : reading bytes ≡ Ok document
  pub is : IsWhyText (names_of document.texts) document.start document.transactions text

-- the report, with the run counts where an audit is asked for
abbrev pub IsShownOf : Bool → List ℕ → List ℕ → Type 0
IsShownOf false = IsReportOf
IsShownOf true = IsAuditOf

-- The text is that one, and after it comes which operations ended the rounds.
pub record IsExplainedOf (audit : Bool) (bytes text : List ℕ) : Type 0 where
  pub shown : List ℕ
  pub why : List ℕ
  pub shown_is : IsShownOf audit bytes shown
  pub why_is : IsWhyOf bytes why
  pub is : text ≡ shown ++ why

-- The bytes spell a document, and the text is that report without its rounds.
pub record IsPlainReportOf (bytes text : List ℕ) : Type 0 where
  pub document : Document
  pub reads : reading bytes ≡ Ok document
  pub is : text ≡ plain_report (names_of document.texts) document.start document.transactions

-- The bytes spell a document, and the text says how many objects, transactions and operations it has.
pub record IsCheckOf (bytes text : List ℕ) : Type 0 where
  pub document : Document
  pub reads : reading bytes ≡ Ok document
  pub is : text ≡ check_text (length document.start) (length document.transactions) (all_operations document.transactions)

-- the objects that running a document's transactions by number leaves
abbrev pub end_of : Document → State
end_of document = final_state document.start document.transactions

-- The bytes spell a document whose objects end as they may start, and the text is the document of these, without a transaction.
pub record IsCarriedOf (bytes text : List ℕ) : Type 0 where
  pub document : Document
  pub reads : reading bytes ≡ Ok document
  pub fits : first_unfit (carried_version document.version) 0 0 (end_of document) ≡ None
  pub is : text ≡ carried_text (carried_version document.version) (names_of document.texts) (end_of document)

-- the first fault of what the bytes spell
abbrev pub IsFaultOf : List ℕ → Fault → Type 0
IsFaultOf bytes fault = reading bytes ≡ Err fault

-- what is wrong with a document whose objects start so
abbrev pub unfit_wrong : Unfit → Wrong
unfit_wrong unfit.Start = wrong.Start
unfit_wrong unfit.TooMany = wrong.TooMany

-- The bytes spell a document with an object that ends as none may start. The fault is that of the first such object, and
-- the name is its name.
pub record IsUnfitOf (bytes : List ℕ) (fault : Fault) (name : List ℕ) : Type 0 where
  pub document : Document
  pub reads : reading bytes ≡ Ok document
  pub misfit : Misfit
  pub first : first_unfit (carried_version document.version) 0 0 (end_of document) ≡ Some misfit
  pub is : fault ≡ wrong_outside (unfit_wrong misfit.unfit)
  pub named : name ≡ (names_of document.texts).object misfit.place

-- Why nothing is carried: a fault of the document whose objects are carried, of the next document, or of an object by its name.
pub data Refusal : Type 0 where
  of_first : Fault → Refusal
  of_next : Fault → Refusal
  of_object : Fault → List ℕ → Refusal

abbrev pub refusal_of : Uncarried → Refusal
refusal_of (uncarried.First fault) = of_first fault
refusal_of (uncarried.Next fault) = of_next fault
refusal_of (uncarried.Object fault name) = of_object fault (string_bytes name)

abbrev pub fault_of : Uncarried → Fault
fault_of (uncarried.First fault) = fault
fault_of (uncarried.Next fault) = fault
fault_of (uncarried.Object fault name) = fault

-- the first fault of the bytes, or else of the objects at their end
abbrev pub IsCarryFaultOf : List ℕ → Refusal → Type 0
IsCarryFaultOf bytes (of_first fault) = IsFaultOf bytes fault
IsCarryFaultOf bytes (of_next fault) = ⊥
IsCarryFaultOf bytes (of_object fault name) = IsUnfitOf bytes fault name

abbrev pub clash_or : Option (Wrong × ℕ) → Option ℕ → Option (Wrong × ℕ)
clash_or others None = others
clash_or others (Some place) = Some (wrong.DuplicateObject, place)

-- What is wrong with starts for a document of a version with these objects, and the place of it: an object of two kinds, or else
-- one too many, or else the first that can't start so.
abbrev pub wrong_start : ℕ → State → List StartOf → Option (Wrong × ℕ)
wrong_start version objects starts =
    clash_or (if nat_lt (limits_of version).objects (length starts) then Some (wrong.TooMany, (limits_of version).objects)
    else option_map (λ misfit. (unfit_wrong misfit.unfit, misfit.place)) (first_unfit version 0 0 (map value_of starts)))
    (first_clash 0 objects starts)

abbrev pub name_at : List StartOf → ℕ → List ℕ
name_at starts place = unwrap_or (option_map name_of (slice_get starts place)) []

-- Two documents are spelled, the first by these bytes and the next by those.
pub record AreBothRead (first next : List ℕ) : Type 0 where
  pub document : Document
  pub reads : reading first ≡ Ok document
  pub next_document : Document
  pub next_reads : reading next ≡ Ok next_document

abbrev pub starts_of : {first next : List ℕ} → AreBothRead first next → List StartOf
starts_of both = starts_into both.document both.next_document

-- the version of the next document with these starts
abbrev pub version_of : {first next : List ℕ} → AreBothRead first next → ℕ
version_of both = version_into both.document both.next_document

-- what is wrong with its starts
abbrev pub wrong_of : {first next : List ℕ} → AreBothRead first next → Option (Wrong × ℕ)
wrong_of both = wrong_start (version_of both) both.next_document.start (starts_of both)

abbrev pub text_into : {first next : List ℕ} → AreBothRead first next → List ℕ
text_into {first} {next} both = joined_text (version_of both) (starts_of both) next

-- The first document's objects end as they may start the next document, and the text is the next document with these starts and
-- its own transactions.
pub record IsCarriedIntoOf (first next text : List ℕ) : Type 0 where
  pub both : AreBothRead first next
  pub fits : wrong_of both ≡ None
  pub is : text ≡ text_into both
  pub short : length text ≤ (limits_of (version_of both)).bytes
  pub utf8 : IsUtf8 text

-- The text would be longer than a document may be.
pub record IsTooLongInto (first next : List ℕ) (fault : Fault) : Type 0 where
  pub both : AreBothRead first next
  pub fits : wrong_of both ≡ None
  pub long : (limits_of (version_of both)).bytes < length (text_into both)
  pub is : fault ≡ wrong_outside wrong.TooMany

-- An object can't start the next document so. The fault is that of the first such object, and the name is its name.
pub record IsUnfitInto (first next : List ℕ) (fault : Fault) (name : List ℕ) : Type 0 where
  pub both : AreBothRead first next
  pub wrong : Wrong
  pub place : ℕ
  pub first_wrong : wrong_of both ≡ Some (wrong, place)
  pub is : fault ≡ wrong_outside wrong
  pub named : name ≡ name_at (starts_of both) place

-- The next document has the fault, and the first has none.
pub record IsNextFaultOf (first next : List ℕ) (fault : Fault) : Type 0 where
  pub document : Document
  pub reads : reading first ≡ Ok document
  pub refuses : IsFaultOf next fault

-- the first fault of the first document, or else of the next, or else of the objects that are carried into it
abbrev pub IsCarryIntoFaultOf : List ℕ → List ℕ → Refusal → Type 0
IsCarryIntoFaultOf first next (of_first fault) = IsFaultOf first fault
IsCarryIntoFaultOf first next (of_next fault) = IsNextFaultOf first next fault ⊎ IsTooLongInto first next fault
IsCarryIntoFaultOf first next (of_object fault name) = IsUnfitInto first next fault name

-- a line and a column
abbrev pub position_text : Position → List ℕ
position_text position = codes " line " ++ decimal position.line ++ codes " column " ++ decimal position.column

-- where a fault is, as it is written after `at`
abbrev pub place_text : Place → List ℕ
place_text Whole = []
place_text (Pointer text position) = codes " " ++ string_bytes text ++ position_text position
place_text (LineColumn position) = position_text position

-- the line of a fault and its place
abbrev pub place_line : Fault → Place → List ℕ
place_line fault place = line (codes "fault " ++ decimal (code_number fault.code) ++ codes " transaction " ++ decimal fault.transaction
    ++ codes " at" ++ place_text place)

-- The bytes spell no document, and the text is the line of their first fault and its place, and one that says what is wrong.
pub record IsPlacedFaultOf (bytes text : List ℕ) : Type 0 where
  pub fault : Fault
  pub refuses : IsFaultOf bytes fault
  pub place : Place
  pub words : List ℕ
  pub mistake : IsMistake bytes fault place words
  pub is : text ≡ place_line fault place ++ line words

-- The text says where the first fault of the bytes is, or how much they hold.
abbrev pub IsLocationOf : List ℕ → List ℕ → Type 0
IsLocationOf bytes text = IsCheckOf bytes text ⊎ IsPlacedFaultOf bytes text

-- what is found of bytes that are read so
abbrev pub located_by : Result Document Fault → Located
located_by (Ok document) = Faultless
located_by (Err fault) = Faulty
