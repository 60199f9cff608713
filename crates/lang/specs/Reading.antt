-- What bytes spell: a document, or the first fault.
use Rattle.std.specs.Prelude.{◌≡◌, ◌≢◌, ℕ, true, List, length, map, Option, None, Some, Result, Ok, Err, IfErr, IfOk, nat_lt, if◌then◌else◌}
use Rattle.std.specs.Str.{is_utf8}
use Rattle.serde_json.specs.Data.{Data}
use Rattle.serde_json.specs.Read.{read as read_text}
use Rattle.batch.specs.declared.batch.Batch.{Batch}
use Rattle.batch.specs.Names.{texts_of}
use Rattle.batch.specs.Views.{block_view}
use Rattle.doc_tree.specs.declared.declared.Parts.{Parts}
use Rattle.doc_tree.specs.declared.state.Numbering.{Numbering}
use Rattle.faults.specs.declared.fault.Wrong.TheVariants.{NotJson, TooMany}
use Rattle.faults.specs.declared.fault.Fault.{Fault}
use Rattle.faults.specs.Faults.{is_of_reading, memory_fault, wrong_outside}
use Rattle.doc_rules.specs.Failures.{fault_of}
use Rattle.doc_rules.specs.Limits.{limits_of}
use Rattle.doc_tree.specs.Asked.{version_in}
use Rattle.doc_tree.specs.Places.{Found}
pub use Rattle.doc_tree.specs.Spelled.{Document}
use Rattle.doc_language.specs.Document.{read_document}

-- the value that the bytes write, or none
abbrev pub value_of : List ℕ → Option Data
value_of bytes = if is_utf8 bytes then read_text bytes else None

abbrev pub without_place : Result Document Found → Result Document Fault
without_place (Ok document) = Ok document
without_place (Err found) = Err (fault_of found.failure)

abbrev pub spelled_by : Option Data → Result Document Fault
spelled_by None = Err (wrong_outside NotJson)
spelled_by (Some d) = without_place (read_document d)

-- the version of a value, by which the length of its bytes is judged, or the first where the bytes write none
abbrev pub version_by : Option Data → ℕ
version_by None = 1
version_by (Some d) = version_in d

-- how many bytes may write it
abbrev pub most_bytes : Option Data → ℕ
most_bytes value = (limits_of (version_by value)).bytes

-- the document that the bytes spell, or their first fault
unfoldable pub reading : List ℕ → Result Document Fault
reading bytes = if nat_lt (most_bytes (value_of bytes)) (length bytes) then Err (wrong_outside TooMany) else spelled_by (value_of bytes)

-- what a batch is seen as
abbrev pub document_of : Batch → Document
document_of batch = record {
  version = batch.version;
  start = batch.objects;
  texts = batch.names;
  transactions = map block_view batch.transactions.items;
}

-- what the parts of a document are seen as, with the texts that were numbered
abbrev pub document_with : Parts → Numbering → Document
document_with parts numbering = record {
  version = parts.declared.version;
  start = parts.declared.objects;
  texts = record {
    objects = texts_of parts.declared.names.keys;
    items = texts_of numbering.items.keys;
    reasons = texts_of numbering.reasons.keys;
  };
  transactions = map block_view parts.transactions.items;
}

-- a batch of the document, or the fault, or else a want of memory
pub record GivesDocument (spelled : Result Document Fault) (result : Result Batch Fault) : Type 0 where
  pub batch : IfOk result (λ batch. spelled ≡ Ok (document_of batch))
  pub fault : IfErr result (λ fault. fault ≢ memory_fault → spelled ≡ Err fault)
  pub code : IfErr result (λ fault. is_of_reading fault.code ≡ true)
