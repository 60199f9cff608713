-- The law of carrying into a next document.
use Rattle.std.proofs.Common.{◌≡◌, ◌≤◌, ℕ, max, List, length, None, Ok, sym, subst, ◌∙◌, arith}
use Rattle.meaning.specs.Batch.{final_state}
use Rattle.lang.specs.Reading.{Document, reading}
use Rattle.lang.proofs.FaultlessBatch.{faultless_is_batch}
use Rattle.serde_json.specs.Data.{Data}
use Rattle.doc_tree.specs.Asked.{transactions_in, version_in}
use Rattle.doc_tree.specs.Places.{first_fault, placed}
use Rattle.doc_tree.specs.Spelled.{document_in}
use Rattle.carry.specs.Joined.{starts_into, version_into}
use Rattle.carry_laws.specs.Carrying.{IsCarriedVersion}
use Rattle.carry_laws.specs.Laws.{JoinedLaw, JoinedStartsLaw}
use Rattle.carry_laws.proofs.CarriedEnd.{names_since, of_reading, read_version, same_length}
use Rattle.carry_laws.proofs.JoinedReads.{joined_value}
use Rattle.carry_laws.proofs.JoinedSpelled.{starts_names, starts_same}
use Rattle.carry_laws.proofs.JoinedStarts.{AreAllNamed, joined_apart, joined_can_start}
use Rattle.carry_laws.proofs.NamedTexts.{distinct_apart}
use Rattle.doc_tree.proofs.DistinctTexts.{items_differ}
use Rattle.carry_laws.proofs.NamedEnd.{end_named}
use Rattle.carry_laws.proofs.NextTree.{next_transactions}
use Rattle.carry_laws.proofs.Versions.{carried_known}

-- the objects of a value with no fault have names of each version that isn't an earlier one
pub starts_are_named : (version : ℕ) (d : Data) → version_in d ≤ version → first_fault (placed d) ≡ None
    → AreAllNamed version (document_in d).texts (document_in d).start
starts_are_named version d later none =
    let batch = faultless_is_batch d none in
    let names = names_since d version later in
    record {
      objects = names (document_in d).texts.objects batch.object_names;
      items = names (document_in d).texts.items batch.item_names;
      size = batch.named;
      named = batch.named_starts;
      apart = distinct_apart (document_in d).texts.items (items_differ d);
    }

start_is_named : (version : ℕ) (bytes : List ℕ) (document : Document) → reading bytes ≡ Ok document → document.version ≤ version
    → AreAllNamed version document.texts document.start
unfolding document_in
start_is_named version bytes document reads =
    let source = of_reading bytes document reads in
    subst (λ (read : Document). read.version ≤ version → AreAllNamed version read.texts read.start) source.is
    (λ later. starts_are_named version source.value later source.faultless)

-- so have those with which it ends
ends_are_named : (version : ℕ) (d : Data) → version_in d ≤ version → first_fault (placed d) ≡ None
    → AreAllNamed version (document_in d).texts (final_state (document_in d).start (document_in d).transactions)
ends_are_named version d later none =
    let document = document_in d in
    let batch = faultless_is_batch d none in
    let start = starts_are_named version d later none in
    record {
      objects = start.objects;
      items = start.items;
      size = start.size ∙ sym (same_length document.start document.transactions);
      named = end_named document.texts document.start document.transactions (length document.transactions) batch.named_starts
          batch.named_transactions;
      apart = start.apart;
    }

pub end_is_named : (version : ℕ) (bytes : List ℕ) (document : Document) → reading bytes ≡ Ok document → document.version ≤ version
    → AreAllNamed version document.texts (final_state document.start document.transactions)
unfolding document_in
end_is_named version bytes document reads =
    let source = of_reading bytes document reads in
    subst (λ (read : Document). read.version ≤ version → AreAllNamed version read.texts (final_state read.start read.transactions))
    source.is (λ later. ends_are_named version source.value later source.faultless)

-- the version of a document with the objects at the end of another: objects are carried into it, and it is no earlier than either's
pub into_known : (first next : List ℕ) (document next_document : Document) → reading first ≡ Ok document
    → reading next ≡ Ok next_document
    → IsCarriedVersion (version_into document next_document) × (document.version ≤ version_into document next_document)
    × (next_document.version ≤ version_into document next_document)
into_known first next document next_document reads next_reads =
    let one = (read_version first document reads).1 in
    let other = (read_version next next_document next_reads).1 in
    (carried_known (max document.version next_document.version) (omega (arith, one, other)), omega arith, omega arith)

pub joined_is_read : JoinedLaw
joined_is_read first next document next_document reads next_reads fit utf8 =
    let source = of_reading next next_document next_reads in
    let starts = starts_into document next_document in
    let version = version_into document next_document in
    let known = into_known first next document next_document reads next_reads in
    let ok = joined_can_start version _ _ (end_is_named version first document reads known.1)
    (start_is_named version next next_document next_reads known.2) fit in (
      source.value,
      source.reads,
      joined_value version known.0.1 starts next (transactions_in source.value) ok (next_transactions next source.value source.reads) utf8,
    )

pub joined_starts : JoinedStartsLaw
joined_starts first next document next_document reads next_reads fit =
    let starts = starts_into document next_document in
    let version = version_into document next_document in
    let known = into_known first next document next_document reads next_reads in
    let apart = joined_apart version _ _ (end_is_named version first document reads known.1)
    (start_is_named version next next_document next_reads known.2) in
    (starts_names starts, starts_same version known.0 starts fit apart)
