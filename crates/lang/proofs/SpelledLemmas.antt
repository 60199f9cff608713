-- What a value spells, by the reader's demands on it.
use Rattle.std.proofs.Common.{◌≡◌, ◌≤◌, ◌<◌, ℕ, List, cond, length, Option, None, Some, Result, Ok, Err, refl, ap, subst, sym, ◌∙◌}
use Rattle.std.proofs.lemmas.Bool.{le-ltb, lt-ltb}
use Rattle.serde_json.specs.Data.{Data}
use Rattle.faults.specs.Faults.{wrong_outside}
use Rattle.faults.specs.declared.fault.Fault.{Fault}
use Rattle.faults.specs.declared.fault.Wrong.TheVariants.{TooMany}
use Rattle.doc_tree.specs.declared.counts.Counts.{Counts}
use Rattle.doc_tree.specs.Asked.{version_in}
use Rattle.doc_tree.specs.Demand.{no_counts}
use Rattle.doc_rules.specs.Failures.{fault_of}
use Rattle.doc_rules.specs.Limits.{limits_of}
use Rattle.doc_tree.specs.Places.{Found, fault_in, first_fault, placed, seek}
use Rattle.doc_tree.specs.Spelled.{Document, document_in}
use Rattle.doc_language.specs.Document.{read_document}
use Rattle.doc_language.specs.Laws.{spelled_or_found}
use Rattle.doc_language.proofs.DocumentLemmas.{documents_read}
use Rattle.lang.specs.Reading.{most_bytes, reading, spelled_by, value_of, version_by, without_place}

-- without the place, the two definitions say the same
same_fault : (d : Data) → spelled_by (Some d) ≡ without_place (spelled_or_found (seek no_counts (placed d)) (document_in d))
same_fault d = ap without_place (documents_read d)

met : (document : Document) (r : Result Counts Found) → fault_in r ≡ None → without_place (spelled_or_found r document) ≡ Ok document
met document (Ok c) none = refl
met document (Err found) none = cc

unmet : (document : Document) (fault : Fault) (r : Result Counts Found) → fault_in r ≡ Some fault
    → without_place (spelled_or_found r document) ≡ Err fault
unmet document fault (Ok c) some = cc
unmet document fault (Err found) some = cc

-- a value without a fault spells its document
pub spells : (d : Data) → first_fault (placed d) ≡ None → spelled_by (Some d) ≡ Ok (document_in d)
spells d none = same_fault d ∙ met (document_in d) (seek no_counts (placed d)) none

-- a value is refused for its first fault
pub refuses : (d : Data) (fault : Fault) → first_fault (placed d) ≡ Some fault → spelled_by (Some d) ≡ Err fault
refuses d fault some = same_fault d ∙ unmet (document_in d) fault (seek no_counts (placed d)) some

was_unmet : (document : Document) (fault : Fault) (r : Result Counts Found) → without_place (spelled_or_found r document) ≡ Err fault
    → fault_in r ≡ Some fault
was_unmet document fault (Ok c) is = cc
was_unmet document fault (Err found) is = let same : fault_of found.failure ≡ fault = cc in ap (λ x. Some x) same

-- what a value is refused for is its first fault
pub refused_for_first : (d : Data) (fault : Fault) → spelled_by (Some d) ≡ Err fault → first_fault (placed d) ≡ Some fault
refused_for_first d fault is = was_unmet (document_in d) fault (seek no_counts (placed d)) (sym (same_fault d) ∙ is)

was_met : (document spelled : Document) (r : Result Counts Found) → without_place (spelled_or_found r document) ≡ Ok spelled
    → (fault_in r ≡ None) × (document ≡ spelled)
was_met document spelled (Ok c) is = (refl, cc)
was_met document spelled (Err found) is = cc

-- what spells a document has no fault, and spells just that one
pub spelled_faultless : (d : Data) (spelled : Document) → spelled_by (Some d) ≡ Ok spelled
    → (first_fault (placed d) ≡ None) × (document_in d ≡ spelled)
spelled_faultless d spelled is = was_met (document_in d) spelled (seek no_counts (placed d)) (sym (same_fault d) ∙ is)

-- bytes of a value without a fault spell its document
pub spelled_as : (bytes : List ℕ) (d : Data) (document : Document) → value_of bytes ≡ Some d
    → first_fault (placed d) ≡ None → document ≡ document_in d → spelled_by (value_of bytes) ≡ Ok document
spelled_as bytes d document known none is = ap spelled_by known ∙ spells d none ∙ ap (λ x. Ok x) (sym is)

-- bytes that are as few as their value's version asks for are read as that value
pub reads_short : (bytes : List ℕ) → length bytes ≤ most_bytes (value_of bytes) → reading bytes ≡ spelled_by (value_of bytes)
unfolding reading
reads_short bytes short =
    ap (λ b. cond b (Err (wrong_outside TooMany)) (spelled_by (value_of bytes))) (le-ltb (most_bytes (value_of bytes)) (length bytes) short)

-- more bytes are not read
pub reads_long : (bytes : List ℕ) → most_bytes (value_of bytes) < length bytes → reading bytes ≡ Err (wrong_outside TooMany)
unfolding reading
reads_long bytes long =
    ap (λ b. cond b (Err (wrong_outside TooMany)) (spelled_by (value_of bytes))) (lt-ltb (most_bytes (value_of bytes)) (length bytes) long)

-- bytes of a value without a fault are read as its document, where they are as few as its version asks for
pub reads_as : (bytes : List ℕ) (d : Data) (document : Document) → length bytes ≤ (limits_of (version_in d)).bytes
    → value_of bytes ≡ Some d → first_fault (placed d) ≡ None → document ≡ document_in d → reading bytes ≡ Ok document
reads_as bytes d document short known none is =
    reads_short bytes (subst (λ value. length bytes ≤ most_bytes value) (sym known) short) ∙ spelled_as bytes d document known none is

-- a document that is spelled has the version of its value
pub version_spelled : (value : Option Data) (document : Document) → spelled_by value ≡ Ok document → version_by value ≡ document.version
unfolding document_in
version_spelled None document is = cc
version_spelled (Some d) document is = ap (λ x. x.version) (spelled_faultless d document is).1

-- the first demand that isn't met has the fault and the place
pub found_there : (d : Data) (found : Found) → seek no_counts (placed d) ≡ Err found → read_document d ≡ Err found
found_there d found is = documents_read d ∙ ap (λ r. spelled_or_found r (document_in d)) is
