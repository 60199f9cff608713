-- A document that was read part by part.
use Rattle.std.proofs.Common.{◌≡◌, ℕ, List, Some, None, Ok, refl, sym, ap, ◌∙◌}
use Rattle.serde_json.specs.Data.{Data, Items}
use Rattle.objects.specs.Entries.{State}
use Rattle.meaning.specs.Trees as tree
use Rattle.doc_tree.specs.Asked.{declared_by, objects_in, setting_in, transactions_in, version_in}
use Rattle.doc_tree.specs.declared.counts.Counts.{Counts}
use Rattle.faults.specs.declared.fault.Fault.{Fault}
use Rattle.doc_tree.specs.Demand.{no_counts}
use Rattle.doc_tree.specs.Places.{Placed, fault_in, first_fault, seek}
use Rattle.doc_tree.specs.Scope.{Numbers, Setting, no_numbers}
use Rattle.doc_tree.specs.Spelled.{Document, blocks_of, document_in, parts_in, spelled, starts_of}

pub same_parts : (d : Data) (numbers mid last : Numbers) (version : ℕ) (os ts : Items) (setting : Setting) (start : State)
    (blocks : List tree.Block) → version ≡ version_in d → os ≡ objects_in d → ts ≡ transactions_in d
    → setting ≡ declared_by version os → (start, mid) ≡ starts_of version numbers os → (blocks, last) ≡ blocks_of setting mid ts
    → spelled start blocks last ≡ parts_in numbers d
unfolding parts_in
same_parts d numbers mid last version os ts setting start blocks v o t s started read =
    let started_here : (start, mid) ≡ starts_of (version_in d) numbers (objects_in d) = rw (v, o) at started in
    let setting_here : setting ≡ declared_by (version_in d) (objects_in d) = rw (v, o) at s in
    let read_here : (blocks, last) ≡ blocks_of (setting_in d) mid (transactions_in d) = rw (setting_here, t) at read in
    rw (← started_here, ← read_here) refl

-- the same, as a document
pub same_document : (d : Data) (start : State) (blocks : List tree.Block) (last : Numbers) (setting : Setting) (numbers : Numbers)
    → numbers ≡ no_numbers → setting ≡ setting_in d → spelled start blocks last ≡ parts_in numbers d
    → (let read : Document = record {
      version = setting.version;
      start = start;
      texts = record { objects = setting.names; items = last.items; reasons = last.reasons };
      transactions = blocks;
    } in read ≡ document_in d)
unfolding document_in
same_document d start blocks last setting numbers none set parts =
    let parts_here : spelled start blocks last ≡ parts_in no_numbers d = rw none at parts in
    rw (← parts_here, set) refl

-- what is met before anything is read has no fault
pub met_first : (start next : Counts) (asked : Placed) → start ≡ no_counts → seek start asked ≡ Ok next → first_fault asked ≡ None
met_first start next asked begun met = ap (λ c. fault_in (seek c asked)) (sym begun) ∙ ap fault_in met

-- what fails before anything is read is the first fault
pub failed_first : (start : Counts) (asked : Placed) (fault : Fault) → start ≡ no_counts → fault_in (seek start asked) ≡ Some fault
    → first_fault asked ≡ Some fault
failed_first start asked fault begun failed = ap (λ c. fault_in (seek c asked)) (sym begun) ∙ failed
