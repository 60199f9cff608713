-- Documents that are refused.
use Rattle.std.proofs.Common.{◌≡◌, ◌≤◌, ℕ, List, [], Bool, true, false, Option, None, Some, Result, Ok, Err, cond, refl, sym, ap, ◌∙◌}
use Rattle.std.specs.Str.{IsUtf8, is_utf8}
use Rattle.std.proofs.lemmas.Str.{IsUtf8-from_is_utf8, is_utf8-from_IsUtf8}
use Rattle.json.specs.Lex.{tokens}
use Rattle.serde_json.specs.Data.{Data}
use Rattle.serde_json.specs.Find.{as_object}
use Rattle.serde_json.specs.Read.{read as read_text}
use Rattle.doc_rules.specs.declared.failure.Failure.{Failure}
use Rattle.faults.specs.Faults.{wrong_outside}
use Rattle.faults.specs.declared.fault.Wrong.TheVariants.{Shape}
use Rattle.doc_tree.specs.declared.counts.Counts.{Counts}
use Rattle.faults.specs.declared.fault.Fault.{Fault}
use Rattle.doc_tree.specs.Asked.{document_shape_asked}
use Rattle.doc_tree.specs.Demand.{check, no_counts}
use Rattle.doc_tree.specs.Places.{fault_in, first_fault, here, placed}
use Rattle.lang.specs.Reading.{spelled_by, value_of}
use Rattle.lang.proofs.AskedLemmas.{shape_failed}
use Rattle.doc_tokens.specs.Pulled.{ReadsValue}
use Rattle.doc_tokens.proofs.PulledLemmas.{reads_text}
use Rattle.lang.proofs.SpelledLemmas.{refuses}

no_text : (bytes : List ℕ) (b : Bool) (value : Option Data) → is_utf8 bytes ≡ b → (IsUtf8 bytes → ⊥) → cond b value None ≡ None
no_text bytes true value is never = absurd (never (IsUtf8-from_is_utf8 bytes is))
no_text bytes false value is never = refl

-- bytes that are no text write no value
pub no_value : (bytes : List ℕ) → (IsUtf8 bytes → ⊥) → value_of bytes ≡ None
no_value bytes never = no_text bytes (is_utf8 bytes) (read_text bytes) refl never

-- the value that was read to the end is the bytes'
pub value_known : (bytes text : List ℕ) (k : ℕ) (d : Data) → k ≤ 127 → IsUtf8 bytes → text ≡ bytes → ReadsValue k (tokens text) d []
    → value_of bytes ≡ Some d
value_known bytes text k d few valid same reads =
    rw (is_utf8-from_IsUtf8 bytes valid) (ap read_text (sym same) ∙ reads_text text k d few reads)

-- a document's first fault is what its bytes are refused for
pub refused_for : (bytes : List ℕ) (d : Data) (fault : Fault) → value_of bytes ≡ Some d → first_fault (placed d) ≡ Some fault
    → spelled_by (value_of bytes) ≡ Err fault
refused_for bytes d fault known first = ap spelled_by known ∙ refuses d fault first

-- a fault of the shape is the first
pub shape_first : (d : Data) (fault : Fault) → fault_in (here (check no_counts (document_shape_asked d))) ≡ Some fault
    → first_fault (placed d) ≡ Some fault
shape_first d fault failed = by (check no_counts (document_shape_asked d)) refl failed
  where
    by : (r : Result Counts Failure) → check no_counts (document_shape_asked d) ≡ r → fault_in (here r) ≡ Some fault
        → first_fault (placed d) ≡ Some fault
    by (Ok c) is some = cc
    by (Err failure) is some = ap fault_in (shape_failed d no_counts failure is) ∙ some

-- what is no object has not the shape
pub no_object_shape : (d : Data) → as_object d ≡ None
    → fault_in (here (check no_counts (document_shape_asked d))) ≡ Some (wrong_outside Shape)
unfolding document_shape_asked
no_object_shape d none = rw none refl

-- what has a fault isn't met
pub not_met : (d : Data) (next : Counts) (fault : Fault) → fault_in (here (check no_counts (document_shape_asked d))) ≡ Some fault
    → check no_counts (document_shape_asked d) ≡ Ok next → ⊥
not_met d next fault failed met =
    let never : None ≡ Some fault = sym (ap (λ r. fault_in (here r)) met) ∙ failed in cc
