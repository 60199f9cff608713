-- What is said of a document's first fault.
use Rattle.std.proofs.Common.{◌≡◌, ℕ, ◌<◌, ◌≤◌, ◌++◌, None, Some, Result, Err, List, length, inl, inr}
use Rattle.std.proofs.Common.{refl, string_bytes, subst, sym, ap, ◌∙◌}
use Rattle.serde_json.specs.Data.{Data, null}
use Rattle.serde_json.specs.View.{view}
use Rattle.faults.specs.declared.fault.Fault.{Fault}
use Rattle.doc_rules.specs.Failures.{fault_of}
use Rattle.doc_rules.specs.Limits.{limits_of}
use Rattle.doc_rules.specs.declared.limits.TheConstants.{MAX_BYTES}
use Rattle.doc_rules.specs.declared.rule.CountRule.TheVariants.{Bytes}
use Rattle.doc_rules.specs.declared.rule.Rule.TheVariants.{Few}
use Rattle.doc_mistakes.specs.Within.{place_within}
use Rattle.doc_mistakes.specs.Words.{IsSaid}
use Rattle.doc_tree.specs.declared.counts.Counts.{Counts}
use Rattle.doc_tree.specs.Demand.{no_counts}
use Rattle.doc_tree.specs.Places.{Found, fault_in, first_fault, placed, seek}
use Rattle.lang.specs.declared.misread.Misread.{Misread}
use Rattle.lang.specs.declared.places.Place.{Place}
use Rattle.lang.specs.declared.places.Place.TheVariants.{Whole, Pointer, LineColumn}
use Rattle.lang.specs.Found.{IsFirstIn, IsFoundAt, IsMistake, IsShort, IsToldAt, IsToldOf, IsTooLong, Shows, TellsPlace, found_by, part_at}
use Rattle.lang.specs.Reading.{reading, spelled_by, value_of, version_by}
use Rattle.lang.proofs.SpelledLemmas.{found_there, reads_short, refused_for_first}

-- what a value's first demand is refused for
fault_known : (bytes : List ℕ) (d : Data) (fault : Fault) → reading bytes ≡ Err fault → IsShort bytes
    → value_of bytes ≡ Some d → first_fault (placed d) ≡ Some fault
fault_known bytes d fault reads short known =
    refused_for_first d fault (sym (reads_short bytes short ∙ ap spelled_by known) ∙ reads)

-- a document with a fault has one
pub not_faultless : (bytes : List ℕ) (d : Data) (fault : Fault) → reading bytes ≡ Err fault → IsShort bytes → value_of bytes ≡ Some d
    → first_fault (placed d) ≡ None → ⊥
not_faultless bytes d fault reads short known none =
    let never : None ≡ Some fault = sym none ∙ fault_known bytes d fault reads short known in cc

faults_alike : (found : Found) (fault : Fault) (r : Result Counts Found) → fault_in r ≡ Some fault → r ≡ Err found
    → fault ≡ fault_of found.failure
faults_alike found fault r failed is = let both : Some (fault_of found.failure) ≡ Some fault = sym (ap fault_in is) ∙ failed in cc

-- what is said of the first demand that isn't met is said of the fault
pub mistake_told : (bytes : List ℕ) (d : Data) (fault : Fault) (found : Found) (place : Place) (words : List ℕ) (start : Counts)
    → reading bytes ≡ Err fault → IsShort bytes → value_of bytes ≡ Some d
    → start ≡ no_counts → seek start (placed d) ≡ Err found → TellsPlace d found place words
    → IsMistake bytes fault place words
mistake_told bytes d fault found place words start reads short known begun failed (pointer, shown, told) = by place shown
  where
    here : seek no_counts (placed d) ≡ Err found
    here = rw begun at failed

    at : (p : List ℕ) → pointer ≡ p → IsFoundAt bytes fault p words
    at p same = record {
      value = d;
      written = known;
      found = found;
      first = found_there d found here;
      is = faults_alike found fault (seek no_counts (placed d)) (fault_known bytes d fault reads short known) here;
      told = subst (λ p. IsToldOf d found p words) same told;
    }

    by : (place : Place) → Shows pointer place → IsMistake bytes fault place words
    by Whole shows = inr (short, at _ shows)
    by (Pointer text position) shows = (short, subst (λ p. 0 < length p) (sym shows.1) shows.0, at _ (sym shows.1))
    by (LineColumn position) shows = absurd shows

-- what is said of a rule that a part doesn't keep is said of the fault
pub misread_told : (bytes : List ℕ) (d : Data) (fault : Fault) (misread : Misread) (place : Place) (words : List ℕ) (start : Counts)
    → reading bytes ≡ Err fault → IsShort bytes → value_of bytes ≡ Some d
    → start ≡ no_counts → IsFirstIn start (placed d) d misread
    → IsToldAt (view misread.part) misread.rule (string_bytes misread.pointer) place words
    → IsMistake bytes fault place words
misread_told bytes d fault misread place words start reads short known begun first said =
    let pointer = string_bytes misread.pointer in
    let told = subst (λ part. IsToldAt part misread.rule pointer place words) first.1 said in
    mistake_told bytes d fault (found_by misread) place words start reads short known begun first.0 (
      pointer ++ place_within misread.rule (part_at pointer d),
      told.shown,
      record { rule = misread.rule; transaction = misread.transaction; broken = refl; at = refl; said = told.said },
    )

-- what is said of too many bytes is said of the fault, too
pub length_told : (bytes : List ℕ) (fault : Fault) (place : Place) (words : List ℕ) → place ≡ Whole → IsTooLong bytes words
    → IsMistake bytes fault place words
length_told bytes fault place words whole long = subst (λ p. IsMistake bytes fault p words) (sym whole) (inl long)

-- bytes are more than the limits of their value's version ask for, and this is said of it
pub long_by : (bytes words : List ℕ) (version : ℕ) → length bytes ≤ MAX_BYTES → version ≡ version_by (value_of bytes)
    → (limits_of version).bytes < length bytes → IsSaid (Few (Bytes version)) null words → IsTooLong bytes words
long_by bytes words version fits is long said =
    inr (fits, subst (λ v. (limits_of v).bytes < length bytes) is long, subst (λ v. IsSaid (Few (Bytes v)) null words) is said)
