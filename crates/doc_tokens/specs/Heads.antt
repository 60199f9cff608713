-- What is read of a document before and after its objects. No public contract names it.
use Rattle.std.specs.Prelude.{◌≡◌, ◌≤◌, ◌∷◌, ℕ, List, Some, codes}
use Rattle.json.specs.Token.{Token, begin_array, begin_object, key, number}
use Rattle.serde_json.specs.Data.{unsigned}
use Rattle.serde_json.specs.Read.{number_of}
use Rattle.doc_rules.specs.declared.limits.TheConstants.{LAST_VERSION}
use Rattle.doc_tokens.specs.declared.head.Order.{Order}
use Rattle.doc_tokens.specs.declared.head.Order.TheVariants.{VersionFirst, ObjectsFirst}

-- a text writes a version
abbrev pub IsVersion : List ℕ → ℕ → Type 0
IsVersion text version = (number_of text ≡ Some (unsigned version)) × (1 ≤ version) × (version ≤ LAST_VERSION)

-- The tokens `old` begin a document, up to the bracket that begins its objects; `new` are left. Its version is this, if it comes first.
abbrev pub Opens : ℕ → Order → List Token → List Token → Type 0
Opens version VersionFirst old new = (s : List ℕ)
    × (old ≡ begin_object ∷ key (codes "ordtx") ∷ number s ∷ key (codes "objects") ∷ begin_array ∷ new) × IsVersion s version
Opens version ObjectsFirst old new = old ≡ begin_object ∷ key (codes "objects") ∷ begin_array ∷ new

-- the tokens `old` go on after its objects, up to the key of its transactions, and `new` are left
abbrev pub Closes : ℕ → Order → List Token → List Token → Type 0
Closes version VersionFirst old new = old ≡ key (codes "transactions") ∷ new
Closes version ObjectsFirst old new = (s : List ℕ)
    × (old ≡ key (codes "ordtx") ∷ number s ∷ key (codes "transactions") ∷ new) × IsVersion s version
