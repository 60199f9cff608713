-- The laws of what is written, as statements.
use Rattle.std.specs.Prelude.{◌≡◌, ℕ, List}

-- Two texts of the same bytes are equal.
abbrev pub OneTextLaw : (List ℕ → List ℕ → Type 0) → Type 0
OneTextLaw IsTextOf = (bytes first second : List ℕ) → IsTextOf bytes first → IsTextOf bytes second → first ≡ second

-- Two faults of the same bytes are equal.
abbrev pub OneFaultLaw : {A : Type 0} → (List ℕ → A → Type 0) → Type 0
OneFaultLaw {A} IsFault = (bytes : List ℕ) (first second : A) → IsFault bytes first → IsFault bytes second → first ≡ second

-- Bytes that have such a text have no such fault.
abbrev pub FaultlessLaw : {A : Type 0} → (List ℕ → List ℕ → Type 0) → (List ℕ → A → Type 0) → Type 0
FaultlessLaw {A} IsTextOf IsFault = (bytes text : List ℕ) (fault : A) → IsTextOf bytes text → ¬ IsFault bytes fault
