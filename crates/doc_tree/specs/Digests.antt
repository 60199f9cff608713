-- What distinguishes short names: how long a name is, and its last bytes as a number. And what is known of objects by it.
use Rattle.std.specs.Prelude.{◌≡◌, ℕ, ◌+◌, ◌*◌, ◌-◌, min, List, [], ◌∷◌, drop, length, option_map, slice_get, Some}
use Rattle.std.specs.List.{All}
use Rattle.objects.specs.declared.kind.Kind.{Kind}
use Rattle.doc_tree.specs.declared.digests.Digest.{Digest}
use Rattle.doc_tree.specs.declared.outlines.Outline.{Outline}

-- the number that these bytes write, the lowest of them first
abbrev pub number_of_bytes : List ℕ → ℕ
number_of_bytes [] = 0
number_of_bytes (byte ∷ bytes) = byte + number_of_bytes bytes * 256

-- the last 8 bytes of a name, or all of a shorter one
abbrev pub ending_of : List ℕ → List ℕ
ending_of name = drop (length name - 8) name

abbrev pub digest_of : List ℕ → Digest
digest_of name = record { ending = number_of_bytes (ending_of name); length = min (length name) 255 }

-- ---- objects

-- an object of this kind, whose name has this digest, is at the place
pub record IsObject (names : List (List ℕ)) (kinds : List Kind) (digest : Digest) (found : ℕ × Kind) : Type 0 where
  pub name : option_map digest_of (slice_get names found.0) ≡ Some digest
  pub kind : slice_get kinds found.0 ≡ Some found.1

-- the digest of the name of an outline's object
abbrev pub digest_in : Outline → Digest
digest_in outline = record { ending = outline.ending; length = outline.length }

-- an outline is of the object at the place before its end, or its end is 0 and it is of none
abbrev pub IsRight : List (List ℕ) → List Kind → Outline → Type 0
IsRight names kinds outline = (place : ℕ) → outline.end ≡ place + 1 → IsObject names kinds (digest_in outline) (place, outline.kind)

-- all outlines, slot by slot
abbrev pub AreRight : List (List ℕ) → List Kind → List (List Outline) → Type 0
AreRight names kinds = All (All (IsRight names kinds))
