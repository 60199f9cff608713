-- Entries that stand for many.
use Rattle.std.specs.Prelude.{◌≡◌, List, [], ◌∷◌, ◌++◌, map, ◌↔◌}
use Rattle.objects.specs.declared.entry.Entry.{Entry}
use Rattle.objects.specs.Entries.{CommuteForward, CommutesWith}
use Rattle.conflicts.specs.Strictness.{strength_of}
use Rattle.committed.specs.declared.marks.MarkedEntry.{MarkedEntry}
use Rattle.conflicts.specs.declared.strength.Strength.{Strength}

-- the entries, without their marks
abbrev pub entries_of : List MarkedEntry → List Entry
entries_of marked = map (λ m. m.entry) marked

-- the strengths of the entries
abbrev pub strengths_of : List MarkedEntry → List Strength
strengths_of marked = map (λ m. strength_of m.entry) marked

-- an entry came at the end
abbrev pub HasMore : List MarkedEntry → Entry → List MarkedEntry → Type 0
HasMore old e new = entries_of new ≡ entries_of old ++ e ∷ []

-- what commutes forward with all of these entries commutes forward with this one
abbrev pub IsCovered : List Entry → Entry → Type 0
IsCovered entries e = (other : Entry) → CommutesWith other entries → CommuteForward other e

-- what commutes forward with all of these entries commutes forward with each entry of this strength
abbrev pub AreCovered : List Entry → Strength → Type 0
AreCovered entries strength = (e : Entry) → strength_of e ≡ strength → IsCovered entries e

-- what commutes forward with all of the one commutes forward with all of the other
pub record IsSummary (summary entries : List Entry) : Type 0 where
  pub same : (other : Entry) → CommutesWith other summary ↔ CommutesWith other entries
