-- Between which objects entries are.
use Rattle.std.specs.Prelude.{ℕ, ◌≤◌, List}
use Rattle.std.specs.List.{All}
use Rattle.objects.specs.declared.entry.Entry.{Entry}
use Rattle.committed.specs.declared.span.Span.{Span}

-- the object is in the span
abbrev pub IsIn : Span → ℕ → Type 0
IsIn span object = (span.first ≤ object) × (object ≤ span.last)

-- each entry is about an object of the span
abbrev pub AreIn : Span → List Entry → Type 0
AreIn span entries = All (λ e. IsIn span e.object) entries
