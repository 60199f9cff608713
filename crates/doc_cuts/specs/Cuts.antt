-- Where a text may be cut.
use Rattle.std.specs.Prelude.{◌≡◌, ℕ, ◌+◌, List, [], ◌∷◌, Bool, false, true, cond, ◌==◌, codes, drop}
use Rattle.std.specs.Char.{is_ascii_whitespace}
use Rattle.memchr.specs.Find.{OccursAt}

-- but for white space, a bracket `[` comes first
unfoldable pub opens_array : List ℕ → Bool
opens_array [] = false
opens_array (x ∷ xs) = cond (is_ascii_whitespace x) (opens_array xs) (x == 91)

-- at k is a bracket `]`, after it a comma, and after that, but for white space, a bracket `[`
abbrev pub IsCut : List ℕ → ℕ → Type 0
IsCut text k = OccursAt text (codes "],") k × (opens_array (drop (k + 2) text) ≡ true)
