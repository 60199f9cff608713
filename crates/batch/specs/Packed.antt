-- The parts of a text that lie one after the other.
use Rattle.std.specs.Prelude.{◌≡◌, ◌≤◌, ℕ, List, [], ◌∷◌, length, slice_range}
use Rattle.std.specs.Str.{IsCharBoundary}

-- the parts that end at these places, of which the first begins at `start`
abbrev pub parts_from : List ℕ → ℕ → List ℕ → List (List ℕ)
parts_from text start [] = []
parts_from text start (end ∷ ends) = slice_range text start end ∷ parts_from text end ends

-- no part ends before it begins or within a character, and the last one ends where the text does
abbrev pub AreEnds : List ℕ → ℕ → List ℕ → Type 0
AreEnds text start [] = start ≡ length text
AreEnds text start (end ∷ ends) = (start ≤ end) × IsCharBoundary text end × AreEnds text end ends
