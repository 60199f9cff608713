-- Levels kept in one list: the places at which they start. No public contract names it.
use Rattle.std.specs.Prelude.{ℕ, ◌≤◌, List, [], ◌∷◌, take, drop}

-- starts of levels in one list, from the innermost, each within the part before the one inside it
abbrev pub IsNested : List ℕ → ℕ → Type 0
IsNested [] n = Unit {0}
IsNested (start ∷ starts) n = (start ≤ n) × IsNested starts start

-- the part of a list from the innermost start on
abbrev pub innermost : {A : Type 0} → List ℕ → List A → List A
innermost [] xs = xs
innermost (start ∷ starts) xs = drop start xs

-- the parts of a list between the starts around it, from the inside
abbrev pub around : {A : Type 0} → List ℕ → List A → List (List A)
around [] xs = []
around (start ∷ starts) xs = innermost starts (take start xs) ∷ around starts (take start xs)

-- what a list shows at the begin of each level, from the innermost
abbrev pub at_starts : {A B : Type 0} → (List A → B) → List ℕ → List A → List B
at_starts show [] xs = []
at_starts show (start ∷ starts) xs = show (take start xs) ∷ at_starts show starts (take start xs)
