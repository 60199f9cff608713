-- Levels kept in one list: how it grows and shrinks under the places at which they start.
use Rattle.std.proofs.Common.{◌≡◌, ℕ, suc, ◌≤◌, arith, List, [], ◌∷◌, ◌++◌, length, take, drop, refl, sym, ap, ◌∙◌}
use Rattle.std.proofs.lemmas.List.{take-take, take-append-le, drop-append-le, take-append-drop, length-take-le}
use Rattle.intentions.specs.Starts.{IsNested, innermost, around, at_starts}

pub nested_more : (starts : List ℕ) (m n : ℕ) → IsNested starts m → m ≤ n → IsNested starts n
nested_more [] m n h le = tt
nested_more (start ∷ starts) m n h le = (omega (arith, h.0), h.1)

-- only what comes before the innermost start counts
pub at_starts-append : {A B : Type 0} (show : List A → B) (starts : List ℕ) (xs ys : List A) → IsNested starts (length xs)
    → at_starts show starts (xs ++ ys) ≡ at_starts show starts xs
at_starts-append show [] xs ys h = refl
at_starts-append show (start ∷ starts) xs ys h = ap (λ zs. show zs ∷ at_starts show starts zs) (take-append-le start xs ys h.0)

pub length-around : {A : Type 0} (starts : List ℕ) (xs : List A) → length (around starts xs) ≡ length starts
length-around [] xs = refl
length-around (start ∷ starts) xs = ap suc (length-around starts (take start xs))

-- a level that ends as part of the one around it
pub innermost_joined : {A : Type 0} (start : ℕ) (starts : List ℕ) (xs : List A) → IsNested (start ∷ starts) (length xs)
    → innermost starts (take start xs) ++ drop start xs ≡ innermost starts xs
innermost_joined start [] xs h = take-append-drop start xs
innermost_joined start (outer ∷ starts) xs h =
    let within : outer ≤ length (take start xs) = rw (length-take-le start xs h.0) h.1.0 in
    sym (drop-append-le outer (take start xs) (drop start xs) within) ∙ ap (drop outer) (take-append-drop start xs)

pub around-take : {A : Type 0} (start : ℕ) (starts : List ℕ) (xs : List A) → IsNested starts start
    → around starts (take start xs) ≡ around starts xs
around-take start [] xs h = refl
around-take start (outer ∷ starts) xs h = ap (λ ys. innermost starts ys ∷ around starts ys) (take-take outer start xs h.0)
