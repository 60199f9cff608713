-- A list whose first elements are mapped, one after the other.
use Rattle.std.proofs.Common.{◌≡◌, ℕ, zero, suc, ◌+◌, ◌<◌, ◌≤◌, List, [], ◌∷◌, length, map, set, get_or, refl, sym, ap, ◌∙◌, arith}
use Rattle.std.proofs.lemmas.List.{get_or-map, length-map, map-set}

-- the first i elements are mapped
abbrev pub mapped_to : {A : Type 0} → (A → A) → ℕ → List A → List A
mapped_to f zero xs = xs
mapped_to f (suc i) [] = []
mapped_to f (suc i) (x ∷ xs) = f x ∷ mapped_to f i xs

length-mapped : {A : Type 0} (f : A → A) (i : ℕ) (xs : List A) → length (mapped_to f i xs) ≡ length xs
length-mapped f zero xs = refl
length-mapped f (suc i) [] = refl
length-mapped f (suc i) (x ∷ xs) = ap suc (length-mapped f i xs)

-- one more of them
mapped_more : {A : Type 0} (f : A → A) (xs : List A) (i : ℕ) (y d : A) → i < length xs → y ≡ f (get_or (mapped_to f i xs) i d)
    → set (mapped_to f i xs) i y ≡ mapped_to f (suc i) xs
mapped_more f [] i y d lt is = absurd (omega (arith, lt))
mapped_more f (x ∷ xs) zero y d lt is = ap (λ z. z ∷ xs) is
mapped_more f (x ∷ xs) (suc i) y d lt is = ap (λ zs. f x ∷ zs) (mapped_more f xs i y d (omega (arith, lt)) is)

-- a list, of which the views of the first elements are mapped, and then one more
pub view_more : {X A : Type 0} (view : X → A) (f : A → A) (xs : List X) (old : List A) (i : ℕ) (x y : X) → i < length xs
    → x ≡ get_or xs i x → map view xs ≡ mapped_to f i old → view y ≡ f (view x) → map view (set xs i y) ≡ mapped_to f (i + 1) old
view_more view f xs old i x y lt is now new =
    let lengths = sym (length-map xs view) ∙ ap length now ∙ length-mapped f i old in
    let next : suc i ≡ i + 1 = omega arith in
    let here = ap view is ∙ sym (get_or-map view xs i x (view x) lt) ∙ ap (λ l. get_or l i (view x)) now in
    map-set view xs i y ∙ ap (λ l. set l i (view y)) now
    ∙ mapped_more f old i (view y) (view x) (omega (arith, lengths, lt)) (new ∙ ap f here) ∙ ap (λ n. mapped_to f n old) next

-- all of them
pub mapped_whole : {A : Type 0} (f : A → A) (i : ℕ) (xs : List A) → length xs ≤ i → mapped_to f i xs ≡ map f xs
mapped_whole f zero [] le = refl
mapped_whole f (suc i) [] le = refl
mapped_whole f zero (x ∷ xs) le = absurd (omega (arith, le))
mapped_whole f (suc i) (x ∷ xs) le = ap (λ zs. f x ∷ zs) (mapped_whole f i xs (omega (arith, le)))
