-- What is among the elements of a list, and lists of elements that differ.
use Rattle.std.proofs.Common.{◌≡◌, ◌≢◌, suc, ◌⊎◌, inl, inr, List, [], ◌∷◌, map, refl, ap, subst, arith}
use Rattle.std.specs.Prelude.{⊤}
use Rattle.std.specs.List.{AllByRecursion, Contains}

module _ {A : Type 0} where
  abbrev pub Among : A → List A → Type 0
  Among x [] = ⊥
  Among x (y ∷ ys) = (y ≡ x) ⊎ Among x ys

  -- each differs from those after it
  abbrev pub Apart : List A → Type 0
  Apart [] = ⊤
  Apart (x ∷ xs) = AllByRecursion (λ y. x ≢ y) xs × Apart xs

  pub each_of : (P : A → Type 0) (xs : List A) → ((x : A) → Among x xs → P x) → AllByRecursion P xs
  each_of P [] h = tt
  each_of P (x ∷ xs) h = (h x (inl refl), each_of P xs (λ y at. h y (inr at)))

  pub of_each : (P : A → Type 0) (xs : List A) (x : A) → AllByRecursion P xs → Among x xs → P x
  of_each P [] x all at = absurd at
  of_each P (y ∷ ys) x all (inl is) = subst P is all.0
  of_each P (y ∷ ys) x all (inr at) = of_each P ys x all.1 at

  pub contains_among : (xs : List A) (x : A) → Among x xs → Contains xs x
  contains_among [] x at = absurd at
  contains_among (y ∷ ys) x (inl is) = (0, omega arith, is)
  contains_among (y ∷ ys) x (inr at) = let there = contains_among ys x at in let below = there.1 in (suc there.0, omega arith, there.2)

module _ {A B : Type 0} (f : A → B) where
  pub among_map : (xs : List A) (x : A) → Among x xs → Among (f x) (map f xs)
  among_map [] x at = absurd at
  among_map (y ∷ ys) x (inl is) = inl (ap f is)
  among_map (y ∷ ys) x (inr at) = inr (among_map ys x at)

  pub among_from_map : (xs : List A) (b : B) → Among b (map f xs) → (x : A) × Among x xs × (f x ≡ b)
  among_from_map [] b at = absurd at
  among_from_map (y ∷ ys) b (inl is) = (y, inl refl, is)
  among_from_map (y ∷ ys) b (inr at) = let found = among_from_map ys b at in (found.0, inr found.1, found.2)

  each_apart : (x : A) (xs : List A) → ((y : A) → Among y xs → f x ≡ f y → x ≡ y) → AllByRecursion (λ y. x ≢ y) xs
      → AllByRecursion (λ b. f x ≢ b) (map f xs)
  each_apart x [] one all = tt
  each_apart x (y ∷ ys) one all = (λ e. all.0 (one y (inl refl) e), each_apart x ys (λ z at. one z (inr at)) all.1)

  -- where f distinguishes the elements
  pub apart_map : (xs : List A) → ((x y : A) → Among x xs → Among y xs → f x ≡ f y → x ≡ y) → Apart xs → Apart (map f xs)
  apart_map [] one apart = tt
  apart_map (x ∷ xs) one apart = (
    each_apart x xs (λ y at. one x y (inl refl) (inr at)) apart.0,
    apart_map xs (λ y z at at'. one y z (inr at) (inr at')) apart.1,
  )

  each_from : (x : A) (xs : List A) → AllByRecursion (λ b. f x ≢ b) (map f xs) → AllByRecursion (λ y. x ≢ y) xs
  each_from x [] all = tt
  each_from x (y ∷ ys) all = (λ e. all.0 (ap f e), each_from x ys all.1)

  pub apart_from_map : (xs : List A) → Apart (map f xs) → Apart xs
  apart_from_map [] apart = tt
  apart_from_map (x ∷ xs) apart = (each_from x xs apart.0, apart_from_map xs apart.1)
