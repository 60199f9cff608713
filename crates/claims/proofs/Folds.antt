-- What `total`, `most` and `least` become when one view changes, a view is added, or two become one.
use Rattle.std.proofs.Common.{◌≡◌, ◌≢◌, ℕ, zero, suc, ◌+◌, ◌≤◌, min, max, List, [], ◌∷◌, ◌++◌, set, sym, refl, ap, ◌∙◌, arith}
use mathlib.Core.Option.{some, some-injective, some-ne-none}
use lib.ListN.{get_elem?}
use Rattle.atomic_table.proofs.Lists.{set_again}
use Rattle.claims.specs.declared.view.SeatView.{SeatView}
use Rattle.claims.specs.Views.{least}

-- f of each view, added up
abbrev pub total : (SeatView → ℕ) → List SeatView → ℕ
total f [] = 0
total f (v ∷ vs) = f v + total f vs

-- the greatest f of a view, or 0
abbrev pub most : (SeatView → ℕ) → List SeatView → ℕ
most f [] = 0
most f (v ∷ vs) = max (f v) (most f vs)

module _ (f : SeatView → ℕ) where
  -- one view changes
  pub total_set : (views : List SeatView) (i : ℕ) (v w : SeatView) → get_elem? views i ≡ some v
      → total f (set views i w) + f v ≡ total f views + f w
  total_set [] i v w at = absurd (some-ne-none v (sym at))
  total_set (x ∷ xs) zero v w at = omega (arith, ap f (some-injective x v at))
  total_set (x ∷ xs) (suc i) v w at = omega (arith, total_set xs i v w at)

  -- a view is added
  pub total_push : (views : List SeatView) (w : SeatView) → total f (views ++ w ∷ []) ≡ total f views + f w
  total_push [] w = omega arith
  total_push (x ∷ xs) w = omega (arith, total_push xs w)

  -- no view counts
  pub total_idle : (views : List SeatView) → ((i : ℕ) (u : SeatView) → get_elem? views i ≡ some u → f u ≡ 0) → total f views ≡ 0
  total_idle [] none = refl
  total_idle (x ∷ xs) none = omega (arith, none 0 x refl, total_idle xs (λ i u at. none (suc i) u at))

  -- one view counts in the total
  pub total_ge : (views : List SeatView) (i : ℕ) (v : SeatView) → get_elem? views i ≡ some v → f v ≤ total f views
  total_ge [] i v at = absurd (some-ne-none v (sym at))
  total_ge (x ∷ xs) zero v at = omega (arith, ap f (some-injective x v at))
  total_ge (x ∷ xs) (suc i) v at = omega (arith, total_ge xs i v at)

  -- a smaller number of each view
  pub total_le : (g : SeatView → ℕ) (views : List SeatView) → ((i : ℕ) (u : SeatView) → get_elem? views i ≡ some u → f u ≤ g u)
      → total f views ≤ total g views
  total_le g [] below = omega arith
  total_le g (x ∷ xs) below = omega (arith, below 0 x refl, total_le g xs (λ i u at. below (suc i) u at))

  -- one view rises
  pub most_set : (views : List SeatView) (i : ℕ) (v w : SeatView) → get_elem? views i ≡ some v → f v ≤ f w
      → most f (set views i w) ≡ max (most f views) (f w)
  most_set [] i v w at up = absurd (some-ne-none v (sym at))
  most_set (x ∷ xs) zero v w at up = omega (arith, ap f (some-injective x v at))
  most_set (x ∷ xs) (suc i) v w at up = omega (arith, most_set xs i v w at up)

  -- the same where z counts in nothing
  pub most_put : (views : List SeatView) (i : ℕ) (v w z : SeatView) → get_elem? views i ≡ some v → f z ≡ 0
      → most f (set views i w) ≡ max (f w)
      (most f (set views i z))
  most_put [] i v w z at e = absurd (some-ne-none v (sym at))
  most_put (x ∷ xs) zero v w z at e = omega arith
  most_put (x ∷ xs) (suc i) v w z at e = omega (arith, most_put xs i v w z at e)

  -- one view apart
  pub most_at : (views : List SeatView) (i : ℕ) (v z : SeatView) → get_elem? views i ≡ some v → f z ≡ 0
      → most f views ≡ max (f v) (most f (set views i z))
  most_at views i v z at e = ap (most f) (sym (set_again views i v at)) ∙ most_put views i v v z at e

  -- two views become one and a spent one
  pub most_join : (views : List SeatView) (i j : ℕ) (v w both z : SeatView) → get_elem? views i ≡ some v → j ≢ i
      → get_elem? (set views i both) j ≡ some w → f both ≡ max (f v) (f w) → f z ≡ 0
      → most f (set (set views i both) j z) ≡ most f views
  most_join [] i j v w both z at apart there sum e = absurd (some-ne-none v (sym at))
  most_join (x ∷ xs) zero zero v w both z at apart there sum e = absurd (apart refl)
  most_join (x ∷ xs) zero (suc j) v w both z at apart there sum e = omega (arith, ap f (some-injective x v at), most_at xs j w z there e)
  most_join (x ∷ xs) (suc i) zero v w both z at apart there sum e = omega (
    arith,
    ap f (some-injective x w there),
    most_at xs i v z at e,
    most_put xs i v both z at e,
  )
  most_join (x ∷ xs) (suc i) (suc j) v w both z at apart there sum e =
      ap (max (f x)) (most_join xs i j v w both z at (λ h. apart (ap suc h)) there sum e)

  -- a view is added
  pub most_push : (views : List SeatView) (w : SeatView) → most f (views ++ w ∷ []) ≡ max (most f views) (f w)
  most_push [] w = omega arith
  most_push (x ∷ xs) w = omega (arith, most_push xs w)

  -- no view counts
  pub most_idle : (views : List SeatView) → ((i : ℕ) (u : SeatView) → get_elem? views i ≡ some u → f u ≡ 0) → most f views ≡ 0
  most_idle [] none = refl
  most_idle (x ∷ xs) none = omega (arith, none 0 x refl, most_idle xs (λ i u at. none (suc i) u at))

  -- one view is at most the greatest, and the greatest at most what each is
  pub most_ge : (views : List SeatView) (i : ℕ) (v : SeatView) → get_elem? views i ≡ some v → f v ≤ most f views
  most_ge [] i v at = absurd (some-ne-none v (sym at))
  most_ge (x ∷ xs) zero v at = omega (arith, ap f (some-injective x v at))
  most_ge (x ∷ xs) (suc i) v at = omega (arith, most_ge xs i v at)

  pub most_le : (n : ℕ) (views : List SeatView) → ((u : SeatView) → f u ≤ n) → most f views ≤ n
  most_le n [] below = omega arith
  most_le n (x ∷ xs) below = omega (arith, below x, most_le n xs below)

  -- the least is at most where it begins
  pub least_start : (n : ℕ) (views : List SeatView) → least f n views ≤ n
  least_start n [] = omega arith
  least_start n (x ∷ xs) = omega (arith, least_start n xs)

  -- one view falls
  pub least_set : (n : ℕ) (views : List SeatView) (i : ℕ) (v w : SeatView) → get_elem? views i ≡ some v → f w ≤ f v
      → least f n (set views i w) ≡ min (least f n views) (f w)
  least_set n [] i v w at down = absurd (some-ne-none v (sym at))
  least_set n (x ∷ xs) zero v w at down = omega (arith, ap f (some-injective x v at))
  least_set n (x ∷ xs) (suc i) v w at down = omega (arith, least_set n xs i v w at down)

  -- the same where z counts in nothing
  pub least_put : (n : ℕ) (views : List SeatView) (i : ℕ) (v w z : SeatView) → get_elem? views i ≡ some v → n ≤ f z
      → least f n (set views i w) ≡ min (f w) (least f n (set views i z))
  least_put n [] i v w z at e = absurd (some-ne-none v (sym at))
  least_put n (x ∷ xs) zero v w z at e = omega (arith, least_start n xs)
  least_put n (x ∷ xs) (suc i) v w z at e = omega (arith, least_put n xs i v w z at e)

  -- one view apart
  pub least_at : (n : ℕ) (views : List SeatView) (i : ℕ) (v z : SeatView) → get_elem? views i ≡ some v → n ≤ f z
      → least f n views ≡ min (f v) (least f n (set views i z))
  least_at n views i v z at e = ap (least f n) (sym (set_again views i v at)) ∙ least_put n views i v v z at e

  -- two views become one and a spent one
  pub least_join : (n : ℕ) (views : List SeatView) (i j : ℕ) (v w both z : SeatView) → get_elem? views i ≡ some v → j ≢ i
      → get_elem? (set views i both) j ≡ some w → f both ≡ min (f v) (f w) → n ≤ f z
      → least f n (set (set views i both) j z) ≡ least f n views
  least_join n [] i j v w both z at apart there sum e = absurd (some-ne-none v (sym at))
  least_join n (x ∷ xs) zero zero v w both z at apart there sum e = absurd (apart refl)
  least_join n (x ∷ xs) zero (suc j) v w both z at apart there sum e =
      omega (arith, ap f (some-injective x v at), least_at n xs j w z there e)
  least_join n (x ∷ xs) (suc i) zero v w both z at apart there sum e =
      omega (
        arith,
        ap f (some-injective x w there),
        least_at n xs i v z at e,
        least_put n xs i v both z at e,
        least_start n (set xs i both),
      )
  least_join n (x ∷ xs) (suc i) (suc j) v w both z at apart there sum e =
      ap (min (f x)) (least_join n xs i j v w both z at (λ h. apart (ap suc h)) there sum e)

  -- a view is added
  pub least_push : (n : ℕ) (views : List SeatView) (w : SeatView) → least f n (views ++ w ∷ []) ≡ min (least f n views) (min (f w) n)
  least_push n [] w = omega arith
  least_push n (x ∷ xs) w = omega (arith, least_push n xs w)

  -- no view counts
  pub least_idle : (n : ℕ) (views : List SeatView) → ((i : ℕ) (u : SeatView) → get_elem? views i ≡ some u → n ≤ f u) → least f n views ≡ n
  least_idle n [] none = refl
  least_idle n (x ∷ xs) none = omega (arith, none 0 x refl, least_idle n xs (λ i u at. none (suc i) u at))

  -- the least is at most each
  pub least_le : (n : ℕ) (views : List SeatView) (i : ℕ) (v : SeatView) → get_elem? views i ≡ some v → least f n views ≤ f v
  least_le n [] i v at = absurd (some-ne-none v (sym at))
  least_le n (x ∷ xs) zero v at = omega (arith, ap f (some-injective x v at))
  least_le n (x ∷ xs) (suc i) v at = omega (arith, least_le n xs i v at)

-- a join leaves a total as it was
pub total_join : (f : SeatView → ℕ) (views : List SeatView) (i j : ℕ) (v w both z : SeatView) → get_elem? views i ≡ some v
    → get_elem? (set views i both) j ≡ some w → f both ≡ f v + f w → f z ≡ 0
    → total f (set (set views i both) j z) ≡ total f views
total_join f views i j v w both z at there sum e = omega (arith, total_set f views i v both at, total_set f (set views i both) j w z there)
