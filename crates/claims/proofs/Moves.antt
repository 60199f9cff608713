-- Each step of a board is one that the table allows.
use Rattle.std.proofs.Common.{◌≡◌, ℕ, zero, suc, ◌+◌, ◌%◌, ◌^◌, ◌<◌, ◌≤◌, min, List, [], ◌∷◌, set, get_or, sym, refl, subst, arith}
use Rattle.std.specs.Prelude.{bit_or}
use mathlib.Core.Option.{none, some}
use lib.ListN.{get_elem?}
use native.Mathlib.Decide.{dec_lt, ℕ_discrete}
use Rattle.atomic_table.specs.Table.{keeps, Allows, Splits, Joins, step}
use Rattle.claims.specs.declared.view.SeatView.{SeatView}
use Rattle.claims.specs.declared.view.Size.{Size}
use Rattle.claims.specs.Views.{fresh, spent, one_share_less, joined_views}
use Rattle.claims.specs.Rule.{Holds}
use Rattle.claims.specs.Steps.{Draws, Looks, Raises, Lowers, Bounds, with_piece, told_done, told_stopped, having_raised, lowered}
use Rattle.claims.specs.Steps.{told_bound}
use Rattle.claims.proofs.Counted.{Counted, counted, kept}
use Rattle.claims.proofs.Keeps.{next_small, stop_small, drawn_before, draws_piece, draws_none, finds_raised, looks_stopped, looks_same}
use Rattle.claims.proofs.Keeps.{raises_stop, lowers_first, bound_low, bounds_first, first_small, splits_share, joins_seat}

abbrev Slots : Type 0
Slots = List (ℕ × Unit {0})

-- the seat id with the view v, at these words and views, can take the step and keep the rule
abbrev Goes : Size → ℕ → Slots → ℕ → (ℕ → ℕ) → (ℕ → SeatView × Slots → Type 0) → List SeatView → List ℕ → Type 0
Goes size id held word f then views words = (w : SeatView) × Counted size (set words word (f (get_or words word 0))) (set views id w)
    × then (get_or words word 0) (w, held)

-- a step that keeps the rule in its counted form is one that the table allows
allowed : (size : Size) (slots id word : ℕ) (v : SeatView) (held : Slots) (f : ℕ → ℕ) (then : ℕ → SeatView × Slots → Type 0)
    → ((words : List ℕ) (views : List SeatView) (k : Counted size words views) → get_elem? views id ≡ some v
    → Goes size id held word f then views (k.next ∷ k.stop ∷ k.first ∷ []))
    → Allows (Holds size) slots id (v, held) word f then
allowed size slots id word v held f then goes s k homes at fits =
    let c : Counted size s.words s.views = counted size s.words s.views k in
    let g : Goes size id held word f then s.views s.words = subst (Goes size id held word f then s.views) (sym c.words_are)
    (goes s.words s.views c at) in
    (g.0, keeps, tt, kept size _ _ g.1, g.2)

-- the other case of a test
not_below : (m n : ℕ) → ¬ (m < n) → n ≤ m
not_below m n h = omega arith

-- raising a word that is 0 or 1 makes it 1
or_one : (n : ℕ) → n ≤ 1 → bit_or n 1 ≡ 1
or_one zero h = refl
or_one (suc zero) h = refl
or_one (suc (suc n)) h = absurd (omega arith)

-- a draw is allowed
pub draws : (size : Size) (slots id : ℕ) (v : SeatView) (held : Slots) → 0 < v.shares → v.done ≡ 0
    → Allows (Holds size) slots id (v, held) 0
    (λ n. (n + 1) % 2 ^ 64) (Draws (step slots 0 1 0 none) (v, held))
draws size slots id v held share new = allowed size slots id 0 v held (λ n. (n + 1) % 2 ^ 64) (Draws (step slots 0 1 0 none) (v, held))
    (λ words views k at.
    let few : (k.next + 1) % 2 ^ 64 ≡ k.next + 1 = omega (arith, next_small size words views k id v at share, k.small) in
    let sized : v.pieces ≡ size.pieces = (k.each id v at).sized share in
    elim (dec_lt k.next size.pieces) [
      | yes left ↦ (
        with_piece v k.next,
        subst (λ n. Counted size (n ∷ k.stop ∷ k.first ∷ []) (set views id (with_piece v k.next))) (sym few)
            (draws_piece size words views k id v at share left),
        (refl, (λ _. (refl, drawn_before size words views k id v at share)), (λ over. absurd (omega arith))),
      )
      | no over ↦ (
        told_done v,
        subst (λ n. Counted size (n ∷ k.stop ∷ k.first ∷ []) (set views id (told_done v))) (sym few)
            (draws_none size words views k id v at share (not_below k.next size.pieces over) new),
        (refl, (λ left. absurd (over (subst (λ p. k.next < p) sized left))), (λ _. refl)),
      )
    ])

-- a look is allowed
pub looks : (size : Size) (slots id : ℕ) (v : SeatView) (held : Slots) → 0 < v.shares → Allows (Holds size) slots id (v, held) 1 (λ n. n)
    (Looks (step slots 1 0 0 none) (v, held))
looks size slots id v held share = allowed size slots id 1 v held (λ n. n) (Looks (step slots 1 0 0 none) (v, held)) (λ words views k at.
    elim (ℕ_discrete k.stop 1) [
      | yes is ↦ (told_stopped v, looks_stopped size words views k id v at share is, ((λ _. refl), (λ other. absurd (other is)), λ _. is))
      | no other ↦ (
        v,
        looks_same size words views k id v at share,
        (
          (λ is. absurd (other is)),
          (λ _. refl),
          finds_raised size words views k id v at share,
        ),
      )
    ])

-- a raise is allowed
pub raises : (size : Size) (slots id : ℕ) (v : SeatView) (held : Slots) → 0 < v.shares → Allows (Holds size) slots id (v, held) 1
    (λ n. bit_or n 1) (Raises (step slots 1 1 0 none) (v, held))
raises size slots id v held share = allowed size slots id 1 v held (λ n. bit_or n 1) (Raises (step slots 1 1 0 none) (v, held))
    (λ words views k at.
    let one : bit_or k.stop 1 ≡ 1 = or_one k.stop (stop_small size words views k id v at share) in (
      having_raised v,
      subst (λ n. Counted size (k.next ∷ n ∷ k.first ∷ []) (set views id (having_raised v))) (sym one)
          (raises_stop size words views k id v at share),
      refl,
    ))

-- a lower is allowed
pub lowers : (size : Size) (slots id : ℕ) (v : SeatView) (held : Slots) (n : ℕ) → 0 < v.shares → Allows (Holds size) slots id (v, held) 2
    (λ m. min m n) (Lowers (step slots 2 n 0 none) (v, held))
lowers size slots id v held n share = allowed size slots id 2 v held (λ m. min m n) (Lowers (step slots 2 n 0 none) (v, held))
    (λ words views k at.
    (lowered v n, lowers_first size words views k id v at share n, refl))

-- a bound is allowed
pub bounds : (size : Size) (slots id : ℕ) (v : SeatView) (held : Slots) → 0 < v.shares → Allows (Holds size) slots id (v, held) 2 (λ n. n)
    (Bounds (step slots 2 0 0 none) (v, held))
bounds size slots id v held share = allowed size slots id 2 v held (λ n. n) (Bounds (step slots 2 0 0 none) (v, held))
    (λ words views k at. (
      told_bound v k.first,
      bounds_first size words views k id v at share,
      (
        refl,
        (k.each id v at).told,
        bound_low size words views k id v at share,
        let e = (k.each id v at).sized share in
            omega (arith, first_small size words views k id v at share),
      ),
    ))

-- a split is allowed
pub splits : (size : Size) (id : ℕ) (v : SeatView) → 1 < v.shares → v.done ≡ 0
    → Splits (Holds size) id v (one_share_less v) (fresh 1 v.pieces)
splits size id v many new s k at = kept size _ _ (splits_share size s.words s.views (counted size s.words s.views k) id v at
    (omega arith) many new)

-- a join is allowed
pub joins : (size : Size) (id other : ℕ) (v w : SeatView) → 0 < v.shares → Joins (Holds size) id v other w (joined_views v w) spent
joins size id other v w share s k at apart there =
    kept size _ _ (joins_seat size s.words s.views (counted size s.words s.views k) id v at share other w apart there)
