-- What is known of items that the pieces of a work gave, each piece once.
use Rattle.std.proofs.Common.{◌≡◌, ◌≢◌, ℕ, zero, suc, ◌+◌, ◌<◌, ◌≤◌, eqb, List, [], ◌∷◌, ◌++◌, length, sym, refl, ap, ◌∙◌, subst, arith}
use native.Mathlib.Decide.{ℕ_discrete}
use Rattle.std.proofs.lemmas.Bool.Decides.{nat_tests}
use Rattle.std.proofs.lemmas.List.{length-append}
use Rattle.std.proofs.lemmas.List.Elements.{All-append}
use Rattle.std.proofs.lemmas.List.FromFn.{length-range_with_len}
use Rattle.std.proofs.lemmas.List.Sums.{sum_by-cons}
use Rattle.std.proofs.lemmas.List.Sorted.{IsPermutation-refl, IsPermutation-sym, IsPermutation-trans, IsPermutation-middle}
use Rattle.std.proofs.lemmas.List.Sorted.{IsPermutation-to_front, IsPermutation-cons, length_permutation, sum_by-IsPermutation}
use Rattle.std.specs.List.{All, range_with_len, sum_by}
use Rattle.std.specs.List.Sorted.{IsPermutation}
use Rattle.claims.specs.Views.{bit, times, once_below, HoldsEachBelow}
use Rattle.claims.proofs.Lists.{same_once, below_of_once, times-append, once_below_next}
use Rattle.workers.specs.Working.{AreGiven, AreGivenOnce}
use Rattle.workers.proofs.Boards.{once_some, once_here}

bit_other : (x y : ℕ) → y ≢ x → bit (eqb y x) ≡ 0
bit_other x y other = grind (arith, nat_tests)

-- a list with a number in it, parted there
pub parted : (x : ℕ) (ks : List ℕ) → 0 < times x ks → (front : List ℕ) × (back : List ℕ) × (ks ≡ front ++ x ∷ back)
parted x [] some = absurd (omega arith)
parted x (k ∷ ks) some = elim (ℕ_discrete k x) [
  | yes same ↦ ([], ks, ap (λ n. n ∷ ks) same)
  | no other ↦ let more = parted x ks (omega (arith, bit_other x k other)) in (k ∷ more.0, more.1, ap (λ l. k ∷ l) more.2)
]

-- the number that was parted is there once more than in the rest
parted_times : (x y : ℕ) (front back : List ℕ) → times y (front ++ x ∷ back) ≡ times y (front ++ back) + bit (eqb x y)
parted_times x y front back = omega (arith, times-append y front (x ∷ back), times-append y front back)

-- one number more of a range
range_next : (a n : ℕ) → range_with_len a (suc n) ≡ range_with_len a n ++ (a + n) ∷ []
range_next a zero = let same : a ≡ a + 0 = omega arith in ap (λ m. m ∷ []) same
range_next a (suc n) = let same : (a + 1) + n ≡ a + suc n = omega arith in
    ap (λ l. a ∷ l) (range_next (a + 1) n ∙ ap (λ m. range_with_len (a + 1) n ++ m ∷ []) same)

-- a list that doesn't have a number
no_number : (ks : List ℕ) → ((x : ℕ) → times x ks ≡ 0) → ks ≡ []
no_number [] none = refl
no_number (k ∷ ks) none = absurd (omega (arith, none k, same_once k))

-- the numbers up to n, and n
range_last : (n : ℕ) → range_with_len 0 (suc n) ≡ range_with_len 0 n ++ n ∷ []
range_last n = let same : 0 + n ≡ n = omega arith in range_next 0 n ∙ ap (λ m. range_with_len 0 n ++ m ∷ []) same

-- what is left of such a list without the greatest number
without_last : (n : ℕ) (ks front back : List ℕ) → ks ≡ front ++ n ∷ back → HoldsEachBelow (n + 1) ks → HoldsEachBelow n (front ++ back)
without_last n ks front back is once x = omega (arith, ap (times x) is, parted_times n x front back, once x, once_below_next x n)

-- an order of the others is one of all
order_next : (n : ℕ) (ks front back : List ℕ) → ks ≡ front ++ n ∷ back → IsPermutation (range_with_len 0 n) (front ++ back)
    → IsPermutation (range_with_len 0 n ++ n ∷ []) ks
order_next n ks front back is order =
    let last = IsPermutation-trans _ _ _ (IsPermutation-to_front (range_with_len 0 n) n)
    (IsPermutation-cons n (range_with_len 0 n) (front ++ back) order) in
    subst (IsPermutation (range_with_len 0 n ++ n ∷ [])) (sym is)
    (IsPermutation-trans _ _ _ last (IsPermutation-sym _ _ (IsPermutation-middle front n back)))

-- no number is below 0
below_none : (x : ℕ) → once_below x 0 ≡ 0
below_none x = grind (arith, nat_tests)

-- a list that holds each number below n once is those numbers in some order
pub some_order : (n : ℕ) (ks : List ℕ) → HoldsEachBelow n ks → IsPermutation (range_with_len 0 n) ks
some_order zero ks once = subst (IsPermutation []) (sym (no_number ks (λ x. once x ∙ below_none x))) (IsPermutation-refl [])
some_order (suc n) ks once =
    let next : suc n ≡ n + 1 = omega arith in
    let at = parted n ks (omega (arith, once n, once_some n (suc n) (omega arith))) in
    let less = without_last n ks at.0 at.1 at.2 (subst (λ m. HoldsEachBelow m ks) next once) in
    subst (λ r. IsPermutation r ks) (sym (range_last n)) (order_next n ks at.0 at.1 at.2 (some_order n (at.0 ++ at.1) less))

-- there are n of them
pub count_once : (n : ℕ) (ks : List ℕ) → HoldsEachBelow n ks → length ks ≡ n
count_once n ks once = length_permutation (range_with_len 0 n) ks (some_order n ks once) ∙ length-range_with_len 0 n

module _ {X : Type 0} (giving : ℕ → List X → Type 0) where
  -- what holds of each item of a piece holds of each item
  pub each_given : (P : X → Type 0) → ((k : ℕ) (own : List X) → giving k own → All P own) → (ks : List ℕ) (items : List X)
      → AreGiven giving ks items → All P items
  each_given P of_piece [] items none = subst (All P) (sym none) (λ k d lt. absurd (omega arith))
  each_given P of_piece (k ∷ ks) items (own, rest, is, here, more) = subst (All P) (sym is)
      (All-append P own rest (of_piece k own here) (each_given P of_piece ks rest more))

  -- pieces that give an item at most give no more items than there are pieces
  few_given : ((k : ℕ) (own : List X) → giving k own → length own ≤ 1) → (ks : List ℕ) (items : List X) → AreGiven giving ks items
      → length items ≤ length ks
  few_given of_piece [] items none = omega (arith, ap length none)
  few_given of_piece (k ∷ ks) items (own, rest, is, here, more) = omega (
    arith,
    ap length is,
    length-append own rest,
    of_piece k own here,
    few_given of_piece ks rest more,
  )

  -- the same of all pieces
  pub few_given_once : ((k : ℕ) (own : List X) → giving k own → length own ≤ 1) → (n : ℕ) (items : List X) → AreGivenOnce giving n items
      → length items ≤ n
  few_given_once of_piece n items all = omega (arith, few_given of_piece all.order items all.given, count_once n all.order all.once)

  -- a number of each list that adds up
  module _ (m : List X → ℕ) (empty : m [] ≡ 0) (sums : (xs ys : List X) → m (xs ++ ys) ≡ m xs + m ys) where
    sum_given : (f : ℕ → ℕ) → ((k : ℕ) (own : List X) → giving k own → m own ≡ f k) → (ks : List ℕ) (items : List X)
        → AreGiven giving ks items → m items ≡ sum_by f ks
    sum_given f of_piece [] items none = ap m none ∙ empty
    sum_given f of_piece (k ∷ ks) items (own, rest, is, here, more) =
        omega (arith, ap m is, sums own rest, of_piece k own here, sum_given f of_piece ks rest more, sum_by-cons f k ks)

    -- of all items it is the sum over the pieces
    pub sum_given_once : (f : ℕ → ℕ) → ((k : ℕ) (own : List X) → giving k own → m own ≡ f k) → (n : ℕ) (items : List X)
        → AreGivenOnce giving n items → m items ≡ sum_by f (range_with_len 0 n)
    sum_given_once f of_piece n items all = sum_given f of_piece all.order items all.given
        ∙ sum_by-IsPermutation f (range_with_len 0 n) all.order (some_order n all.order all.once)

    -- where no piece gives any of it, there is none
    none_given : (ks : List ℕ) (items : List X) → ((j : ℕ) (own : List X) → 0 < times j ks → giving j own → m own ≡ 0)
        → AreGiven giving ks items → m items ≡ 0
    none_given [] items none is = ap m is ∙ empty
    none_given (k ∷ ks) items none (own, rest, is, here, more) =
        omega (
          arith,
          ap m is,
          sums own rest,
          none k own (omega (arith, same_once k)) here,
          none_given ks rest
              (λ j other in_rest. none j other (omega arith)) more,
        )

    pub given_nowhere : (n : ℕ) (items : List X) → ((j : ℕ) (own : List X) → j < n → giving j own → m own ≡ 0)
        → AreGivenOnce giving n items → m items ≡ 0
    given_nowhere n items none all = none_given all.order items (λ j own some. none j own (below_of_once j n (omega (arith, all.once j))))
        all.given

    -- where no other piece gives any of it, it is what one piece gives
    only_here : (k : ℕ) → ((j : ℕ) (own : List X) → j ≢ k → giving j own → m own ≡ 0) → (ks : List ℕ) (items : List X) → times k ks ≡ 1
        → AreGiven giving ks items → (own : List X) × giving k own × (m items ≡ m own)
    only_here k apart [] items once is = absurd (omega arith)
    only_here k apart (j ∷ ks) items once (own, rest, is, here, more) = elim (ℕ_discrete j k) [
      | yes same ↦
          let none : times k ks ≡ 0 = omega (arith, same_once k, subst (λ i. bit (eqb i k) + times k ks ≡ 1) same once) in (
            own,
            subst (λ i. giving i own) same here,
            omega (
              arith,
              ap m is,
              sums own rest,
              none_given ks rest
                  (λ i other some. apart i other (λ e. absurd (omega (arith, none, subst (λ x. 0 < times x ks) e some)))) more,
            ),
          )
      | no other ↦
          let later = only_here k apart ks rest (omega (arith, bit_other k j other)) more in
          (later.0, later.1, omega (arith, ap m is, sums own rest, apart j own other here, later.2))
    ]

    -- the same of all items
    pub given_here : (k n : ℕ) → k < n → ((j : ℕ) (own : List X) → j ≢ k → giving j own → m own ≡ 0) → (items : List X)
        → AreGivenOnce giving n items → (own : List X) × giving k own × (m items ≡ m own)
    given_here k n lt apart items all = only_here k apart all.order items (all.once k ∙ once_here k n lt) all.given
