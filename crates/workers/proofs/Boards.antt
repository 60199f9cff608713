-- What is known of the seats of a board once all are back.
use Rattle.std.proofs.Common.{◌≡◌, ◌⊎◌, ℕ, zero, suc, ◌+◌, ◌<◌, ◌≤◌, Bool, true, false, true≢false, ◌||◌, ltb, eqb, ne_eqb, List, [], ◌∷◌}
use Rattle.std.proofs.Common.{◌++◌, length, replicate, sym, refl, ap, ◌∙◌, subst, inl, inr, ⊎_elim, arith}
use Rattle.std.proofs.lemmas.List.Elements.{All-tail}
use native.Mathlib.Decide.{ℕ_discrete}
use Rattle.std.proofs.lemmas.Bool.Decides.{nat_tests}
use Rattle.std.proofs.lemmas.List.{length-replicate}
use Rattle.std.specs.List.{All, list_any}
use Rattle.claims.specs.Views.{is_over, bit, times, once_below, all_drawn}
use Rattle.claims.specs.Seated.{Seated, views_of}
use Rattle.claims.proofs.Lists.{times-append}

-- nobody raised
pub none_raised : (seats : List Seated) → All (λ s. s.view.raised ≡ false) seats → list_any (λ v. v.raised) (views_of seats) ≡ false
none_raised [] each = refl
none_raised (s ∷ seats) each = ap (λ b. b || list_any (λ v. v.raised) (views_of seats)) (each 0 s (omega arith))
    ∙ none_raised seats (All-tail (λ u. u.view.raised ≡ false) s seats each)

-- a seat that is over and didn't get Stopped got Done
done_of_over : (n : ℕ) (b : Bool) → (ltb 0 n || b) ≡ true → ¬ (b ≡ true) → 0 < n
done_of_over zero b over not = absurd (not over)
done_of_over (suc n) b over not = omega arith

-- where some seats are over, beside those that didn't claim, and none raised, all pieces were drawn
pub all_pieces : (pieces drawn : ℕ) (stopped : Bool) (unused seats : List Seated) → 0 < length seats
    → All (λ s. is_over s.view ≡ true) seats → stopped ≡ false → All (λ s. 0 < s.view.done → drawn ≡ pieces) (unused ++ seats)
    → All (λ s. s.view.stopped ≡ true → stopped ≡ true) (unused ++ seats) → drawn ≡ pieces
all_pieces pieces drawn stopped [] [] some over quiet done told = absurd (omega arith)
all_pieces pieces drawn stopped [] (s ∷ seats) some over quiet done told =
    done 0 s (omega arith) (done_of_over s.view.done s.view.stopped (over 0 s (omega arith))
    (λ was. true≢false (sym (told 0 s (omega arith) was) ∙ quiet)))
all_pieces pieces drawn stopped (u ∷ unused) seats some over quiet done told =
    all_pieces pieces drawn stopped unused seats some over quiet
    (All-tail (λ s. 0 < s.view.done → drawn ≡ pieces) u (unused ++ seats) done)
    (All-tail (λ s. s.view.stopped ≡ true → stopped ≡ true) u (unused ++ seats) told)

-- what holds of each number of a list holds of one in it
pub in_list : (Q : ℕ → Type 0) (xs : List ℕ) (k : ℕ) → All Q xs → 0 < times k xs → Q k
in_list Q [] k each some = absurd (omega arith)
in_list Q (x ∷ xs) k each some = elim (ℕ_discrete x k) [
  | yes same ↦ subst Q same (each 0 x (omega arith))
  | no other ↦ in_list Q xs k (All-tail Q x xs each) (let none : bit (eqb x k) ≡ 0 = ap bit (ne_eqb x k other) in omega arith)
]

-- a sum that is not 0 has a part that isn't
either_some : (m n : ℕ) → 0 < m + n → (0 < m) ⊎ (0 < n)
either_some zero n h = inr (omega arith)
either_some (suc m) n h = inl (omega arith)

-- a piece that was drawn was drawn by some seat
pub in_some : (Q : Type 0) (seats : List Seated) (k : ℕ) → All (λ s. 0 < times k s.view.drawn → Q) seats
    → 0 < times k (all_drawn (views_of seats)) → Q
in_some Q [] k each some = absurd (omega arith)
in_some Q (s ∷ seats) k each some =
    ⊎_elim (λ (here : 0 < times k s.view.drawn). each 0 s (omega arith) here)
    (λ (there : 0 < times k (all_drawn (views_of seats))). in_some Q seats k (All-tail (λ u. 0 < times k u.view.drawn → Q) s seats each)
    there)
    (either_some (times k s.view.drawn) (times k (all_drawn (views_of seats)))
    (omega (arith, times-append k s.view.drawn (all_drawn (views_of seats)))))

-- a piece below the number of pieces is there once
pub once_some : (k n : ℕ) → k < n → 0 < once_below k n
once_some k n lt = grind (arith, nat_tests)

-- a board is dealt to some seat
pub some_dealt : {A : Type 0} (n : ℕ) (x : A) (xs : List A) → xs ≡ replicate n x → 1 ≤ n → 0 < length xs
some_dealt n x xs is some = let size = ap length is ∙ length-replicate n x in omega arith

pub once_here : (k n : ℕ) → k < n → once_below k n ≡ 1
once_here k n lt = grind (arith, nat_tests)
