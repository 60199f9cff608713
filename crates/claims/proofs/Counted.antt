-- The rule in the form in which the steps are proved: its sums one view at a time, and what holds of each view together.
use Rattle.std.proofs.Common.{◌≡◌, ℕ, zero, suc, ◌+◌, ◌<◌, ◌≤◌, min, max, Bool, true, false, ◌||◌, List, [], ◌∷◌, length, sym, refl, ap}
use Rattle.std.proofs.Common.{◌∙◌, subst, arith, length-append}
use Rattle.std.specs.List.{All, sum_by, list_any}
use Rattle.std.proofs.lemmas.List.Sums.{sum_by-cons}
use mathlib.Core.Option.{some, some-injective, some-ne-none}
use lib.ListN.{get_elem?}
use Rattle.claims.specs.declared.view.SeatView.{SeatView}
use Rattle.claims.specs.declared.view.Size.{Size}
use Rattle.claims.specs.Views.{most_pieces, most_seats, spent, bit, times, once_below, all_drawn, least}
use Rattle.claims.specs.Rule.{Kept}
use Rattle.claims.proofs.Folds.{total, most}
use Rattle.claims.proofs.Lists.{times-append}

-- what the rule says of one view, at these words
pub record Fits (pieces next stop first : ℕ) (v : SeatView) : Type 0 where
  pub idle : v.shares ≡ 0 → v ≡ spent
  pub sized : 0 < v.shares → v.pieces ≡ pieces
  pub few_done : v.done ≤ v.shares
  pub passed : 0 < v.done → pieces < next
  pub stopped : v.stopped ≡ true → stop ≡ 1
  pub told : first ≤ v.told

-- the rule, counted one view at a time
pub record Counted (size : Size) (words : List ℕ) (views : List SeatView) : Type 0 where
  pub next : ℕ
  pub stop : ℕ
  pub first : ℕ
  pub words_are : words ≡ next ∷ stop ∷ first ∷ []
  pub small : (size.pieces ≤ most_pieces) × (size.seats ≤ most_seats)
  pub shares : total (λ v. v.shares) views ≡ size.seats
  pub once : (x : ℕ) → total (λ v. times x v.drawn) views ≡ once_below x (min next size.pieces)
  pub count : total (λ v. length v.drawn) views ≡ min next size.pieces
  pub draws : next ≡ total (λ v. length v.drawn) views + total (λ v. v.done) views
  pub raised : stop ≡ most (λ v. bit v.raised) views
  pub lowest : first ≡ least (λ v. v.low) size.pieces views
  pub each : (seat : ℕ) (v : SeatView) → get_elem? views seat ≡ some v → Fits size.pieces next stop first v

-- a total is std's sum
total_is : (f : SeatView → ℕ) (views : List SeatView) → total f views ≡ sum_by f views
total_is f [] = refl
total_is f (v ∷ views) = ap (λ n. f v + n) (total_is f views) ∙ sym (sum_by-cons f v views)

-- a total over the lists is one over all of them together
total_times : (x : ℕ) (views : List SeatView) → total (λ v. times x v.drawn) views ≡ times x (all_drawn views)
total_times x [] = refl
total_times x (v ∷ views) = ap (λ n. times x v.drawn + n) (total_times x views) ∙ sym (times-append x v.drawn (all_drawn views))

total_length : (views : List SeatView) → total (λ v. length v.drawn) views ≡ length (all_drawn views)
total_length [] = refl
total_length (v ∷ views) = ap (λ n. length v.drawn + n) (total_length views) ∙ sym (length-append v.drawn (all_drawn views))

-- a bit is 0 or 1
pub bit_small : (b : Bool) → bit b ≤ 1
bit_small true = omega arith
bit_small false = omega arith

-- the bit of a disjunction is the greater one
pub bit_or_max : (a b : Bool) → bit (a || b) ≡ max (bit a) (bit b)
bit_or_max true b = sym (omega (arith, bit_small b))
bit_or_max false b = omega arith

-- the greatest mark is whether any is set
most_is : (views : List SeatView) → most (λ v. bit v.raised) views ≡ bit (list_any (λ v. v.raised) views)
most_is [] = refl
most_is (v ∷ views) = ap (λ n. max (bit v.raised) n) (most_is views) ∙ sym (bit_or_max v.raised (list_any (λ u. u.raised) views))

-- a fact of each view, by its place, and the other way round
at_each : (P : SeatView → Type 0) (views : List SeatView) → All P views → (i : ℕ) (v : SeatView) → get_elem? views i ≡ some v → P v
at_each P [] all i v at = absurd (some-ne-none v (sym at))
at_each P (u ∷ views) all zero v at = subst P (some-injective u v at) (all 0 u (omega arith))
at_each P (u ∷ views) all (suc i) v at = at_each P views (λ k d lt. all (suc k) d (omega arith)) i v at

of_each : (P : SeatView → Type 0) (views : List SeatView) → ((i : ℕ) (v : SeatView) → get_elem? views i ≡ some v → P v) → All P views
of_each P [] each k d lt = absurd (omega arith)
of_each P (v ∷ views) each zero d lt = each 0 v refl
of_each P (v ∷ views) each (suc k) d lt = of_each P views (λ i u at. each (suc i) u at) k d (omega arith)

-- the two forms of the rule say the same
pub counted : (size : Size) (words : List ℕ) (views : List SeatView) → Kept size words views → Counted size words views
counted size words views k = record {
  next = k.next;
  stop = k.stop;
  first = k.first;
  words_are = k.words_are;
  small = k.small;
  shares = total_is (λ v. v.shares) views ∙ k.shares;
  once = λ x. total_times x views ∙ k.once x;
  count = total_length views ∙ k.count;
  draws = omega (arith, k.draws, total_length views, total_is (λ v. v.done) views);
  raised = k.raised ∙ sym (most_is views);
  lowest = k.lowest;
  each = λ i v at. record {
    idle = at_each (λ u. u.shares ≡ 0 → u ≡ spent) views k.idle i v at;
    sized = at_each (λ u. 0 < u.shares → u.pieces ≡ size.pieces) views k.sized i v at;
    few_done = at_each (λ u. u.done ≤ u.shares) views k.few_done i v at;
    passed = at_each (λ u. 0 < u.done → size.pieces < k.next) views k.passed i v at;
    stopped = at_each (λ u. u.stopped ≡ true → k.stop ≡ 1) views k.stopped i v at;
    told = at_each (λ u. k.first ≤ u.told) views k.told i v at;
  };
}

pub kept : (size : Size) (words : List ℕ) (views : List SeatView) → Counted size words views → Kept size words views
kept size words views c = record {
  next = c.next;
  stop = c.stop;
  first = c.first;
  words_are = c.words_are;
  small = c.small;
  shares = sym (total_is (λ v. v.shares) views) ∙ c.shares;
  idle = of_each (λ u. u.shares ≡ 0 → u ≡ spent) views (λ i v at. (c.each i v at).idle);
  sized = of_each (λ u. 0 < u.shares → u.pieces ≡ size.pieces) views (λ i v at. (c.each i v at).sized);
  once = λ x. sym (total_times x views) ∙ c.once x;
  count = sym (total_length views) ∙ c.count;
  draws = omega (arith, c.draws, total_length views, total_is (λ v. v.done) views);
  few_done = of_each (λ u. u.done ≤ u.shares) views (λ i v at. (c.each i v at).few_done);
  passed = of_each (λ u. 0 < u.done → size.pieces < c.next) views (λ i v at. (c.each i v at).passed);
  raised = c.raised ∙ most_is views;
  stopped = of_each (λ u. u.stopped ≡ true → c.stop ≡ 1) views (λ i v at. (c.each i v at).stopped);
  lowest = c.lowest;
  told = of_each (λ u. c.first ≤ u.told) views (λ i v at. (c.each i v at).told);
}
