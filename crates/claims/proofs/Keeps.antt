-- Each kind of step keeps the rule.
use Rattle.std.proofs.Common.{◌≡◌, ◌≢◌, ℕ, zero, suc, ◌+◌, ◌<◌, ◌≤◌, min, Bool, true, false, true≢false, ◌||◌, List, [], ◌∷◌, ◌++◌, length}
use Rattle.std.proofs.Common.{set, sym, refl, ap, ◌∙◌, subst, ⊎_elim, arith, length-append}
use Rattle.std.specs.List.{All}
use mathlib.Core.Option.{some}
use lib.ListN.{get_elem?}
use Rattle.atomic_table.proofs.Lists.{at_set, at_snoc}
use Rattle.claims.specs.declared.view.SeatView.{SeatView}
use Rattle.claims.specs.declared.view.Size.{Size}
use Rattle.claims.specs.Views.{fresh, spent, one_share_less, joined_views, bit, times, once_below, least}
use Rattle.claims.specs.Steps.{with_piece, told_done, told_stopped, having_raised, lowered, told_bound}
use Rattle.claims.proofs.Counted.{Fits, Counted, bit_small, bit_or_max}
use Rattle.claims.proofs.Folds.{total, most, total_set, total_push, total_ge, total_le, total_join, most_set, most_push, most_ge, most_le}
use Rattle.claims.proofs.Folds.{most_join, least_start, least_set, least_push, least_le, least_join}
use Rattle.claims.proofs.Lists.{times-append, all_of_times, below_of_once, once_below_next}

-- a fact of each view, after one view has changed
pub each_set : (F G : SeatView → Type 0) (views : List SeatView) (id : ℕ) (w : SeatView) → ((i : ℕ) (u : SeatView)
    → get_elem? views i ≡ some u → F u)
    → G w → ((u : SeatView) → F u → G u)
    → (i : ℕ) (u : SeatView) → get_elem? (set views id w) i ≡ some u → G u
each_set F G views id w old mine later i u at = ⊎_elim (λ (t : (i ≡ id) × (w ≡ u)). subst G t.1 mine)
    (λ (t : (i ≢ id) × (get_elem? views i ≡ some u)). later u (old i u t.1)) (at_set views id i w u at)

-- NEXT and STOP only rise, and FIRST only falls
pub fits_later : (pieces next stop first next' stop' first' : ℕ) (v : SeatView) → next ≤ next' → (stop ≡ 1 → stop' ≡ 1) → first' ≤ first
    → Fits pieces next stop first v → Fits pieces next' stop' first' v
fits_later pieces next stop first next' stop' first' v more still less h = record {
  idle = h.idle;
  sized = h.sized;
  few_done = h.few_done;
  passed = λ p. let q = h.passed p in omega arith;
  stopped = λ p. still (h.stopped p);
  told = let q = h.told in omega arith;
}

-- the same of a view that has a share
active : (pieces next stop first : ℕ) (v : SeatView) → 0 < v.shares → v.pieces ≡ pieces → v.done ≤ v.shares → (0 < v.done → pieces < next)
    → (v.stopped ≡ true → stop ≡ 1) → first ≤ v.told
    → Fits pieces next stop first v
active pieces next stop first v share sized few passed stopped told = record {
  idle = λ none. absurd (omega arith);
  sized = λ _. sized;
  few_done = few;
  passed = passed;
  stopped = stopped;
  told = told;
}

-- a fact that follows where either of two numbers is positive follows where their sum is
passed_either : (m n : ℕ) (P : Type 0) → (0 < m → P) → (0 < n → P) → 0 < m + n → P
passed_either zero n P left right p = right (omega arith)
passed_either (suc m) n P left right p = left (omega arith)

-- the same of two marks and of their disjunction
stopped_either : (a b : Bool) (stop : ℕ) → (a ≡ true → stop ≡ 1) → (b ≡ true → stop ≡ 1) → (a || b) ≡ true → stop ≡ 1
stopped_either true b stop left right p = left refl
stopped_either false b stop left right p = right p

module _ (size : Size) (words : List ℕ) (views : List SeatView) (k : Counted size words views) (id : ℕ) (v : SeatView)
    (at : get_elem? views id ≡ some v) (share : 0 < v.shares) where
  -- what the rule says of a view at the words as they are
  abbrev Now : SeatView → Type 0
  Now = Fits size.pieces k.next k.stop k.first

  -- and of the view that takes the step
  mine : Now v
  mine = k.each id v at

  -- NEXT is at most the number of pieces and that of seats
  pub next_small : k.next ≤ size.pieces + size.seats
  next_small = omega (
    arith,
    k.draws,
    k.count,
    k.shares,
    total_le (λ u. u.done) (λ u. u.shares) views
        (λ i u there. (k.each i u there).few_done),
  )

  -- STOP is 0 or 1
  pub stop_small : k.stop ≤ 1
  stop_small = omega (arith, k.raised, most_le (λ u. bit u.raised) 1 views (λ u. bit_small u.raised))

  -- a seat has drawn only pieces below NEXT
  pub drawn_before : All (λ x. x < k.next) v.drawn
  drawn_before = all_of_times k.next v.drawn (λ x some_time.
      let below : x < min k.next size.pieces = below_of_once x (min k.next size.pieces)
      (omega (arith, k.once x, total_ge (λ u. times x u.drawn) views id v at)) in omega arith)

  -- a total, the greatest and the least where the view's own number stays
  total_same : (f : SeatView → ℕ) (w : SeatView) → f w ≡ f v → total f (set views id w) ≡ total f views
  total_same f w same = omega (arith, total_set f views id v w at)

  most_same : (f : SeatView → ℕ) (w : SeatView) → f w ≡ f v → most f (set views id w) ≡ most f views
  most_same f w same = omega (arith, most_set f views id v w at (omega arith), most_ge f views id v at)

  least_same : (f : SeatView → ℕ) (n : ℕ) (w : SeatView) → f w ≡ f v → least f n (set views id w) ≡ least f n views
  least_same f n w same = omega (arith, least_set f n views id v w at (omega arith), least_le f n views id v at)

  -- a draw that finds a piece
  pub draws_piece : k.next < size.pieces → Counted size ((k.next + 1) ∷ k.stop ∷ k.first ∷ []) (set views id (with_piece v k.next))
  draws_piece left =
      let w : SeatView = with_piece v k.next in
      let here : min k.next size.pieces ≡ k.next = omega arith in
      let there : min (k.next + 1) size.pieces ≡ k.next + 1 = omega arith in
      let longer = length-append v.drawn (k.next ∷ []) in record {
        next = k.next + 1;
        stop = k.stop;
        first = k.first;
        words_are = refl;
        small = k.small;
        shares = total_same (λ u. u.shares) w refl ∙ k.shares;
        once = λ x. omega (
          arith,
          total_set (λ u. times x u.drawn) views id v w at,
          times-append x v.drawn (k.next ∷ []),
          k.once x,
          ap (once_below x) here,
          ap (once_below x) there,
          once_below_next x k.next,
        );
        count = omega (arith, total_set (λ u. length u.drawn) views id v w at, longer, k.count);
        draws = omega (arith, total_set (λ u. length u.drawn) views id v w at, total_same (λ u. u.done) w refl, longer, k.draws);
        raised = k.raised ∙ sym (most_same (λ u. bit u.raised) w refl);
        lowest = k.lowest ∙ sym (least_same (λ u. u.low) size.pieces w refl);
        each = each_set Now (Fits size.pieces (k.next + 1) k.stop k.first) views id w k.each
            (active size.pieces (k.next + 1) k.stop k.first w share (mine.sized share) mine.few_done (λ p. let q = mine.passed p in
            omega arith) mine.stopped mine.told)
            (λ u h. fits_later size.pieces k.next k.stop k.first (k.next + 1) k.stop k.first u (omega arith) (λ e. e) (omega arith) h);
      }

  -- a draw that finds none
  pub draws_none : size.pieces ≤ k.next → v.done ≡ 0 → Counted size ((k.next + 1) ∷ k.stop ∷ k.first ∷ []) (set views id (told_done v))
  draws_none over new =
      let w : SeatView = told_done v in
      let same : min (k.next + 1) size.pieces ≡ min k.next size.pieces = omega arith in record {
        next = k.next + 1;
        stop = k.stop;
        first = k.first;
        words_are = refl;
        small = k.small;
        shares = total_same (λ u. u.shares) w refl ∙ k.shares;
        once = λ x. total_same (λ u. times x u.drawn) w refl ∙ k.once x ∙ sym (ap (once_below x) same);
        count = total_same (λ u. length u.drawn) w refl ∙ k.count ∙ sym same;
        draws = omega (arith, total_same (λ u. length u.drawn) w refl, total_set (λ u. u.done) views id v w at, k.draws);
        raised = k.raised ∙ sym (most_same (λ u. bit u.raised) w refl);
        lowest = k.lowest ∙ sym (least_same (λ u. u.low) size.pieces w refl);
        each = each_set Now (Fits size.pieces (k.next + 1) k.stop k.first) views id w k.each
            (active size.pieces (k.next + 1) k.stop k.first w share (mine.sized share) (omega arith)
            (λ _. omega arith) mine.stopped mine.told)
            (λ u h. fits_later size.pieces k.next k.stop k.first (k.next + 1) k.stop k.first u (omega arith) (λ e. e) (omega arith) h);
      }

  -- a step that leaves NEXT and the seat's pieces alone
  module _ (w : SeatView) (shares : w.shares ≡ v.shares) (drawn : w.drawn ≡ v.drawn) (done : w.done ≡ v.done) (stop first : ℕ) where
    quiet : stop ≡ most (λ u. bit u.raised) (set views id w) → first ≡ least (λ u. u.low) size.pieces (set views id w)
        → w.pieces ≡ v.pieces → (k.stop ≡ 1 → stop ≡ 1) → first ≤ k.first → (w.stopped ≡ true → stop ≡ 1) → first ≤ w.told
        → Counted size (k.next ∷ stop ∷ first ∷ []) (set views id w)
    quiet raised lowest pieces still less stopped told = record {
      next = k.next;
      stop = stop;
      first = first;
      words_are = refl;
      small = k.small;
      shares = total_same (λ u. u.shares) w shares ∙ k.shares;
      once = λ x. total_same (λ u. times x u.drawn) w (ap (times x) drawn) ∙ k.once x;
      count = total_same (λ u. length u.drawn) w (ap length drawn) ∙ k.count;
      draws = omega (arith, total_same (λ u. length u.drawn) w (ap length drawn), total_same (λ u. u.done) w done, k.draws);
      raised = raised;
      lowest = lowest;
      each = each_set Now (Fits size.pieces k.next stop first) views id w k.each
          (active size.pieces k.next stop first w (omega arith) (pieces ∙ mine.sized share) (let q = mine.few_done in omega arith)
          (λ p. mine.passed (omega arith)) stopped told)
          (λ u h. fits_later size.pieces k.next k.stop k.first k.next stop first u (omega arith) still less h);
    }

  -- a seat that raised finds STOP raised
  pub finds_raised : v.raised ≡ true → k.stop ≡ 1
  finds_raised did = let e : bit v.raised ≡ 1 = ap bit did in omega (arith, stop_small, k.raised, most_ge (λ u. bit u.raised) views id v at)

  -- a look that finds STOP raised
  pub looks_stopped : k.stop ≡ 1 → Counted size (k.next ∷ k.stop ∷ k.first ∷ []) (set views id (told_stopped v))
  looks_stopped is = let w = told_stopped v in
      quiet w refl refl refl k.stop k.first (k.raised ∙ sym (most_same (λ u. bit u.raised) w refl))
      (k.lowest ∙ sym (least_same (λ u. u.low) size.pieces w refl)) refl (λ e. e) (omega arith) (λ _. is) mine.told

  -- a look that does not
  pub looks_same : Counted size (k.next ∷ k.stop ∷ k.first ∷ []) (set views id v)
  looks_same = quiet v refl refl refl k.stop k.first (k.raised ∙ sym (most_same (λ u. bit u.raised) v refl))
      (k.lowest ∙ sym (least_same (λ u. u.low) size.pieces v refl)) refl (λ e. e) (omega arith) mine.stopped mine.told

  -- a raise
  pub raises_stop : Counted size (k.next ∷ 1 ∷ k.first ∷ []) (set views id (having_raised v))
  raises_stop = let w = having_raised v in
      quiet w refl refl refl 1 k.first
      (sym (omega (arith, stop_small, k.raised, bit_small v.raised, most_set (λ u. bit u.raised) views id v w at (bit_small v.raised))))
      (k.lowest ∙ sym (least_same (λ u. u.low) size.pieces w refl)) refl (λ _. refl) (omega arith) (λ _. refl) mine.told

  -- a lower
  pub lowers_first : (n : ℕ) → Counted size (k.next ∷ k.stop ∷ min k.first n ∷ []) (set views id (lowered v n))
  lowers_first n = let w = lowered v n in let low = mine.told in
      quiet w refl refl refl k.stop (min k.first n) (k.raised ∙ sym (most_same (λ u. bit u.raised) w refl))
      (omega (
        arith,
        k.lowest,
        least_set (λ u. u.low) size.pieces views id v w at (omega arith),
        least_le (λ u. u.low) size.pieces views id v at,
      )) refl (λ e. e) (omega arith) mine.stopped (omega arith)

  -- FIRST is at most the seat's low
  pub bound_low : k.first ≤ v.low
  bound_low = omega (arith, k.lowest, least_le (λ u. u.low) size.pieces views id v at)

  -- a bound
  pub bounds_first : Counted size (k.next ∷ k.stop ∷ k.first ∷ []) (set views id (told_bound v k.first))
  bounds_first = let w = told_bound v k.first in
      quiet w refl refl refl k.stop k.first (k.raised ∙ sym (most_same (λ u. bit u.raised) w refl))
      (k.lowest ∙ sym (least_same (λ u. u.low) size.pieces w refl)) refl (λ e. e) (omega arith) mine.stopped (omega arith)

  -- FIRST is at most the number of pieces
  pub first_small : k.first ≤ size.pieces
  first_small = omega (arith, k.lowest, least_start (λ u. u.low) size.pieces views)

  -- a split
  pub splits_share : 1 < v.shares → v.done ≡ 0 → Counted size words (set views id (one_share_less v) ++ fresh 1 v.pieces ∷ [])
  splits_share many new =
      let w : SeatView = one_share_less v in
      let made : SeatView = fresh 1 v.pieces in
      let rest : List SeatView = set views id w in
      let sized : v.pieces ≡ size.pieces = mine.sized share in record {
        next = k.next;
        stop = k.stop;
        first = k.first;
        words_are = k.words_are;
        small = k.small;
        shares = omega (arith, total_push (λ u. u.shares) rest made, total_set (λ u. u.shares) views id v w at, k.shares);
        once = λ x. omega (arith, total_push (λ u. times x u.drawn) rest made, total_same (λ u. times x u.drawn) w refl, k.once x);
        count = omega (arith, total_push (λ u. length u.drawn) rest made, total_same (λ u. length u.drawn) w refl, k.count);
        draws = omega (
          arith,
          total_push (λ u. length u.drawn) rest made,
          total_same (λ u. length u.drawn) w refl,
          total_push (λ u. u.done) rest made,
          total_same (λ u. u.done) w refl,
          k.draws,
        );
        raised = omega (arith, most_push (λ u. bit u.raised) rest made, most_same (λ u. bit u.raised) w refl, k.raised);
        lowest = omega (
          arith,
          least_push (λ u. u.low) size.pieces rest made,
          least_same (λ u. u.low) size.pieces w refl,
          k.lowest,
          first_small,
        );
        each = λ i u there. ⊎_elim
            (λ (old : get_elem? rest i ≡ some u). each_set Now Now views id w k.each
            (active size.pieces k.next k.stop k.first w (omega arith) sized (omega arith) mine.passed mine.stopped mine.told)
            (λ _ h. h) i u old)
            (λ (is : made ≡ u). subst Now is (active size.pieces k.next k.stop k.first made (omega arith) sized (omega arith)
            (λ p. absurd (omega arith)) (λ p. absurd (true≢false (sym p))) (omega (arith, first_small))))
            (at_snoc rest made u i there);
      }

  -- a join
  pub joins_seat : (other : ℕ) (w : SeatView) → other ≢ id → get_elem? (set views id (joined_views v w)) other ≡ some w
      → Counted size words (set (set views id (joined_views v w)) other spent)
  joins_seat other w apart there =
      let both : SeatView = joined_views v w in
      let was : get_elem? views other ≡ some w = ⊎_elim (λ (t : (other ≡ id) × (both ≡ w)). absurd (apart t.0))
      (λ (t : (other ≢ id) × (get_elem? views other ≡ some w)). t.1) (at_set views id other both w there) in
      let theirs : Now w = k.each other w was in
      let sized : v.pieces ≡ size.pieces = mine.sized share in
      let low = k.small.0 in record {
        next = k.next;
        stop = k.stop;
        first = k.first;
        words_are = k.words_are;
        small = k.small;
        shares = total_join (λ u. u.shares) views id other v w both spent at there refl refl ∙ k.shares;
        once = λ x. total_join (λ u. times x u.drawn) views id other v w both spent at there (times-append x v.drawn w.drawn) refl
            ∙ k.once x;
        count = total_join (λ u. length u.drawn) views id other v w both spent at there (length-append v.drawn w.drawn) refl ∙ k.count;
        draws = omega (
          arith,
          total_join (λ u. length u.drawn) views id other v w both spent at there (length-append v.drawn w.drawn) refl,
          total_join (λ u. u.done) views id other v w both spent at there refl refl,
          k.draws,
        );
        raised = k.raised ∙ sym (most_join (λ u. bit u.raised) views id other v w both spent at apart there
            (bit_or_max v.raised w.raised) refl);
        lowest = k.lowest ∙ sym (least_join (λ u. u.low) size.pieces views id other v w both spent at apart there refl low);
        each = each_set Now Now (set views id both) other spent
            (each_set Now Now views id both k.each (active size.pieces k.next k.stop k.first both (omega arith) sized
            (omega (arith, mine.few_done, theirs.few_done))
            (λ p. passed_either v.done w.done (size.pieces < k.next) mine.passed theirs.passed p)
            (stopped_either v.stopped w.stopped k.stop mine.stopped theirs.stopped) (omega (arith, mine.told, theirs.told))) (λ _ h. h))
            (record {
              idle = λ _. refl;
              sized = λ p. absurd (omega arith);
              few_done = omega arith;
              passed = λ p. absurd (omega arith);
              stopped = λ p. absurd (true≢false (sym p));
              told = omega (arith, first_small);
            })
            (λ _ h. h);
      }
