-- Operations at places of a list of values commute forward as they do over one value, and always where their places differ.
use Rattle.std.specs.Prelude.{◌≡◌, ◌≢◌, ◌↔◌, ℕ, suc, zero, List, [], ◌∷◌, Option, Some, None, option_and_then, slice_get, slice_set}
use Rattle.std.proofs.Common.{sym, ap, subst, ◌∙◌, refl, inl, inr}
use Rattle.std.proofs.lemmas.Bool.{cases_eq}
use Rattle.std.proofs.lemmas.List.{set-set}
use Rattle.serial.specs.Serial.{Serial, Operation, CommuteForward, BothOrders}
use Rattle.serial.specs.Places.{at_places, after_found}

module _ {V : Type 0} where
  get_set_same : (vs : List V) (o : ℕ) (v w : V) → slice_get vs o ≡ Some v → slice_get (slice_set vs o w) o ≡ Some w
  get_set_same [] o v w e = cc
  get_set_same (x ∷ vs) zero v w e = refl
  get_set_same (x ∷ vs) (suc o) v w e = get_set_same vs o v w e

  get_set_other : (vs : List V) (o k : ℕ) (w : V) → o ≢ k → slice_get (slice_set vs o w) k ≡ slice_get vs k
  get_set_other [] o k w ne = refl
  get_set_other (x ∷ vs) zero zero w ne = absurd (ne refl)
  get_set_other (x ∷ vs) zero (suc k) w ne = refl
  get_set_other (x ∷ vs) (suc o) zero w ne = refl
  get_set_other (x ∷ vs) (suc o) (suc k) w ne = get_set_other vs o k w (λ e. ne (ap suc e))

  set_set_other : (vs : List V) (o k : ℕ) (v w : V) → o ≢ k → slice_set (slice_set vs o v) k w ≡ slice_set (slice_set vs k w) o v
  set_set_other [] o k v w ne = refl
  set_set_other (x ∷ vs) zero zero v w ne = absurd (ne refl)
  set_set_other (x ∷ vs) zero (suc k) v w ne = refl
  set_set_other (x ∷ vs) (suc o) zero v w ne = refl
  set_set_other (x ∷ vs) (suc o) (suc k) v w ne = ap (λ ws. x ∷ ws) (set_set_other vs o k v w (λ e. ne (ap suc e)))

  -- a list with this value at this place
  holding : ℕ → V → List V
  holding zero v = v ∷ []
  holding (suc o) v = v ∷ holding o v

  get-holding : (o : ℕ) (v : V) → slice_get (holding o v) o ≡ Some v
  unfolding holding
  get-holding zero v = refl
  get-holding (suc o) v = get-holding o v

record Found {V R : Type 0} (x : Option V) (f : V → Option R) (r : R) : Type 0 where
  value : V
  is : x ≡ Some value
  gives : f value ≡ Some r

found : {V R : Type 0} (x : Option V) (f : V → Option R) (r : R) → option_and_then f x ≡ Some r → Found x f r
found None f r e = cc
found (Some v) f r e = record { value = v; is = refl; gives = e }

module _ {V C R : Type 0} (one : Serial V C (Option R)) where
  reply-found : (vs : List V) (o : ℕ) (v : V) (c : C) → slice_get vs o ≡ Some v → (at_places one).reply vs (o, c) ≡ one.reply v c
  reply-found vs o v c e = ap (option_and_then (λ w. one.reply w c)) e

  after-found : (vs : List V) (o : ℕ) (v : V) (c : C) → slice_get vs o ≡ Some v → (at_places one).after vs (o, c) ≡ slice_set vs o
      (one.after v c)
  after-found vs o v c e = ap (after_found one vs o c) e

  -- the call at the same place next
  get-after_same : (vs : List V) (o : ℕ) (v : V) (c : C) → slice_get vs o ≡ Some v → slice_get ((at_places one).after vs (o, c)) o ≡ Some
      (one.after v c)
  get-after_same vs o v c e = ap (λ ws. slice_get ws o) (after-found vs o v c e) ∙ get_set_same vs o v (one.after v c) e

  after_after_same : (vs : List V) (o : ℕ) (v : V) (c d : C) → slice_get vs o ≡ Some v
      → (at_places one).after ((at_places one).after vs (o, c)) (o, d) ≡ slice_set vs o (one.after (one.after v c) d)
  after_after_same vs o v c d e =
      after-found ((at_places one).after vs (o, c)) o (one.after v c) d (get-after_same vs o v c e)
      ∙ ap (λ ws. slice_set ws o (one.after (one.after v c) d)) (after-found vs o v c e)
      ∙ set-set vs o (one.after v c) (one.after (one.after v c) d)

  -- the call at another place next
  get-after_other : (vs : List V) (o k : ℕ) (v : V) (c : C) → o ≢ k → slice_get vs o ≡ Some v
      → slice_get ((at_places one).after vs (o, c)) k ≡ slice_get vs k
  get-after_other vs o k v c ne e = ap (λ ws. slice_get ws k) (after-found vs o v c e) ∙ get_set_other vs o k (one.after v c) ne

  after_after_other : (vs : List V) (o k : ℕ) (v w : V) (c d : C) → o ≢ k → slice_get vs o ≡ Some v → slice_get vs k ≡ Some w
      → (at_places one).after ((at_places one).after vs (o, c)) (k, d) ≡ slice_set (slice_set vs o (one.after v c)) k (one.after w d)
  after_after_other vs o k v w c d ne e f =
      after-found ((at_places one).after vs (o, c)) k w d (get-after_other vs o k v c ne e ∙ f)
      ∙ ap (λ ws. slice_set ws k (one.after w d)) (after-found vs o v c e)

  -- an operation at a place
  abbrev pub placed : ℕ → Operation C R → Operation (ℕ × C) (Option R)
  placed o p = ((o, p.0), Some p.1)

  -- an operation of one value
  abbrev pub single : Operation C R → Operation C (Option R)
  single p = (p.0, Some p.1)

  same_place : (o : ℕ) (p q : Operation C R) → CommuteForward one (single p) (single q) → CommuteForward (at_places one) (placed o p)
      (placed o q)
  same_place o p q h vs legal_p legal_q =
      let at : Found (slice_get vs o) (λ w. one.reply w p.0) p.1 = found (slice_get vs o) (λ w. one.reply w p.0) p.1 legal_p in
      let v : V = at.value in
      let e : slice_get vs o ≡ Some v = at.is in
      let both : BothOrders one v (single p) (single q) = h v at.gives (sym (reply-found vs o v q.0 e) ∙ legal_q) in
      record {
        first = (legal_p, (reply-found _ o (one.after v p.0) q.0 (get-after_same vs o v p.0 e) ∙ both.first.1.0, tt));
        second = (legal_q, (reply-found _ o (one.after v q.0) p.0 (get-after_same vs o v q.0 e) ∙ both.second.1.0, tt));
        same = after_after_same vs o v p.0 q.0 e ∙ ap (slice_set vs o) both.same ∙ sym (after_after_same vs o v q.0 p.0 e);
      }

  pub other_place : (o k : ℕ) (p q : Operation C R) → o ≢ k → CommuteForward (at_places one) (placed o p) (placed k q)
  other_place o k p q ne vs legal_p legal_q =
      let at : Found (slice_get vs o) (λ w. one.reply w p.0) p.1 = found (slice_get vs o) (λ w. one.reply w p.0) p.1 legal_p in
      let to : Found (slice_get vs k) (λ w. one.reply w q.0) q.1 = found (slice_get vs k) (λ w. one.reply w q.0) q.1 legal_q in
      let en : k ≢ o = λ e. ne (sym e) in
      record {
        first = (legal_p, (reply-found _ k to.value q.0 (get-after_other vs o k at.value p.0 ne at.is ∙ to.is) ∙ to.gives, tt));
        second = (legal_q, (reply-found _ o at.value p.0 (get-after_other vs k o to.value q.0 en to.is ∙ at.is) ∙ at.gives, tt));
        same = after_after_other vs o k at.value to.value p.0 q.0 ne at.is to.is
            ∙ set_set_other vs o k (one.after at.value p.0) (one.after to.value q.0) ne
            ∙ sym (after_after_other vs k o to.value at.value q.0 p.0 en to.is at.is);
      }

  from_same_place : (o : ℕ) (p q : Operation C R) → CommuteForward (at_places one) (placed o p) (placed o q)
      → CommuteForward one (single p) (single q)
  from_same_place o p q h v legal_p legal_q =
      let vs = holding o v in
      let e : slice_get vs o ≡ Some v = get-holding o v in
      let both : BothOrders (at_places one) vs (placed o p) (placed o q) = h vs (reply-found vs o v p.0 e ∙ legal_p)
      (reply-found vs o v q.0 e ∙ legal_q) in
      let then_p = get-after_same vs o v p.0 e in
      let then_q = get-after_same vs o v q.0 e in
      let ends : slice_set vs o (one.after (one.after v p.0) q.0) ≡ slice_set vs o (one.after (one.after v q.0) p.0) =
      sym (after_after_same vs o v p.0 q.0 e) ∙ both.same ∙ after_after_same vs o v q.0 p.0 e in
      let found_ends : Some (one.after (one.after v p.0) q.0) ≡ Some (one.after (one.after v q.0) p.0) =
      sym (get_set_same vs o v _ e) ∙ ap (λ ws. slice_get ws o) ends ∙ get_set_same vs o v _ e in
      record {
        first = (legal_p, (sym (reply-found _ o (one.after v p.0) q.0 then_p) ∙ both.first.1.0, tt));
        second = (legal_q, (sym (reply-found _ o (one.after v q.0) p.0 then_q) ∙ both.second.1.0, tt));
        same = cc;
      }

  -- at one place, operations commute forward exactly where they do over one value; at two places always
  pub exact_at_places : (o k : ℕ) (p q : Operation C R) → (o ≡ k → CommuteForward one (single p) (single q))
      ↔ CommuteForward (at_places one) (placed o p) (placed k q)
  exact_at_places o k p q = (
    λ h. elim (cases_eq o k) [
      | inl e ↦ subst (λ k. CommuteForward (at_places one) (placed o p) (placed k q)) e (same_place o p q (h e))
      | inr ne ↦ other_place o k p q ne
    ],
    λ h e. from_same_place o p q (subst (λ k. CommuteForward (at_places one) (placed o p) (placed k q)) (sym e) h),
  )
