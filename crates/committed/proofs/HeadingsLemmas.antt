-- The numbers of the keys of a map, and its values by these numbers.
use Rattle.std.proofs.Common.{◌≡◌, ◌≢◌, ℕ, zero, suc, ◌+◌, ◌<◌, ◌≤◌, arith, Bool, true, false, not, cond, List, [], ◌∷◌, length}
use Rattle.std.proofs.Common.{get_or, refl, sym, ap, ◌∙◌, Option, None, Some, is_some, unwrap_or}
use Rattle.std.specs.Prelude.{if◌then◌else◌}
use Rattle.std.specs.Map.{keys_of, values_of, lookup}
use Rattle.std.specs.List.{position_or_len}
use Rattle.indexmap.specs.IndexMap.{insert_entry}
use Rattle.atoms.specs.declared.item.Item.{Item}
use Rattle.committed.specs.declared.heading.Heading.{Heading}
use Rattle.committed.specs.contracts.heading.HeadingPartialEq.TheImpl as heading_eq
use Rattle.committed.specs.contracts.heading.HeadingEq.TheImpl.Laws.{laws-law}
use Rattle.committed.specs.Headings.{of_object}

-- what comes after the first one of a list
next_at : (x : ℕ) (xs : List ℕ) (n : ℕ) → get_or (x ∷ xs) (1 + n) 0 ≡ get_or xs n 0
next_at x xs n = let next : 1 + n ≡ suc n = omega arith in ap (λ m. get_or (x ∷ xs) m 0) next

module _ {K : Type 0} (test : K → Bool) where
  -- the value of a key is the one at its number, where a key that isn't there has 0
  pub value_at_number : (es : List (K × ℕ)) → unwrap_or (lookup test es) 0 ≡ get_or (values_of es) (position_or_len test (keys_of es)) 0
  value_at_number [] = refl
  value_at_number (e ∷ es) = by (test e.0) (value_at_number es)
    where
      by : (b : Bool) → unwrap_or (lookup test es) 0 ≡ get_or (values_of es) (position_or_len test (keys_of es)) 0
          → unwrap_or (cond b (Some e.1) (lookup test es)) 0
          ≡ get_or (values_of (e ∷ es)) (cond (not b) (1 + position_or_len test (keys_of es)) 0) 0
      by true h = refl
      by false h = h ∙ sym (next_at e.1 (values_of es) (position_or_len test (keys_of es)))

-- there are as many values as keys
pub length-values : {K : Type 0} (es : List (K × ℕ)) → length (values_of es) ≡ length es
length-values [] = refl
length-values (e ∷ es) = ap suc (length-values es)

module _ {K : Type 0} (eq : K → K → Bool) (k : K) (v : ℕ) where
  -- a key that is put has its value at its number
  pub own_value : (es : List (K × ℕ)) → get_or (values_of (insert_entry eq es k v)) (position_or_len (eq k) (keys_of es)) 0 ≡ v
  own_value [] = refl
  own_value (e ∷ es) = by (eq k e.0) (own_value es)
    where
      by : (b : Bool) → get_or (values_of (insert_entry eq es k v)) (position_or_len (eq k) (keys_of es)) 0 ≡ v
          → get_or (values_of (if b then (e.0, v) ∷ es else e ∷ insert_entry eq es k v))
          (cond (not b) (1 + position_or_len (eq k) (keys_of es)) 0) 0 ≡ v
      by true h = refl
      by false h = next_at e.1 (values_of (insert_entry eq es k v)) (position_or_len (eq k) (keys_of es)) ∙ h

  -- the values at the other numbers stay
  pub other_value : (es : List (K × ℕ)) (m : ℕ) → m ≢ position_or_len (eq k) (keys_of es)
      → get_or (values_of (insert_entry eq es k v)) m 0 ≡ get_or (values_of es) m 0
  other_value [] zero differs = absurd (differs refl)
  other_value [] (suc m) differs = refl
  other_value (e ∷ es) m differs = by (eq k e.0) m differs (other_value es)
    where
      by : (b : Bool) (m : ℕ) → m ≢ cond (not b) (1 + position_or_len (eq k) (keys_of es)) 0
          → ((n : ℕ) → n ≢ position_or_len (eq k) (keys_of es)
          → get_or (values_of (insert_entry eq es k v)) n 0 ≡ get_or (values_of es) n 0)
          → get_or (values_of (if b then (e.0, v) ∷ es else e ∷ insert_entry eq es k v)) m 0 ≡ get_or (values_of (e ∷ es)) m 0
      by true zero apart rest = absurd (apart refl)
      by true (suc m) apart rest = refl
      by false zero apart rest = refl
      by false (suc m) apart rest = rest m (λ same. apart (omega (arith, same)))

  -- no key is lost
  pub no_fewer : (es : List (K × ℕ)) → length es ≤ length (insert_entry eq es k v)
  no_fewer [] = omega arith
  no_fewer (e ∷ es) = by (eq k e.0) (no_fewer es)
    where
      by : (b : Bool) → length es ≤ length (insert_entry eq es k v)
          → length (e ∷ es) ≤ length (if b then (e.0, v) ∷ es else e ∷ insert_entry eq es k v)
      by true h = omega arith
      by false h = omega (arith, h)

  -- at most one comes
  pub one_more : (es : List (K × ℕ)) → length (insert_entry eq es k v) ≤ length es + 1
  one_more [] = omega arith
  one_more (e ∷ es) = by (eq k e.0) (one_more es)
    where
      by : (b : Bool) → length (insert_entry eq es k v) ≤ length es + 1
          → length (if b then (e.0, v) ∷ es else e ∷ insert_entry eq es k v) ≤ length (e ∷ es) + 1
      by true h = omega arith
      by false h = omega (arith, h)

  -- a key that was there keeps its number
  pub kept_number : (test : K → Bool) (es : List (K × ℕ)) → position_or_len test (keys_of es) < length es
      → position_or_len test (keys_of (insert_entry eq es k v)) ≡ position_or_len test (keys_of es)
  kept_number test [] there = absurd (omega (arith, there))
  kept_number test (e ∷ es) there = by (eq k e.0) (by_test (test e.0) there (kept_number test es))
    where
      at : ℕ
      at = position_or_len test (keys_of es)

      after : ℕ
      after = position_or_len test (keys_of (insert_entry eq es k v))

      by_test : (b : Bool) → cond (not b) (1 + at) 0 < length (e ∷ es) → (at < length es → after ≡ at)
          → cond (not b) (1 + after) 0 ≡ cond (not b) (1 + at) 0
      by_test true l rest = refl
      by_test false l rest = ap (λ n. 1 + n) (rest (omega (arith, l)))

      by : (b : Bool) → cond (not (test e.0)) (1 + after) 0 ≡ cond (not (test e.0)) (1 + at) 0
          → position_or_len test (keys_of (if b then (e.0, v) ∷ es else e ∷ insert_entry eq es k v))
          ≡ position_or_len test (keys_of (e ∷ es))
      by true h = refl
      by false h = h

  -- the key itself has the number that it was to have
  pub own_number : eq k k ≡ true → (es : List (K × ℕ))
      → position_or_len (eq k) (keys_of (insert_entry eq es k v)) ≡ position_or_len (eq k) (keys_of es)
  own_number self [] = ap (λ b. cond (not b) 1 0) self
  own_number self (e ∷ es) = by (eq k e.0) (own_number self es)
    where
      by : (b : Bool) → position_or_len (eq k) (keys_of (insert_entry eq es k v)) ≡ position_or_len (eq k) (keys_of es)
          → position_or_len (eq k) (keys_of (if b then (e.0, v) ∷ es else e ∷ insert_entry eq es k v))
          ≡ position_or_len (eq k) (keys_of (e ∷ es))
      by true h = refl
      by false h = ap (λ n. cond (not (eq k e.0)) (1 + n) 0) h

-- a heading is equal to itself
pub same_heading : (heading : Heading) → heading_eq.ghosts.eq heading heading ≡ true
same_heading = laws-law.refl

-- a heading that has no item is that of its object
pub of_no_item : (heading : Heading) → is_some heading.item ≡ false → of_object heading ≡ heading
of_no_item heading none =
    ap (λ (i : Option Item). let made : Heading = record { object = heading.object; item = i; class = heading.class } in made)
    (no_item heading.item none)
  where
    no_item : (i : Option Item) → is_some i ≡ false → None ≡ i
    no_item None h = refl
    no_item (Some x) h = cc
