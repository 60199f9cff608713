-- Names whose items a set or a directory holds: one whose item it doesn't hold is none of them.
use Rattle.std.proofs.Common.{◌≡◌, ℕ, ◌+◌, ◌||◌, Bool, true, false, not, cond, List, [], ◌∷◌, ◌++◌, refl, sym, ap, ◌∙◌, true≢false}
use Rattle.std.specs.List.{position_or_len}
use Rattle.std.specs.Str.{bytes_eq}
use Rattle.std.proofs.lemmas.Bool.{false_from_ne_true}
use Rattle.std.proofs.lemmas.Slice.Eq.{bytes_eq-Decides}
use Rattle.atoms.specs.declared.item.Item.{Item}
use Rattle.doc_tree.specs.Scope.{Numbers, Table, fit, is_listed, with_item, with_text}
use Rattle.doc_tree.specs.Spelled.{item_of}

or_true : (a : Bool) → (a || true) ≡ true
or_true true = refl
or_true false = refl

or_false : (a : Bool) → (a || false) ≡ a
or_false true = refl
or_false false = refl

-- ---- one more name in a table

module _ (n m : List ℕ) where
  listed_after : (table : Table) → is_listed n (table ++ m ∷ []) ≡ (is_listed n table || bytes_eq n m)
  listed_after [] = or_false (bytes_eq n m)
  listed_after (t ∷ table) = by (bytes_eq n t) (listed_after table)
    where
      by : (b : Bool) → is_listed n (table ++ m ∷ []) ≡ (is_listed n table || bytes_eq n m)
          → (b || is_listed n (table ++ m ∷ [])) ≡ ((b || is_listed n table) || bytes_eq n m)
      by true later = refl
      by false later = later

  place_after : (table : Table) → (is_listed n table || bytes_eq n m) ≡ true
      → position_or_len (bytes_eq n) (table ++ m ∷ []) ≡ position_or_len (bytes_eq n) table
  place_after [] is = ap (λ b. cond (not b) 1 0) is
  place_after (t ∷ table) is = by (bytes_eq n t) (place_after table) is
    where
      by : (b : Bool) → ((is_listed n table || bytes_eq n m) ≡ true
          → position_or_len (bytes_eq n) (table ++ m ∷ []) ≡ position_or_len (bytes_eq n) table)
          → ((b || is_listed n table) || bytes_eq n m) ≡ true
          → cond (not b) (1 + position_or_len (bytes_eq n) (table ++ m ∷ [])) 0 ≡ cond (not b) (1 + position_or_len (bytes_eq n) table) 0
      by true later is = refl
      by false later is = ap (λ k. 1 + k) (later is)

  -- a name is listed once another has joined if it was before, or is the other
  listed_with : (table : Table) → is_listed n (with_text m table) ≡ (is_listed n table || bytes_eq n m)
  listed_with table = by (is_listed m table) (bytes_eq n m) refl refl
    where
      by : (b e : Bool) → is_listed m table ≡ b → bytes_eq n m ≡ e
          → is_listed n (cond b table (table ++ m ∷ [])) ≡ (is_listed n table || bytes_eq n m)
      by true true at same = (ap (λ k. is_listed k table) ((bytes_eq-Decides n m).0 same) ∙ at)
          ∙ sym (ap (λ e. is_listed n table || e) same ∙ or_true (is_listed n table))
      by true false at same = sym (ap (λ e. is_listed n table || e) same ∙ or_false (is_listed n table))
      by false e at same = listed_after table

  -- and its place stays
  place_with : (table : Table) → (is_listed n table || bytes_eq n m) ≡ true
      → position_or_len (bytes_eq n) (with_text m table) ≡ position_or_len (bytes_eq n) table
  place_with table is = by (is_listed m table)
    where
      by : (b : Bool) → position_or_len (bytes_eq n) (cond b table (table ++ m ∷ [])) ≡ position_or_len (bytes_eq n) table
      by true = refl
      by false = place_after table is

-- ---- names whose items are held

-- each of these names is numbered, and its item is held
abbrev pub AreHeld : Table → Numbers → (Item → Bool) → Type 0
AreHeld earlier numbers has = (name : List ℕ) → is_listed name earlier ≡ true
    → (is_listed name numbers.items ≡ true) × (has (item_of name numbers) ≡ true)

pub none_held : (numbers : Numbers) (has : Item → Bool) → AreHeld [] numbers has
none_held numbers has name listed = absurd (true≢false (sym listed))

module _ (earlier : Table) (numbers : Numbers) (has : Item → Bool) (m : List ℕ) (held : AreHeld earlier numbers has) where
  -- a name whose item isn't held is none of them
  pub not_held : has (item_of m numbers) ≡ false → is_listed m earlier ≡ false
  not_held is = false_from_ne_true _ (λ listed. true≢false (sym (held m listed).1 ∙ is))

  -- the item of a name that is numbered stays
  item_stays : (n : List ℕ) → (is_listed n numbers.items || bytes_eq n m) ≡ true → item_of n (with_item m numbers) ≡ item_of n numbers
  item_stays n is = ap (λ p. let x : Item = record { 0 = fit p } in x) (place_with n m numbers.items is)

  -- they are held still once another name is numbered
  pub held_on : AreHeld earlier (with_item m numbers) has
  held_on n listed =
      let at = held n listed in
      let is = ap (λ b. b || bytes_eq n m) at.0 in
      (listed_with n m numbers.items ∙ is, ap has (item_stays n is) ∙ at.1)

  -- and so is that name, once its item is
  pub held_more : (more : Item → Bool) → ((x : Item) → has x ≡ true → more x ≡ true) → more (item_of m numbers) ≡ true
      → AreHeld (with_text m earlier) (with_item m numbers) more
  held_more more keeps now n listed = by (is_listed n earlier) refl
    where
      by : (b : Bool) → is_listed n earlier ≡ b → (is_listed n (with_text m numbers.items) ≡ true)
          × (more (item_of n (with_item m numbers)) ≡ true)
      by true at = let on = held_on n at in (on.0, keeps _ on.1)
      by false at =
          let same : bytes_eq n m ≡ true = sym (listed_with n m earlier ∙ ap (λ b. b || bytes_eq n m) at) ∙ listed in
          let joins : (is_listed n numbers.items || bytes_eq n m) ≡ true = ap (λ e. is_listed n numbers.items || e) same
          ∙ or_true (is_listed n numbers.items) in (
            listed_with n m numbers.items ∙ joins,
            ap more (item_stays n joins) ∙ ap (λ k. more (item_of k numbers)) ((bytes_eq-Decides n m).0 same) ∙ now,
          )
