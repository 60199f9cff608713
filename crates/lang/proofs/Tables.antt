-- Tables of texts: each number has its text, tables only grow, and they keep to names.
use Rattle.std.proofs.Common.{◌≡◌, ◌≤◌, ℕ, Bool, true, false, cond, List, [], ◌∷◌, ◌++◌, length, refl, ◌∙◌, arith}
use Rattle.std.proofs.lemmas.List.{length-append}
use Rattle.std.proofs.lemmas.List.Folds.{list_all-append}
use Rattle.batch.specs.Names.{AreNames, Texts, is_name}
use Rattle.doc_tree.specs.Demand.{Demand}
use Rattle.doc_tree.specs.Scope.{Numbers, Table, is_listed, with_item, with_reason, with_text}
use Rattle.doc_tree.proofs.MetLemmas.{AllMet, first_met, rest_met}

with_more : (text : List ℕ) (table : Table) → length table ≤ length (with_text text table)
with_more text table = by (is_listed text table)
  where
    by : (b : Bool) → length table ≤ length (cond b table (table ++ text ∷ []))
    by true = omega arith
    by false = omega (arith, length-append table (text ∷ []))

with_name : (version : ℕ) (text : List ℕ) (table : Table) → is_name version text ≡ true → AreNames version table
    → AreNames version (with_text text table)
with_name version text table named are = by (is_listed text table)
  where
    by : (b : Bool) → AreNames version (cond b table (table ++ text ∷ []))
    by true = are
    by false = list_all-append (is_name version) table (text ∷ []) ∙ rw (are, named) refl

-- the tables only grow, and where the demands are met they keep to names
pub record Grows (version : ℕ) (before after : Numbers) (ds : List Demand) : Type 0 where
  pub items : length before.items ≤ length after.items
  pub reasons : length before.reasons ≤ length after.reasons
  pub item_names : AllMet ds → AreNames version before.items → AreNames version after.items
  pub reason_names : AllMet ds → AreNames version before.reasons → AreNames version after.reasons

pub grows_none : {version : ℕ} (numbers : Numbers) (ds : List Demand) → Grows version numbers numbers ds
grows_none numbers ds = record { items = omega arith; reasons = omega arith; item_names = λ met are. are; reason_names = λ met are. are }

pub grows_on : {version : ℕ} (a b c : Numbers) (xs ys : List Demand) → Grows version a b xs → Grows version b c ys
    → Grows version a c (xs ++ ys)
grows_on a b c xs ys g h = record {
  items = omega (arith, g.items, h.items);
  reasons = omega (arith, g.reasons, h.reasons);
  item_names = λ met are. h.item_names (rest_met xs ys met) (g.item_names (first_met xs ys met) are);
  reason_names = λ met are. h.reason_names (rest_met xs ys met) (g.reason_names (first_met xs ys met) are);
}

-- by the same demands
pub grows_both : {version : ℕ} (a b c : Numbers) (ds : List Demand) → Grows version a b ds → Grows version b c ds
    → Grows version a c ds
grows_both a b c ds g h = record {
  items = omega (arith, g.items, h.items);
  reasons = omega (arith, g.reasons, h.reasons);
  item_names = λ met are. h.item_names met (g.item_names met are);
  reason_names = λ met are. h.reason_names met (g.reason_names met are);
}

pub grows_behind : {version : ℕ} (a b : Numbers) (xs ys : List Demand) → Grows version a b ys → Grows version a b (xs ++ ys)
grows_behind a b xs ys g = grows_on a a b xs ys (grows_none a xs) g

pub grows_before : {version : ℕ} (a b : Numbers) (xs ys : List Demand) → Grows version a b xs → Grows version a b (xs ++ ys)
grows_before a b xs ys g = grows_on a b b xs ys g (grows_none b ys)

pub grows_item : (version : ℕ) (text : List ℕ) (numbers : Numbers) (ds : List Demand) → (AllMet ds → is_name version text ≡ true)
    → Grows version numbers (with_item text numbers) ds
grows_item version text numbers ds named = record {
  items = with_more text numbers.items;
  reasons = omega arith;
  item_names = λ met are. with_name version text numbers.items (named met) are;
  reason_names = λ met are. are;
}

pub grows_reason : (version : ℕ) (text : List ℕ) (numbers : Numbers) (ds : List Demand) → (AllMet ds → is_name version text ≡ true)
    → Grows version numbers (with_reason text numbers) ds
grows_reason version text numbers ds named = record {
  items = omega arith;
  reasons = with_more text numbers.reasons;
  item_names = λ met are. are;
  reason_names = λ met are. with_name version text numbers.reasons (named met) are;
}

-- the texts that are numbered so far
abbrev pub texts_in : Numbers → Texts
texts_in numbers = record { objects = []; items = numbers.items; reasons = numbers.reasons }

-- what is spelled has its texts, which the demands made names
pub record Numbered {A : Type 0} (version : ℕ) (HasTexts : Texts → A → Type 0) (before : Numbers) (spelled : A × Numbers)
    (ds : List Demand) : Type 0 where
  pub named : HasTexts (texts_in spelled.1) spelled.0
  pub grows : Grows version before spelled.1 ds
