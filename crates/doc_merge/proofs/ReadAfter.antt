-- Transactions that are read after other texts are renumbered.
use Rattle.std.proofs.Common.{◌≡◌, ◌≤◌, ◌||◌, ℕ, Bool, true, false, cond, List, [], ◌∷◌, ◌++◌, length, refl, sym, ap, subst, ◌∙◌}
use Rattle.std.specs.Str.{bytes_eq}
use Rattle.std.proofs.lemmas.List.{get_or-map}
use Rattle.std.proofs.lemmas.Slice.Eq.{bytes_eq-Decides}
use Rattle.doc_tree.specs.Scope.{Table, is_listed, no_numbers, number_of, with_text}
use Rattle.doc_tree.specs.Spelled.{blocks_of}
use Rattle.doc_merge.specs.ReadAfter.{ReadAfterLaw}
use Rattle.doc_merge.specs.Renumbered.{merged, new_number, numbers_in}
use Rattle.doc_merge.specs.declared.tables.TheConstants.{MOST_TEXTS}
use Rattle.doc_merge.proofs.Growing.{begins_none}
use Rattle.doc_merge.proofs.NumberedTexts.{listed_kept, number_within}
use Rattle.doc_merge.proofs.Renumbering.{Sends, blocks_again, number_sent}

-- ---- what is listed

-- a text that was put last is listed
new_listed : (text : List ℕ) (table : Table) → is_listed text (table ++ text ∷ []) ≡ true
new_listed text [] = ap (λ b. b || false) ((bytes_eq-Decides text text).1 refl)
new_listed text (t ∷ table) = by (bytes_eq text t) (new_listed text table)
  where
    by : (b : Bool) → is_listed text (table ++ text ∷ []) ≡ true → (b || is_listed text (table ++ text ∷ [])) ≡ true
    by true later = refl
    by false later = later

-- so is one that was put in
put_listed : (text : List ℕ) (table : Table) → is_listed text (with_text text table) ≡ true
put_listed text table = by (is_listed text table) refl
  where
    by : (b : Bool) → is_listed text table ≡ b → is_listed text (cond b table (table ++ text ∷ [])) ≡ true
    by true e = e
    by false e = new_listed text table

-- and one that was there before another was put in
still_listed : (text other : List ℕ) (table : Table) → is_listed text table ≡ true → is_listed text (with_text other table) ≡ true
still_listed text other table e = by (is_listed other table)
  where
    by : (b : Bool) → is_listed text (cond b table (table ++ other ∷ [])) ≡ true
    by true = e
    by false = listed_kept text table (other ∷ []) e

-- a text of the first table is listed in both together
pub first_merged : (text : List ℕ) (table texts : Table) → is_listed text table ≡ true → is_listed text (merged table texts) ≡ true
first_merged text table [] e = e
first_merged text table (t ∷ texts) e = first_merged text (with_text t table) texts (still_listed text t table e)

-- and so is one of the other
pub other_merged : (text : List ℕ) (table texts : Table) → is_listed text texts ≡ true → is_listed text (merged table texts) ≡ true
other_merged text table [] e = cc
other_merged text table (t ∷ texts) e = by (bytes_eq text t) refl (other_merged text (with_text t table) texts) e
  where
    by : (b : Bool) → bytes_eq text t ≡ b → (is_listed text texts ≡ true → is_listed text (merged (with_text t table) texts) ≡ true)
        → (b || is_listed text texts) ≡ true → is_listed text (merged (with_text t table) texts) ≡ true
    by true same later h =
        let is = (bytes_eq-Decides text t).0 same in
        first_merged text (with_text t table) texts (subst (λ x. is_listed x (with_text t table) ≡ true) (sym is) (put_listed t table))
    by false same later h = later h

-- ---- one more text

-- the last text is put into both together
pub merged_last : (text : List ℕ) (table texts : Table) → merged table (texts ++ text ∷ []) ≡ with_text text (merged table texts)
merged_last text table [] = refl
merged_last text table (t ∷ texts) = merged_last text (with_text t table) texts

-- a text that is put into both together is put into the other
merged_more : (text : List ℕ) (table texts : Table) → with_text text (merged table texts) ≡ merged table (with_text text texts)
merged_more text table texts = by (is_listed text texts) refl
  where
    by : (b : Bool) → is_listed text texts ≡ b → with_text text (merged table texts) ≡ merged table (cond b texts (texts ++ text ∷ []))
    by true e = ap (λ c. cond c (merged table texts) (merged table texts ++ text ∷ [])) (other_merged text table texts e)
    by false e = sym (merged_last text table texts)

-- ---- transactions

-- the table after others, beside the table alone
abbrev After : Table → Table → Table → Type 0
After before alone after = after ≡ merged before alone

-- so are numbers sent
after_sends : (before old new : Table) → length old ≤ MOST_TEXTS → Sends (After before) old new (new_number (numbers_in new old))
after_sends before old new few = record {
  one_more = λ text a b same. ap (with_text text) same ∙ merged_more text before a;
  sent = λ text a b same here there. number_sent text a b old new few here there
      ∙ sym (get_or-map (λ t. number_of t new) old (number_of text a) [] (number_of text a) (number_within text a old here));
}

pub read_after : ReadAfterLaw
read_after setting before ds few_items few_reasons =
    let alone = blocks_of setting no_numbers ds in
    let after = blocks_of setting before ds in
    let again = blocks_again (new_number (numbers_in after.1.items alone.1.items))
    (new_number (numbers_in after.1.reasons alone.1.reasons)) (After before.items)
    (After before.reasons) alone.1 after.1 (after_sends before.items alone.1.items after.1.items few_items)
    (after_sends before.reasons alone.1.reasons after.1.reasons few_reasons) setting no_numbers before ds (refl, refl)
    (begins_none alone.1) (begins_none after.1) in
    record { transactions = again.0; items = again.1.0; reasons = again.1.1 }
