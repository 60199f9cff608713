-- Texts that are put into a table, one after the other.
use Rattle.std.proofs.Common.{◌≡◌, ℕ, List, [], ◌∷◌, ◌++◌, length, refl, sym, ap, ◌∙◌, append-nil, append_assoc, arith}
use Rattle.std.proofs.lemmas.List.{map-append}
use Rattle.doc_tree.specs.Scope.{Table, number_of, with_text}
use Rattle.doc_merge.specs.Renumbered.{merged, numbers_in}
use Rattle.doc_merge.proofs.NumberedTexts.{Grows, grows_both, grows_none, grows_text, number_later}
use Rattle.doc_merge.proofs.ReadAfter.{merged_last}

-- Of all the texts some were put into the first table, which is now this one. Their numbers are these in any later table.
pub record Merging (first all table : Table) (numbers : List ℕ) (rest : Table) : Type 0 where
  pub done : Table
  pub split : all ≡ done ++ rest
  pub now : table ≡ merged first done
  pub numbered : (later : Table) → Grows table later → numbers ≡ numbers_in later done

pub merging_none : (first all : Table) → Merging first all first [] all
merging_none first all = record { done = []; split = refl; now = refl; numbered = λ later grows. refl }

pub merging_more : (first all table : Table) (numbers : List ℕ) (text : List ℕ) (rest : Table)
    → Merging first all table numbers (text ∷ rest)
    → Merging first all (with_text text table) (numbers ++ number_of text table ∷ []) rest
merging_more first all table numbers text rest m = record {
  done = m.done ++ text ∷ [];
  split = m.split ∙ sym (append_assoc m.done (text ∷ []) rest);
  now = ap (with_text text) m.now ∙ sym (merged_last text first m.done);
  numbered = λ later grows.
      (λ i. m.numbered later (grows_both table (with_text text table) later (grows_text text table) grows) i
      ++ number_later text table later grows i ∷ [])
      ∙ sym (map-append (λ t. number_of t later) m.done (text ∷ []));
}

pub merging_all : (first all table : Table) (numbers : List ℕ) → Merging first all table numbers []
    → (table ≡ merged first all) × (numbers ≡ numbers_in table all)
merging_all first all table numbers m =
    let whole = sym (append-nil m.done) ∙ sym m.split in (
      m.now ∙ ap (merged first) whole,
      m.numbered table (grows_none table) ∙ ap (numbers_in table) whole,
    )

-- a list of no element
pub none_left : {A : Type 0} (xs : List A) → length xs ≡ 0 → xs ≡ []
none_left [] is = refl
none_left (x ∷ xs) is = absurd (omega (arith, is))
