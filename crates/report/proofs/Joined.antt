-- Texts with one between each two, of which the first are written.
use Rattle.std.proofs.Common.{◌≡◌, ℕ, List, [], ◌∷◌, ◌++◌, refl, ap, sym, ◌∙◌, append-nil, append_assoc}
use Rattle.meaning.specs.Words.{joined_by}

module _ (between : List ℕ) where
  -- the texts, with this before the first and the other before each other
  abbrev pub joined_behind : List ℕ → List (List ℕ) → List ℕ
  joined_behind before [] = []
  joined_behind before (text ∷ texts) = before ++ text ++ joined_behind between texts

  first_behind : (text : List ℕ) (texts : List (List ℕ)) → text ++ joined_behind between texts ≡ joined_by between (text ∷ texts)
  first_behind text [] = append-nil text
  first_behind text (next ∷ texts) =
      ap (λ rest. text ++ rest) (append_assoc between next (joined_behind between texts)
      ∙ ap (λ rest. between ++ rest) (first_behind next texts))
      ∙ sym (append_assoc text between (joined_by between (next ∷ texts)))

  pub joined_behind-nothing : (texts : List (List ℕ)) → joined_behind [] texts ≡ joined_by between texts
  joined_behind-nothing [] = refl
  joined_behind-nothing (text ∷ texts) = first_behind text texts

  -- the first of some texts is written
  pub next_text : (out new before text : List ℕ) (left rest : List (List ℕ)) (all : List ℕ) → left ≡ text ∷ rest
      → new ≡ out ++ (before ++ text) → out ++ joined_behind before left ≡ all → new ++ joined_behind between rest ≡ all
  next_text out new before text left rest all split wrote is =
      ap (λ y. y ++ joined_behind between rest) wrote ∙ append_assoc out (before ++ text) (joined_behind between rest)
      ∙ ap (λ texts. out ++ joined_behind before texts) (sym split) ∙ is
