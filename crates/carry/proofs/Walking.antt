-- The objects that are left, the first of them apart.
use Rattle.std.proofs.Common.{◌≡◌, ℕ, ◌+◌, ◌≤◌, List, [], ◌∷◌, length, drop, ap, sym, ◌∙◌, Option, Some, None, true, get_or}
use Rattle.std.specs.Prelude.{slice_get, nat_lt}
use Rattle.std.proofs.lemmas.Bool.{ltb-true}
use Rattle.std.proofs.lemmas.Option.{slice_get-get_or, slice_get_within, get_or_from_slice_get}
use Rattle.std.proofs.Math.ListN.{drop_of_length-le}
use Rattle.objects.specs.declared.kind.Value.{Value}
use Rattle.meaning.specs.Words.{Naming}
use Rattle.batch.specs.Limits.{entries_in}
use Rattle.batch.proofs.CountLemmas.{left}
use Rattle.carry.specs.Carried.{first_unfit, object_text, object_texts, unfit_after, unfit_or}
use Rattle.carry.specs.declared.document.Misfit.{Misfit}
use Rattle.carry.specs.declared.document.Unfit.{Unfit}

module _ {X : Type 0} (xs : List X) (i : ℕ) (x : X) where
  -- what was found at a place is there
  pub at_place : nat_lt i (length xs) ≡ true → get_or xs i x ≡ x → slice_get xs i ≡ Some x
  at_place within is = slice_get-get_or xs i x (ltb-true _ _ within) ∙ ap Some is

  -- the next element, and those after it
  pub next_element : slice_get xs i ≡ Some x → drop i xs ≡ x ∷ drop (i + 1) xs
  next_element there = left xs i x (slice_get_within xs i x there) (sym (get_or_from_slice_get xs i x x there))

module _ (values : List Value) (i : ℕ) (value : Value) (there : slice_get values i ≡ Some value) where
  -- the next object, and those after it
  pub next_value : drop i values ≡ value ∷ drop (i + 1) values
  next_value = next_element values i value there

  pub next_object : (names : Naming) → object_texts names i (drop i values)
      ≡ object_text names i value ∷ object_texts names (i + 1) (drop (i + 1) values)
  next_object names = ap (object_texts names i) next_value

  -- the next object can't start so, or it can
  module _ (version entries : ℕ) where
    abbrev rest : Option Misfit
    rest = first_unfit version (i + 1) (entries + entries_in value) (drop (i + 1) values)

    pub unfit_here : (unfit : Unfit) → unfit_after version entries value ≡ Some unfit
        → first_unfit version i entries (drop i values) ≡ Some (record { place = i; unfit = unfit })
    unfit_here unfit is = ap (first_unfit version i entries) next_value ∙ ap (unfit_or i rest) is

    pub fits_here : unfit_after version entries value ≡ None → first_unfit version i entries (drop i values) ≡ rest
    fits_here none = ap (first_unfit version i entries) next_value ∙ ap (unfit_or i rest) none

-- no object is left
pub none_fits : (version entries i : ℕ) (values : List Value) → length values ≤ i → first_unfit version i entries (drop i values) ≡ None
none_fits version entries i values le = ap (first_unfit version i entries) (drop_of_length-le values le)

pub no_object : (names : Naming) (i : ℕ) (values : List Value) → length values ≤ i → object_texts names i (drop i values) ≡ []
no_object names i values le = ap (object_texts names i) (drop_of_length-le values le)
