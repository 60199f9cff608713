-- What lists are of.
use Rattle.std.proofs.Common.{◌≡◌, ◌∙◌, List, [], ◌∷◌, true, Result, Ok, Err, OnErr, refl, ap}
use Rattle.std.proofs.lemmas.Bool.{and_parts}
use lib.Pointwise.{pointwise}
use Rattle.objects.specs.contracts.entry.EntryPartialEq.TheImpl as entry_eq
use Rattle.objects.specs.declared.entry.Entry.{Entry}
use Rattle.conflicts.proofs.EffectLemmas.{same_entry}

-- entries that `==` finds equal are the same
pub same_entries : (xs ys : List Entry) → pointwise entry_eq.ghosts.eq xs ys ≡ true → xs ≡ ys
same_entries [] [] so = refl
same_entries [] (y ∷ ys) so = absurd cc
same_entries (x ∷ xs) [] so = absurd cc
same_entries (x ∷ xs) (y ∷ ys) so =
    let parts = and_parts (entry_eq.ghosts.eq x y) (pointwise entry_eq.ghosts.eq xs ys) so in
    ap (λ z. z ∷ xs) (same_entry x y parts.0) ∙ ap (λ zs. y ∷ zs) (same_entries xs ys parts.1)

-- what holds holds after an error
pub on_err : {T E P : Type 0} (r : Result T E) → P → OnErr r P
on_err (Ok x) p = tt
on_err (Err e) p = p
