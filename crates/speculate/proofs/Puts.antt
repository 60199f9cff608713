-- What was taken is put at a place of a list, over what was there or at the end.
use Rattle.std.proofs.Common.{◌≡◌, ℕ, ◌+◌, ◌<◌, ◌≤◌, ◌++◌, ◌∷◌, [], List, length, take, arith, ap, sym, subst, ◌∙◌}
use Rattle.std.proofs.lemmas.List.{length-append, length-set, take_all, take_more_set}
use Rattle.std.specs.Vec.{with_item}
use Rattle.std.specs.declared.vec.Vec.{Vec}
use Rattle.std.specs.declared.alloc.Global.{Global}
use Rattle.batch.specs.declared.record.Taken.{Taken}

-- the new list has it after what was before the place
pub record IsPutAt {X : Type 0} (old : List X) (place : ℕ) (x : X) (new : List X) : Type 0 where
  pub long : place + 1 ≤ length new
  pub put : take (place + 1) new ≡ take place old ++ x ∷ []

-- over what was there
pub put_over : (old new : Vec Taken Global) (place : ℕ) (x : Taken) → place < length old.items → new ≡ with_item old place x
    → IsPutAt old.items place x new.items
put_over old new place x within is = subst (λ v. IsPutAt old.items place x v.items) (sym is) (record {
  long = omega (arith, length-set old.items place x, within);
  put = take_more_set old.items place x within;
})

-- at the end
pub put_last : (old pushed new : Vec Taken Global) (place : ℕ) (x : Taken) → place ≤ length old.items → ¬ (place < length old.items)
    → new ≡ pushed → pushed.items ≡ old.items ++ x ∷ [] → IsPutAt old.items place x new.items
put_last old pushed new place x within last is more =
    let xs = old.items in
    let same : place ≡ length xs = omega (arith, within, last) in
    subst (λ v. IsPutAt xs place x v.items) (sym is) (record {
      long = rw more (omega (arith, length-append xs (x ∷ []), same));
      put = rw (more, same) (take_all (length xs + 1) (xs ++ x ∷ []) (omega (arith, length-append xs (x ∷ [])))
          ∙ ap (λ ys. ys ++ x ∷ []) (sym (take_all (length xs) xs (omega arith))));
    })
