-- A list of demands in parts.
use Rattle.std.specs.Result.{IfErr, IfOk, IsErrAnd, OnOk}
use Rattle.std.proofs.Common.{subst, sym, ◌≡◌, List, [], ◌∷◌, ◌++◌, Result, Ok, Err, refl, ap, ◌∙◌}
use Rattle.doc_rules.specs.declared.failure.Failure.{Failure}
use Rattle.doc_tree.specs.declared.counts.Counts.{Counts}
use Rattle.doc_tree.specs.Answer.{IsFirst, IsMet}
use Rattle.doc_tree.specs.Demand.{Demand, check, check_one, and_then}

-- the rest of a list, once its beginning is checked
pub and_check : Result Counts Failure → List Demand → Result Counts Failure
and_check (Ok c) ds = check c ds
and_check (Err e) ds = Err e

over_first : (r : Result Counts Failure) (xs ys : List Demand) → ((c : Counts) → check c (xs ++ ys) ≡ and_check (check c xs) ys)
    → and_then r (λ next. check next (xs ++ ys)) ≡ and_check (and_then r (λ next. check next xs)) ys
unfolding and_check
over_first (Ok c) xs ys later = later c
over_first (Err e) xs ys later = refl

pub check-append : (c : Counts) (xs ys : List Demand) → check c (xs ++ ys) ≡ and_check (check c xs) ys
unfolding and_check
check-append c [] ys = refl
check-append c (x ∷ xs) ys = over_first (check_one c x) xs ys (λ next. check-append next xs ys)

pub check-after : (c : Counts) (ds : List Demand) → and_check (Ok c) ds ≡ check c ds
unfolding and_check
check-after c ds = refl

pub failed-before : (e : Failure) (ds : List Demand) → and_check (Err e) ds ≡ Err e
unfolding and_check
failed-before e ds = refl

-- what holds of the failure that a `?` passes on
pub passed_on : {T E : Type 0} (r : Result T E) (P : E → Type 0) (e : E) → IsErrAnd r (λ x. x ≡ e) → P e → IfErr r P
passed_on (Ok x) P e h p = tt
passed_on (Err x) P e h p = subst P (sym h) p

-- what follows of what a call returns
module _ {T : Type 0} where
  pub then_ok : (r : Result T Failure) (P Q : T → Type 0) → IfOk r P → ((x : T) → P x → Q x) → IfOk r Q
  then_ok (Ok x) P Q p f = f x p
  then_ok (Err e) P Q p f = tt

  pub then_err : (r : Result T Failure) (P Q : Failure → Type 0) → IfErr r P → ((e : Failure) → P e → Q e) → IfErr r Q
  then_err (Ok x) P Q p f = tt
  then_err (Err e) P Q p f = f e p

-- demands in parts, for an attribute or a tactic to cite
pub ruleset parts = (check-append, check-after, failed-before)

-- where the first part is met, the rest decides
pub check_met : (c next : Counts) (xs ys : List Demand) → check c xs ≡ Ok next → check c (xs ++ ys) ≡ check next ys
unfolding and_check
check_met c next xs ys met = check-append c xs ys ∙ ap (λ r. and_check r ys) met

-- where the first part is met, what a call returns of the rest it returns of the whole
module _ {T : Type 0} (r : Result T Failure) (c next : Counts) (xs ys : List Demand) (met : check c xs ≡ Ok next) where
  pub rest_met : (last : Counts) → OnOk r (IsMet next ys last) → OnOk r (IsMet c (xs ++ ys) last)
  rest_met last h = then_ok r (λ _. IsMet next ys last) (λ _. IsMet c (xs ++ ys) last) h (λ _ rest. check_met c next xs ys met ∙ rest)

  pub rest_first : IfErr r (IsFirst next ys) → IfErr r (IsFirst c (xs ++ ys))
  rest_first h = then_err r (IsFirst next ys) (IsFirst c (xs ++ ys)) h (λ e first other. check_met c next xs ys met ∙ first other)

-- where the first part fails, so does the whole
pub check_failed : (c : Counts) (e : Failure) (xs ys : List Demand) → check c xs ≡ Err e → check c (xs ++ ys) ≡ Err e
unfolding and_check
check_failed c e xs ys failed = check-append c xs ys ∙ ap (λ r. and_check r ys) failed

-- a list that is met is met in parts
pub check_parts : (c next : Counts) (xs ys : List Demand) → check c (xs ++ ys) ≡ Ok next
    → (middle : Counts) × (check c xs ≡ Ok middle) × (check middle ys ≡ Ok next)
check_parts c next xs ys met = by (check c xs) refl (sym (check-append c xs ys) ∙ met)
  where
    by : (r : Result Counts Failure) → check c xs ≡ r → and_check r ys ≡ Ok next
        → (middle : Counts) × (check c xs ≡ Ok middle) × (check middle ys ≡ Ok next)
    by (Ok middle) here rest = (middle, here, sym (check-after middle ys) ∙ rest)
    by (Err e) here rest = let failed = sym (failed-before e ys) ∙ rest in cc
