-- Drafts in a table whose places may be stale.
use Rattle.std.proofs.Common.{◌≡◌, ◌≢◌, ℕ, zero, suc, List, [], ◌∷◌, ◌++◌, Some, None, Option, length, Bool, true, false, cond, refl}
use Rattle.std.proofs.Common.{inl, inr, sym, ap, ◌∙◌, subst}
use Rattle.std.specs.Prelude.{nat_eq, slice_get, slice_set, option_map, option_and_then, IsSomeAnd, get_or, if◌then◌else◌}
use Rattle.std.proofs.lemmas.Bool.{eqb-true, eq-eqb}
use Rattle.objects.specs.declared.kind.Value.{Value}
use Rattle.drafts.specs.History.{History}
use Rattle.intentions.specs.declared.draft_table.Drafted.{Drafted}
use Rattle.intentions.specs.DraftTables.{draft_of, drafts_in, IsPut}
use Rattle.intentions.specs.Places.{IsReached}

-- an entry by its parts
abbrev pub drafted : ℕ → History Value → Drafted
drafted object h = record { object = object; draft = h }

-- ---- lists

-- a list is what is found in it
pub same_list : {A : Type 0} (xs ys : List A) → ((i : ℕ) → slice_get xs i ≡ slice_get ys i) → xs ≡ ys
same_list [] [] h = refl
same_list [] (y ∷ ys) h = let first = h 0 in cc
same_list (x ∷ xs) [] h = let first = h 0 in cc
same_list (x ∷ xs) (y ∷ ys) h =
    let first : Some x ≡ Some y = h 0 in
    let same : x ≡ y = cc in
    let rest : xs ≡ ys = same_list xs ys (λ i. h (suc i)) in
    cc

pub get_set_same : {A : Type 0} (xs : List A) (i : ℕ) (x : A) → slice_get (slice_set xs i x) i ≡ option_map (λ _. x) (slice_get xs i)
get_set_same [] i x = refl
get_set_same (y ∷ xs) zero x = refl
get_set_same (y ∷ xs) (suc i) x = get_set_same xs i x

pub get_set_other : {A : Type 0} (xs : List A) (i j : ℕ) (x : A) → i ≢ j → slice_get (slice_set xs i x) j ≡ slice_get xs j
get_set_other [] i j x ne = refl
get_set_other (y ∷ xs) zero zero x ne = absurd (ne refl)
get_set_other (y ∷ xs) zero (suc j) x ne = refl
get_set_other (y ∷ xs) (suc i) zero x ne = refl
get_set_other (y ∷ xs) (suc i) (suc j) x ne = get_set_other xs i j x (λ e. ne (ap suc e))

-- what is read at a place where something is found
pub found_item : {A : Type 0} (xs : List A) (i : ℕ) (P : A → Type 0) (x : A) → IsSomeAnd (slice_get xs i) P → x ≡ get_or xs i x
    → (slice_get xs i ≡ Some x) × P x
found_item [] i P x h e = absurd h
found_item (y ∷ xs) zero P x h e = (ap (λ z. Some z) (sym e), subst P (sym e) h)
found_item (y ∷ xs) (suc i) P x h e = found_item xs i P x h e

-- ---- drafts

-- the place past the end is that of the next entry
get-last : {A : Type 0} (xs : List A) (x : A) → slice_get (xs ++ x ∷ []) (length xs) ≡ Some x
get-last [] x = refl
get-last (y ∷ xs) x = get-last xs x

-- a draft that is of this object
of_object : (object : ℕ) (h : History Value) → draft_of object (drafted object h) ≡ Some h
of_object object h = ap (λ b. cond b (Some h) None) (eq-eqb object object refl)

-- one more draft is none of another object's, whatever place that object has
other-last : (drafts : List Drafted) (object q p : ℕ) (h : History Value) → nat_eq object q ≡ false
    → option_and_then (draft_of q) (slice_get (drafts ++ drafted object h ∷ []) p) ≡ option_and_then (draft_of q) (slice_get drafts p)
other-last [] object q zero h e = ap (λ b. cond b (Some h) None) e
other-last [] object q (suc p) h e = refl
other-last (d ∷ drafts) object q zero h e = refl
other-last (d ∷ drafts) object q (suc p) h e = other-last drafts object q p h e

-- the places where an object has this one
abbrev pub placed_at : (ℕ → Option ℕ) → ℕ → ℕ → ℕ → Option ℕ
placed_at places object place q = if nat_eq object q then Some place else places q

-- a draft at the end, where its object has that place
pub put-last : (places : ℕ → Option ℕ) (drafts : List Drafted) (object : ℕ) (h : History Value)
    → IsPut (drafts_in places drafts) (drafts_in (placed_at places object (length drafts)) (drafts ++ drafted object h ∷ [])) object h
put-last places drafts object h q = by_test (nat_eq object q) refl
  where
    by_place : nat_eq object q ≡ false → (o : Option ℕ)
        → option_and_then (draft_of q) (option_and_then (slice_get (drafts ++ drafted object h ∷ [])) o) ≡ option_and_then (draft_of q)
        (option_and_then (slice_get drafts) o)
    by_place e None = refl
    by_place e (Some p) = other-last drafts object q p h e

    by_test : (b : Bool) → nat_eq object q ≡ b
        → drafts_in (placed_at places object (length drafts)) (drafts ++ drafted object h ∷ []) q ≡ cond b (Some h)
        (drafts_in places drafts q)
    by_test true e =
        ap (λ b. option_and_then (draft_of q) (option_and_then (slice_get (drafts ++ drafted object h ∷ []))
        (cond b (Some (length drafts)) (places q)))) e
        ∙ ap (option_and_then (draft_of q)) (get-last drafts (drafted object h)) ∙ ap (λ b. cond b (Some h) None) e
    by_test false e =
        ap (λ b. option_and_then (draft_of q) (option_and_then (slice_get (drafts ++ drafted object h ∷ []))
        (cond b (Some (length drafts)) (places q)))) e
        ∙ by_place e (places q)

-- the place past the end has no draft
past_end : (drafts : List Drafted) → slice_get drafts (length drafts) ≡ None
past_end [] = refl
past_end (d ∷ drafts) = past_end drafts

-- places that are the same, or past the end where there was none, have the same drafts
pub reached : (old new : ℕ → Option ℕ) (drafts : List Drafted) (q : ℕ) → IsReached (length drafts) (old q) (new q)
    → drafts_in new drafts q ≡ drafts_in old drafts q
reached old new drafts q (inl same) = ap (λ o. option_and_then (draft_of q) (option_and_then (slice_get drafts) o)) same
reached old new drafts q (inr (none, some)) =
    ap (λ o. option_and_then (draft_of q) (option_and_then (slice_get drafts) o)) some
    ∙ ap (option_and_then (draft_of q)) (past_end drafts)
    ∙ sym (ap (λ o. option_and_then (draft_of q) (option_and_then (slice_get drafts) o)) none)

-- a draft that is found at its place
pub found-at : (places : ℕ → Option ℕ) (drafts : List Drafted) (object place : ℕ) (d : Drafted) → places object ≡ Some place
    → slice_get drafts place ≡ Some d → d.object ≡ object
    → drafts_in places drafts object ≡ Some d.draft
found-at places drafts object place d placed there named =
    ap (λ o. option_and_then (draft_of object) (option_and_then (slice_get drafts) o)) placed ∙ ap (option_and_then (draft_of object)) there
    ∙ ap (λ b. cond b (Some d.draft) None) (eq-eqb d.object object named)

-- another draft of an object at its place is none of another object's
other-set : (drafts : List Drafted) (q place p : ℕ) (d : Drafted) (h : History Value) → nat_eq d.object q ≡ false
    → slice_get drafts place ≡ Some d
    → option_and_then (draft_of q) (slice_get (slice_set drafts place (drafted d.object h)) p) ≡ option_and_then (draft_of q)
    (slice_get drafts p)
other-set [] q place p d h e there = refl
other-set (x ∷ drafts) q zero zero d h e there =
    let same : x ≡ d = cc in
    ap (λ b. cond b (Some h) None) e ∙ sym (ap (λ (y : Drafted). draft_of q y) same ∙ ap (λ b. cond b (Some d.draft) None) e)
other-set (x ∷ drafts) q zero (suc p) d h e there = refl
other-set (x ∷ drafts) q (suc place) zero d h e there = refl
other-set (x ∷ drafts) q (suc place) (suc p) d h e there = other-set drafts q place p d h e there

-- another draft of an object at its place
pub put-at : (places : ℕ → Option ℕ) (drafts : List Drafted) (object place : ℕ) (d : Drafted) (h : History Value)
    → places object ≡ Some place → slice_get drafts place ≡ Some d → d.object ≡ object
    → IsPut (drafts_in places drafts) (drafts_in places (slice_set drafts place (drafted d.object h))) object h
put-at places drafts object place d h placed there named q = by_test (nat_eq object q) refl
  where
    new : List Drafted
    new = slice_set drafts place (drafted d.object h)

    by_place : nat_eq object q ≡ false → (o : Option ℕ)
        → option_and_then (draft_of q) (option_and_then (slice_get new) o) ≡ option_and_then (draft_of q)
        (option_and_then (slice_get drafts) o)
    by_place e None = refl
    by_place e (Some p) = other-set drafts q place p d h (ap (λ o. nat_eq o q) named ∙ e) there

    by_test : (b : Bool) → nat_eq object q ≡ b → drafts_in places new q ≡ cond b (Some h) (drafts_in places drafts q)
    by_test true e =
        let at : slice_get new place ≡ Some (drafted d.object h) =
        get_set_same drafts place (drafted d.object h) ∙ ap (option_map (λ _. drafted d.object h)) there in
        subst (λ p. drafts_in places new p ≡ Some h) (eqb-true object q e)
        (found-at places new object place (drafted d.object h) placed at named)
    by_test false e = by_place e (places q)
