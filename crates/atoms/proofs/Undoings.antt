-- Changes that a test decides, and changes at places of a list, take calls back.
use Rattle.std.proofs.Common.{◌≡◌, ℕ, zero, suc, Bool, true, false, cond, List, [], ◌∷◌, Option, Some, None, refl, sym, ap, ◌∙◌}
use Rattle.std.specs.Prelude.{option_map, option_and_then, slice_get, slice_set}
use Rattle.std.proofs.lemmas.List.{set-set}
use Rattle.serial.specs.Serial.{Serial}
use Rattle.serial.specs.Places.{at_places, after_found}
use Rattle.atoms.specs.Undo.{Undoing, undone_if, TakesBack, undone_found, undoing_at_places}

-- a call that changes where a test holds, and one that changes where it doesn't
pub changes_if : {V C D : Type 0} (u : Undoing V C D) (b : Bool) (now before : V) (change : D)
    → (b ≡ true → u.undone now change ≡ before) → (b ≡ false → now ≡ before) → undone_if u now (cond b (Some change) None) ≡ before
changes_if u true now before change h k = h refl
changes_if u false now before change h k = k refl

pub changes_unless : {V C D : Type 0} (u : Undoing V C D) (b : Bool) (now before : V) (change : D)
    → (b ≡ true → now ≡ before) → (b ≡ false → u.undone now change ≡ before) → undone_if u now (cond b None (Some change)) ≡ before
changes_unless u true now before change h k = h refl
changes_unless u false now before change h k = k refl

-- ---- places of a list

get_set : {V : Type 0} (vs : List V) (o : ℕ) (v w : V) → slice_get vs o ≡ Some v → slice_get (slice_set vs o w) o ≡ Some w
get_set [] o v w e = cc
get_set (x ∷ vs) zero v w e = refl
get_set (x ∷ vs) (suc o) v w e = get_set vs o v w e

pub set_itself : {V : Type 0} (vs : List V) (o : ℕ) (v : V) → slice_get vs o ≡ Some v → slice_set vs o v ≡ vs
set_itself [] o v e = cc
set_itself (x ∷ vs) zero v e = let same : x ≡ v = cc in ap (λ y. y ∷ vs) (sym same)
set_itself (x ∷ vs) (suc o) v e = ap (λ ys. x ∷ ys) (set_itself vs o v e)

taken_back_at : {V C D : Type 0} (u : Undoing V C D) (vs : List V) (o : ℕ) (v w : V) (change : Option D) → slice_get vs o ≡ Some v
    → undone_if u w change ≡ v
    → undone_if (undoing_at_places u) (slice_set vs o w) (option_map (λ d. (o, d)) change) ≡ vs
taken_back_at u vs o v w None e back = ap (slice_set vs o) back ∙ set_itself vs o v e
taken_back_at u vs o v w (Some change) e back =
    ap (undone_found u (slice_set vs o w) o change) (get_set vs o v w e) ∙ set-set vs o w (u.undone w change) ∙ ap (slice_set vs o) back
    ∙ set_itself vs o v e

taken_back_found : {V C R D : Type 0} (s : Serial V C (Option R)) (u : Undoing V C D) → TakesBack s u → (vs : List V) (o : ℕ) (call : C)
    (found : Option V) → slice_get vs o ≡ found
    → undone_if (undoing_at_places u) (after_found s vs o call found)
    (option_map (λ d. (o, d)) (option_and_then (λ value. u.change value call) found)) ≡ vs
taken_back_found s u h vs o call None e = refl
taken_back_found s u h vs o call (Some v) e = taken_back_at u vs o v (s.after v call) (u.change v call) e (h v call)

pub places_take_back : {V C R D : Type 0} (s : Serial V C (Option R)) (u : Undoing V C D) → TakesBack s u
    → TakesBack (at_places s) (undoing_at_places u)
places_take_back s u h vs at = taken_back_found s u h vs at.0 at.1 (slice_get vs at.0) refl
