-- What drafts over a snapshot show, and what they showed before changes that are taken back.
use Rattle.std.proofs.Common.{◌≡◌, ℕ, zero, suc, ◌<◌, ◌≤◌, arith, List, [], ◌∷◌, ◌++◌, Some, None, Option, length, length-append, ◌+◌}
use Rattle.std.proofs.Common.{reverse, take, drop, Bool, true, false, cond, refl, sym, ap, ◌∙◌, subst}
use Rattle.std.specs.Prelude.{nat_eq, slice_get, slice_set, option_map, option_and_then, unwrap_or, IsSomeAnd, IfSome}
use Rattle.std.proofs.lemmas.List.{take-append-le, drop-append-le, take-take, reverse-append}
use Rattle.std.proofs.Math.ListN.{drop_of_length-le}
use Rattle.std.proofs.lemmas.Bool.{eqb-true, eqb-false, eq-eqb}
use Rattle.objects.specs.declared.kind.Value.{Value}
use Rattle.objects.specs.declared.kind.Call.{Call}
use Rattle.objects.specs.Objects.{objects, one_value, kind_of_value, kind_of_call, HasRoom, Fits, ObjectHasRoom}
use Rattle.serial.specs.Places.{after_found}
use Rattle.atoms.proofs.Undoings.{set_itself}
use Rattle.drafts.specs.History.{History, unchanged, changed, undone}
use Rattle.intentions.specs.Starts.{IsNested}
use Rattle.intentions.specs.declared.draft_table.Drafted.{Drafted}
use Rattle.intentions.specs.declared.draft_table.DraftTable.{DraftTable}
use Rattle.intentions.specs.DraftTables.{Drafts, draft_of, drafts_of, draft_at, IsPlaceOf, IsPut}
use Rattle.intentions.specs.Layers.{States, histories, values_now, undo_at, drafts_rewound, values_at, layered}
use Rattle.intentions.proofs.StartsLemmas.{innermost_joined}
use Rattle.intentions.proofs.DraftTableLemmas.{same_list, get_set_same, get_set_other}

-- states by their parts
abbrev pub states : List Value → List (List Value) → States
states shown begun = record { shown = shown; begun = begun }

pub states_of : {shown shown' : List Value} {begun begun' : List (List Value)} → shown ≡ shown' → begun ≡ begun'
    → states shown begun ≡ states shown' begun'
states_of p q = cc

-- ---- what each object became

-- a draft, or the borrowed value
abbrev draft_or : Option (History Value) → Value → History Value
draft_or draft lent = unwrap_or draft (unchanged lent)

pub get-histories : (snapshot : List Value) (drafts : Drafts) (object : ℕ) → slice_get (histories snapshot drafts) object ≡ option_map
    (draft_or (drafts object)) (slice_get snapshot object)
get-histories [] drafts object = refl
get-histories (lent ∷ snapshot) drafts zero = refl
get-histories (lent ∷ snapshot) drafts (suc object) = get-histories snapshot (λ o. drafts (suc o)) object

-- what is shown of an object
get-values_now : (snapshot : List Value) (drafts : Drafts) (object : ℕ) → slice_get (values_now (histories snapshot drafts)) object
    ≡ option_map (λ lent. (draft_or (drafts object) lent).value) (slice_get snapshot object)
get-values_now [] drafts object = refl
get-values_now (lent ∷ snapshot) drafts zero = refl
get-values_now (lent ∷ snapshot) drafts (suc object) = get-values_now snapshot (λ o. drafts (suc o)) object

-- an object that is not there
pub found_none : (snapshot : List Value) (drafts : Drafts) (object : ℕ) → slice_get snapshot object ≡ None
    → slice_get (values_now (histories snapshot drafts)) object ≡ None
found_none snapshot drafts object e = get-values_now snapshot drafts object
    ∙ ap (option_map (λ lent. (draft_or (drafts object) lent).value)) e

-- no drafts
pub now-none : (snapshot : List Value) → values_now (histories snapshot (λ object. None)) ≡ snapshot
now-none [] = refl
now-none (lent ∷ snapshot) = ap (λ vs. lent ∷ vs) (now-none snapshot)

map_twice : {A B C : Type 0} (f : A → B) (c : C) (o : Option A) → option_map (λ _. c) (option_map f o) ≡ option_map (λ _. c) o
map_twice f c None = refl
map_twice f c (Some a) = refl

pub histories-put : (snapshot : List Value) (drafts put : Drafts) (object : ℕ) (h : History Value) → IsPut drafts put object h
    → histories snapshot put ≡ slice_set (histories snapshot drafts) object h
histories-put snapshot drafts put object h is = same_list _ _ (λ q.
    get-histories snapshot put q ∙ ap (λ d. option_map (draft_or d) (slice_get snapshot q)) (is q) ∙ by_test q (nat_eq object q) refl)
  where
    by_test : (q : ℕ) (b : Bool) → nat_eq object q ≡ b
        → option_map (draft_or (cond b (Some h) (drafts q))) (slice_get snapshot q) ≡ slice_get
        (slice_set (histories snapshot drafts) object h) q
    by_test q true e =
        let hs = histories snapshot drafts in
        let here : slice_get (slice_set hs object h) object ≡ option_map (λ _. h) (slice_get hs object) = get_set_same hs object h in
        sym (subst (λ p. slice_get (slice_set hs object h) p ≡ option_map (λ _. h) (slice_get hs p)) (eqb-true object q e) here
        ∙ ap (option_map (λ _. h)) (get-histories snapshot drafts q) ∙ map_twice (draft_or (drafts q)) h (slice_get snapshot q))
    by_test q false e =
        sym (get_set_other (histories snapshot drafts) object q h (eqb-false object q e) ∙ get-histories snapshot drafts q)

-- drafts that are the same for each object
pub histories-same : (snapshot : List Value) (drafts drafts' : Drafts) → ((q : ℕ) → drafts' q ≡ drafts q)
    → histories snapshot drafts' ≡ histories snapshot drafts
histories-same [] drafts drafts' same = refl
histories-same (lent ∷ snapshot) drafts drafts' same =
    let here : draft_or (drafts' 0) lent ≡ draft_or (drafts 0) lent = ap (λ d. draft_or d lent) (same 0) in
    let rest = histories-same snapshot (λ o. drafts (suc o)) (λ o. drafts' (suc o)) (λ q. same (suc q)) in
    cc (here, rest)

get-now : (hs : List (History Value)) (object : ℕ) (h : History Value) → slice_get hs object ≡ Some h
    → slice_get (values_now hs) object ≡ Some h.value
get-now [] object h e = cc
get-now (g ∷ hs) zero h e = let same : g ≡ h = cc in ap (λ (f : History Value). Some f.value) same
get-now (g ∷ hs) (suc object) h e = get-now hs object h e

-- what is shown of an object is its draft, or the borrowed value
pub shown_there : (snapshot : List Value) (drafts : Drafts) (starts journal : List ℕ) (state : States) (object : ℕ) (lent : Value)
    → layered (histories snapshot drafts) starts journal ≡ state → slice_get snapshot object ≡ Some lent
    → slice_get state.shown object ≡ Some (draft_or (drafts object) lent).value
shown_there snapshot drafts starts journal state object lent is e =
    sym (ap (λ (s : States). slice_get s.shown object) is) ∙ get-values_now snapshot drafts object
    ∙ ap (option_map (λ l. (draft_or (drafts object) l).value)) e

-- a draft that is found at its place
draft_placed : (table : DraftTable) (object place : ℕ) (h : History Value) → IsPlaceOf table object place
    → drafts_of table object ≡ Some h → draft_at table place ≡ Some h
draft_placed table object place h at is = by_drafted (slice_get table.drafts.items place) at.named
    (ap (λ o. option_and_then (draft_of object) (option_and_then (slice_get table.drafts.items) o)) (sym at.placed) ∙ is)
  where
    by_drafted : (o : Option Drafted) → IsSomeAnd o (λ d. d.object ≡ object) → option_and_then (draft_of object) o ≡ Some h
        → option_map (λ (d : Drafted). d.draft) o ≡ Some h
    by_drafted None named e = absurd named
    by_drafted (Some d) named e = sym (ap (λ b. cond b (Some d.draft) None) (eq-eqb d.object object named)) ∙ e

-- an object that has the draft that it had, or else one of the borrowed value, at this place
pub record HasDraft (snapshot : List Value) (table : DraftTable) (starts journal : List ℕ) (state : States) (object place : ℕ)
    (h : History Value) : Type 0 where
  pub draft : draft_at table place ≡ Some h
  pub found : slice_get (histories snapshot (drafts_of table)) object ≡ Some h
  pub there : slice_get state.shown object ≡ Some h.value
  pub shows : layered (histories snapshot (drafts_of table)) starts journal ≡ state

-- nothing else is shown where a draft of the borrowed value is added
pub added : (snapshot : List Value) (table put : DraftTable) (starts journal : List ℕ) (state : States) (object place : ℕ) (lent : Value)
    → layered (histories snapshot (drafts_of table)) starts journal ≡ state → slice_get snapshot object ≡ Some lent
    → IsPlaceOf put object place → IsPut (drafts_of table) (drafts_of put) object (draft_or (drafts_of table object) lent)
    → HasDraft snapshot put starts journal state object place (draft_or (drafts_of table object) lent)
added snapshot table put starts journal state object place lent is e at put_is =
    let drafts = drafts_of table in
    let h = draft_or (drafts object) lent in
    let before : slice_get (histories snapshot drafts) object ≡ Some h =
    get-histories snapshot drafts object ∙ ap (option_map (draft_or (drafts object))) e in
    let same : histories snapshot (drafts_of put) ≡ histories snapshot drafts =
    histories-put snapshot drafts (drafts_of put) object h put_is ∙ set_itself (histories snapshot drafts) object h before in
    record {
      draft = draft_placed put object place h at
          (put_is object ∙ ap (λ b. cond b (Some h) (drafts object)) (eq-eqb object object refl));
      found = ap (λ hs. slice_get hs object) same ∙ before;
      there = shown_there snapshot drafts starts journal state object lent is e;
      shows = ap (λ hs. layered hs starts journal) same ∙ is;
    }

-- ---- changes, and changes that are taken back

now-set : (hs : List (History Value)) (object : ℕ) (h : History Value) → values_now (slice_set hs object h) ≡ slice_set
    (values_now hs) object h.value
now-set [] object h = refl
now-set (g ∷ hs) zero h = refl
now-set (g ∷ hs) (suc object) h = ap (λ vs. g.value ∷ vs) (now-set hs object h)

undo-changed : (hs : List (History Value)) (object : ℕ) (h : History Value) (v : Value) → slice_get hs object ≡ Some h
    → undo_at (slice_set hs object (changed h v)) object ≡ hs
undo-changed [] object h v e = refl
undo-changed (g ∷ hs) zero h v e = let same : g ≡ h = cc in ap (λ f. f ∷ hs) (sym same)
undo-changed (g ∷ hs) (suc object) h v e = ap (λ fs. g ∷ fs) (undo-changed hs object h v e)

rewound-append : (hs : List (History Value)) (xs ys : List ℕ) → drafts_rewound hs (xs ++ ys) ≡ drafts_rewound (drafts_rewound hs xs) ys
rewound-append hs [] ys = refl
rewound-append hs (x ∷ xs) ys = rewound-append (undo_at hs x) xs ys

-- what is asked of a call holds of the value that is shown
pub fits_found : (values : List Value) (object : ℕ) (call : Call) (v : Value) → slice_get values object ≡ Some v → Fits values object call
    → kind_of_value v ≡ kind_of_call call
fits_found values object call v found fits = subst (λ o. IsSomeAnd o (λ w. kind_of_value w ≡ kind_of_call call)) found fits

pub room_found : (values : List Value) (object : ℕ) (call : Call) (v : Value) → slice_get values object ≡ Some v
    → ObjectHasRoom values object call → HasRoom v call
room_found values object call v found room = subst (λ o. IfSome o (λ w. HasRoom w call)) found room

-- one more change leaves what was shown at the begin of each level
values_at-changed : (hs : List (History Value)) (object : ℕ) (h : History Value) (v : Value) (starts journal : List ℕ)
    → slice_get hs object ≡ Some h → IsNested starts (length journal)
    → values_at (slice_set hs object (changed h v)) starts (journal ++ object ∷ []) ≡ values_at hs starts journal
values_at-changed hs object h v [] journal e nested = refl
values_at-changed hs object h v (start ∷ starts) journal e nested =
    let later : reverse (drop start (journal ++ object ∷ [])) ≡ object ∷ reverse (drop start journal) =
    ap reverse (drop-append-le start journal (object ∷ []) nested.0) ∙ reverse-append (drop start journal) (object ∷ []) in
    let before : drafts_rewound (slice_set hs object (changed h v)) (reverse (drop start (journal ++ object ∷ []))) ≡ drafts_rewound hs
    (reverse (drop start journal)) =
    ap (drafts_rewound (slice_set hs object (changed h v))) later ∙ ap (λ gs. drafts_rewound gs (reverse (drop start journal)))
    (undo-changed hs object h v e) in
    let earlier : take start (journal ++ object ∷ []) ≡ take start journal = take-append-le start journal (object ∷ []) nested.0 in
    ap (λ gs. values_now gs ∷ values_at gs starts (take start (journal ++ object ∷ []))) before
    ∙ ap (λ js. values_now (drafts_rewound hs (reverse (drop start journal)))
    ∷ values_at (drafts_rewound hs (reverse (drop start journal))) starts js)
    earlier

-- what is shown where an object that became this becomes what a call leaves
now-after : (hs : List (History Value)) (shown : List Value) (object : ℕ) (call : Call) (h new : History Value)
    → values_now hs ≡ shown → slice_get hs object ≡ Some h → new.value ≡ one_value.after h.value call
    → values_now (slice_set hs object new) ≡ objects.after shown (object, call)
now-after hs shown object call h new is found value =
    let there : slice_get shown object ≡ Some h.value = sym (ap (λ vs. slice_get vs object) is) ∙ get-now hs object h found in
    now-set hs object new ∙ ap (λ vs. slice_set vs object new.value) is ∙ ap (slice_set shown object) value
    ∙ sym (ap (after_found one_value shown object call) there)

-- a call that leaves what is shown of its object
pub looked : (state : States) (object : ℕ) (call : Call) (v : Value) → slice_get state.shown object ≡ Some v
    → one_value.after v call ≡ v → state ≡ states (objects.after state.shown (object, call)) state.begun
looked state object call v there same =
    states_of
    (sym (ap (after_found one_value state.shown object call) there ∙ ap (slice_set state.shown object) same
    ∙ set_itself state.shown object v there))
    refl

-- a call on an object that became this
pub performed : (hs new : List (History Value)) (starts journal pushed : List ℕ) (state : States) (object : ℕ) (call : Call)
    (h : History Value)
    → layered hs starts journal ≡ state → IsNested starts (length journal) → slice_get hs object ≡ Some h
    → new ≡ slice_set hs object (changed h (one_value.after h.value call)) → pushed ≡ journal ++ object ∷ []
    → layered new starts pushed ≡ states (objects.after state.shown (object, call)) state.begun
performed hs new starts journal pushed state object call h is nested found new_is pushed_is =
    let g = changed h (one_value.after h.value call) in
    let here : layered new starts pushed ≡ layered (slice_set hs object g) starts (journal ++ object ∷ []) = cc in
    here ∙ states_of
    (now-after hs state.shown object call h g (ap (λ (s : States). s.shown) is) found refl)
    (values_at-changed hs object h g.value starts journal found nested ∙ ap (λ (s : States). s.begun) is)

-- with no level open, nothing is said of the journal
values_at-base : (hs new : List (History Value)) (starts journal left : List ℕ) → starts ≡ []
    → values_at new starts left ≡ values_at hs starts journal
values_at-base hs new starts journal left base = ap (λ ss. values_at new ss left) base ∙ sym (ap (λ ss. values_at hs ss journal) base)

pub layered-base : (hs : List (History Value)) (starts journal left : List ℕ) → starts ≡ []
    → layered hs starts left ≡ layered hs starts journal
layered-base hs starts journal left base = ap (states (values_now hs)) (values_at-base hs hs starts journal left base)

-- a call for good on an object that became this
pub settled : (hs new : List (History Value)) (starts journal left : List ℕ) (state : States) (object : ℕ) (call : Call) (h : History Value)
    → layered hs starts journal ≡ state → starts ≡ [] → slice_get hs object ≡ Some h
    → new ≡ slice_set hs object (unchanged (one_value.after h.value call))
    → layered new starts left ≡ states (objects.after state.shown (object, call)) state.begun
settled hs new starts journal left state object call h is base found new_is =
    let g : History Value = unchanged (one_value.after h.value call) in
    states_of
    (ap values_now new_is ∙ now-after hs state.shown object call h g (ap (λ (s : States). s.shown) is) found refl)
    (values_at-base hs new starts journal left base ∙ ap (λ (s : States). s.begun) is)

-- the innermost level ends as part of the one around it
values_at-joined : (hs : List (History Value)) (start : ℕ) (starts journal : List ℕ) → IsNested (start ∷ starts) (length journal)
    → values_at (drafts_rewound hs (reverse (drop start journal))) starts (take start journal) ≡ values_at hs starts journal
values_at-joined hs start [] journal nested = refl
values_at-joined hs start (outer ∷ starts) journal nested =
    let inside = drafts_rewound hs (reverse (drop start journal)) in
    let parts : reverse (drop outer journal) ≡ reverse (drop start journal) ++ reverse (drop outer (take start journal)) =
    sym (ap reverse (innermost_joined start (outer ∷ starts) journal nested)) ∙ reverse-append (drop outer (take start journal))
    (drop start journal) in
    let before : drafts_rewound inside (reverse (drop outer (take start journal))) ≡ drafts_rewound hs (reverse (drop outer journal)) =
    sym (ap (drafts_rewound hs) parts ∙ rewound-append hs (reverse (drop start journal)) (reverse (drop outer (take start journal)))) in
    let earlier : take outer (take start journal) ≡ take outer journal = take-take outer start journal nested.1.0 in
    ap (λ gs. values_now gs ∷ values_at gs starts (take outer (take start journal))) before
    ∙ ap (λ js. values_now (drafts_rewound hs (reverse (drop outer journal)))
    ∷ values_at (drafts_rewound hs (reverse (drop outer journal))) starts js)
    earlier

pub committed_level : (hs : List (History Value)) (start : ℕ) (starts journal : List ℕ) (state : States)
    → layered hs (start ∷ starts) journal ≡ state → IsNested (start ∷ starts) (length journal)
    → layered hs starts journal ≡ states state.shown (drop 1 state.begun)
committed_level hs start starts journal state is nested =
    states_of (ap (λ (s : States). s.shown) is) (sym (values_at-joined hs start starts journal nested)
    ∙ ap (λ (s : States). drop 1 s.begun) is)

-- ---- the journal taken back

set_undone : (snapshot : List Value) (drafts : Drafts) (object : ℕ) (h : History Value) → drafts object ≡ Some h
    → slice_set (histories snapshot drafts) object (undone h) ≡ undo_at (histories snapshot drafts) object
set_undone [] drafts object h e = refl
set_undone (lent ∷ snapshot) drafts zero h e = ap (λ d. undone (draft_or d lent) ∷ histories snapshot (λ o. drafts (suc o))) (sym e)
set_undone (lent ∷ snapshot) drafts (suc object) h e = ap (λ hs. draft_or (drafts 0) lent ∷ hs)
    (set_undone snapshot (λ o. drafts (suc o)) object h e)

-- a draft whose last change is taken back
pub undo-put : (snapshot : List Value) (drafts put : Drafts) (object : ℕ) (h new : History Value) → drafts object ≡ Some h → new ≡ undone h
    → IsPut drafts put object new → histories snapshot put ≡ undo_at (histories snapshot drafts) object
undo-put snapshot drafts put object h new e new_is is = histories-put snapshot drafts put object new is
    ∙ ap (slice_set (histories snapshot drafts) object) new_is ∙ set_undone snapshot drafts object h e

-- where there is no draft
pub undo_none : (snapshot : List Value) (drafts : Drafts) (object : ℕ) → drafts object ≡ None → histories snapshot drafts ≡ undo_at
    (histories snapshot drafts) object
undo_none [] drafts object e = refl
undo_none (lent ∷ snapshot) drafts zero e =
    let rest = histories snapshot (λ o. drafts (suc o)) in
    ap (λ d. draft_or d lent ∷ rest) e ∙ sym (ap (λ d. undone (draft_or d lent) ∷ rest) e)
undo_none (lent ∷ snapshot) drafts (suc object) e = ap (λ hs. draft_or (drafts 0) lent ∷ hs)
    (undo_none snapshot (λ o. drafts (suc o)) object e)

-- a part of the changes from a place of the journal on is taken back
pub record IsPartUndone (was : Drafts) (journal : List ℕ) (start : ℕ) (drafts : Drafts) (left : List ℕ) : Type 0 where
  pub within : start ≤ length left
  pub keeps : take start left ≡ take start journal
  pub rewinds : (snapshot : List Value) → drafts_rewound (histories snapshot drafts) (reverse (drop start left)) ≡ drafts_rewound
      (histories snapshot was) (reverse (drop start journal))

pub undone_more : (was drafts now : Drafts) (journal left rest : List ℕ) (start object : ℕ) → IsPartUndone was journal start drafts left
    → start < length left → left ≡ rest ++ object ∷ []
    → ((snapshot : List Value) → histories snapshot now ≡ undo_at (histories snapshot drafts) object)
    → IsPartUndone was journal start now rest
undone_more was drafts now journal left rest start object part more is back =
    let size : length left ≡ length rest + 1 = ap length is ∙ length-append rest (object ∷ []) in
    let within : start ≤ length rest = omega arith in
    let later : reverse (drop start left) ≡ object ∷ reverse (drop start rest) =
    ap (λ js. reverse (drop start js)) is ∙ ap reverse (drop-append-le start rest (object ∷ []) within) ∙ reverse-append (drop start rest)
    (object ∷ []) in
    record {
      within = within;
      keeps = sym (take-append-le start rest (object ∷ []) within) ∙ sym (ap (take start) is) ∙ part.keeps;
      rewinds = λ snapshot. ap (λ hs. drafts_rewound hs (reverse (drop start rest))) (back snapshot)
          ∙ sym (ap (drafts_rewound (histories snapshot drafts)) later) ∙ part.rewinds snapshot;
    }

pub undone_all : (was drafts : Drafts) (journal left : List ℕ) (start : ℕ) (snapshot : List Value)
    → IsPartUndone was journal start drafts left → length left ≤ start
    → histories snapshot drafts ≡ drafts_rewound (histories snapshot was) (reverse (drop start journal))
undone_all was drafts journal left start snapshot part all =
    sym (ap (λ js. drafts_rewound (histories snapshot drafts) (reverse js)) (drop_of_length-le left all)) ∙ part.rewinds snapshot
