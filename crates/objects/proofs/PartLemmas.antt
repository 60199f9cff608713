-- Parts of the objects: what is performed on parts side by side is performed on them together.
use Rattle.std.proofs.Common.{◌≡◌, ◌+◌, ◌-◌, ◌<◌, ◌≤◌, ℕ, suc, zero, List, [], ◌∷◌, ◌++◌, length, take, drop, Option, Some, None}
use Rattle.std.proofs.Common.{◌⊎◌, inl, inr, refl, sym, ap, subst, ◌∙◌, arith, length-append, drop-drop}
use Rattle.std.specs.Prelude.{slice_get, slice_set, option_and_then, IfSome, All}
use Rattle.std.proofs.lemmas.List.{length-set, drop-set-lt, drop-set-add, take-set-le, drop-take}
use Rattle.std.proofs.lemmas.Option.{slice_get_within}
use Rattle.std.proofs.Math.Seq.{take-set-lt, take-length, take-add, take-append_seam, drop-append_seam}
use Rattle.serial.specs.Places.{after_found}
use Rattle.objects.specs.declared.kind.Value.{Value}
use Rattle.objects.specs.declared.kind.Call.{Call}
use Rattle.objects.specs.declared.entry.Entry.{Entry}
use Rattle.objects.specs.Objects.{one_value, kind_of_value, kind_of_call, HasRoom}
use Rattle.objects.specs.Entries.{State, after_call, AreLegal, AllHaveRoom, after}
use Rattle.objects.specs.Parts.{IsPart, IfAmong, IsPerformedOn, ArePerformedOn, CanPerformOn}
use Rattle.objects.specs.Lending.{written_over}
use Rattle.objects.proofs.KindLemmas.{kinds_agree}
use Rattle.objects.proofs.ListLemmas.{after-append, legal_parts, room_parts, length-after}

-- ---- a value of a part

-- what is among the first of a list is at its place in the list
get_taken : (n : ℕ) (values : List Value) (k : ℕ) (v : Value) → slice_get (take n values) k ≡ Some v → slice_get values k ≡ Some v
get_taken zero values k v e = cc
get_taken (suc n) [] k v e = cc
get_taken (suc n) (x ∷ values) zero v e = e
get_taken (suc n) (x ∷ values) (suc k) v e = get_taken n values k v e

-- a place of the rest of a list is one of the list
get_dropped : (n : ℕ) (values : List Value) (k : ℕ) → slice_get (drop n values) k ≡ slice_get values (n + k)
get_dropped zero values k = let e : k ≡ 0 + k = omega arith in ap (slice_get values) e
get_dropped (suc n) [] k = refl
get_dropped (suc n) (x ∷ values) k =
    let e : suc (n + k) ≡ suc n + k = omega arith in
    get_dropped n values k ∙ ap (slice_get (x ∷ values)) e

-- a state that has a part has each of its values
pub part-value : (first : ℕ) (values : List Value) (state : State) (k : ℕ) (v : Value) → IsPart first values state
    → slice_get values k ≡ Some v → slice_get state (first + k) ≡ Some v
part-value first values state k v part is =
    sym (get_dropped first state k)
    ∙ get_taken (length values) (drop first state) k v (ap (λ vs. slice_get vs k) part ∙ is)

-- a part that is written to at a place
part-set : (first : ℕ) (values : List Value) (state : State) (k : ℕ) (w : Value) → k < length values → IsPart first values state
    → IsPart first (slice_set values k w) (slice_set state (first + k) w)
part-set first values state k w lt part =
    ap (λ n. take n (drop first (slice_set state (first + k) w))) (length-set values k w)
    ∙ ap (take (length values)) (drop-set-add first state k w)
    ∙ take-set-lt (length values) (drop first state) k w lt
    ∙ ap (λ vs. slice_set vs k w) part

-- the object is none of these
abbrev pub IsOutside : ℕ → List Value → ℕ → Type 0
IsOutside first values object = (object < first) ⊎ (first + length values ≤ object)

-- a part where a state is written to before it or after it
part-set_outside : (first : ℕ) (values : List Value) (state : State) (object : ℕ) (w : Value) → IsOutside first values object
    → IsPart first values state → IsPart first values (slice_set state object w)
part-set_outside first values state object w (inl before) part =
    ap (take (length values)) (drop-set-lt first state object w before) ∙ part
part-set_outside first values state object w (inr past) part =
    let k = object - first in
    let is : object ≡ first + k = omega arith in
    ap (λ o. take (length values) (drop first (slice_set state o w))) is
    ∙ ap (take (length values)) (drop-set-add first state k w)
    ∙ take-set-le (length values) (drop first state) k w (omega arith)
    ∙ part

-- ---- one call

-- a call on one of the values of a part
pub part-call : (first : ℕ) (values : List Value) (state : State) (k : ℕ) (v : Value) (object : ℕ) (call : Call) → object ≡ first + k
    → slice_get values k ≡ Some v → IsPart first values state
    → IsPart first (slice_set values k (one_value.after v call)) (after_call state object call)
part-call first values state k v object call at is part =
    subst (λ o. IsPart first (slice_set values k (one_value.after v call)) (after_call state o call)) (sym at)
    (subst (IsPart first (slice_set values k (one_value.after v call)))
    (sym (ap (after_found one_value state (first + k) call) (part-value first values state k v part is)))
    (part-set first values state k (one_value.after v call) (slice_get_within values k v is) part))

-- a state after a call on an object that has this value or isn't there
part-found_outside : (first : ℕ) (values : List Value) (state : State) (object : ℕ) (call : Call) (o : Option Value)
    → IsOutside first values object → IsPart first values state → IsPart first values (after_found one_value state object call o)
part-found_outside first values state object call None outside part = part
part-found_outside first values state object call (Some v) outside part =
    part-set_outside first values state object (one_value.after v call) outside part

-- a call on another object leaves a part as it is
pub performed-outside : (first : ℕ) (values : List Value) (object : ℕ) (call : Call) → IsOutside first values object
    → IsPerformedOn first values values object call
performed-outside first values object call outside = record {
  same = refl;
  each = λ state part. part-found_outside first values state object call (slice_get state object) outside part;
}

-- a call on one of the values
pub performed-among : (first : ℕ) (values : List Value) (k : ℕ) (v : Value) (object : ℕ) (call : Call) → object ≡ first + k
    → slice_get values k ≡ Some v → IsPerformedOn first values (slice_set values k (one_value.after v call)) object call
performed-among first values k v object call at is = record {
  same = length-set values k (one_value.after v call);
  each = λ state part. part-call first values state k v object call at is part;
}

-- what is said of the value that there is, if there is one
if_some : (o : Option Value) (P : Value → Type 0) → ((v : Value) → o ≡ Some v → P v) → IfSome o P
if_some None P f = tt
if_some (Some v) P f = f v refl

-- a call that is performed next is of its object's kind
pub can-fits : (first : ℕ) (values : List Value) (entry : Entry) (entries : List Entry) → CanPerformOn first values (entry ∷ entries)
    → IfAmong first values entry.object (λ value. kind_of_value value ≡ kind_of_call entry.call)
can-fits first values entry entries can k at =
    if_some (slice_get values k) (λ value. kind_of_value value ≡ kind_of_call entry.call) (λ v is.
    let there : slice_get can.state entry.object ≡ Some v =
    ap (slice_get can.state) at ∙ part-value first values can.state k v can.part is in
    kinds_agree v entry.call entry.reply (sym (ap (option_and_then (λ w. one_value.reply w entry.call)) there) ∙ can.legal.0))

-- a call that is performed next has room at its object
pub can-room : (first : ℕ) (values : List Value) (entry : Entry) (entries : List Entry) → CanPerformOn first values (entry ∷ entries)
    → IfAmong first values entry.object (λ value. HasRoom value entry.call)
can-room first values entry entries can k at =
    if_some (slice_get values k) (λ value. HasRoom value entry.call) (λ v is.
    let there : slice_get can.state entry.object ≡ Some v =
    ap (slice_get can.state) at ∙ part-value first values can.state k v can.part is in
    subst (λ o. IfSome o (λ value. HasRoom value entry.call)) there can.room.0)

-- an entry whose call is performed
pub performed-entry : (first : ℕ) (old new : List Value) (entry : Entry) → IsPerformedOn first old new entry.object entry.call
    → ArePerformedOn first old new (entry ∷ [])
performed-entry first old new entry done = record { same = done.same; each = done.each }

-- ---- one after the other

-- no entries leave a part as it is
pub performed-none : (first : ℕ) (values : List Value) → ArePerformedOn first values values []
performed-none first values = record { same = refl; each = λ state part. part }

-- entries that are performed one list after the other
pub performed-append : (first : ℕ) (old mid new : List Value) (ps qs : List Entry) → ArePerformedOn first old mid ps
    → ArePerformedOn first mid new qs → ArePerformedOn first old new (ps ++ qs)
performed-append first old mid new ps qs before next = record {
  same = next.same ∙ before.same;
  each = λ state part.
      subst (IsPart first new) (sym (after-append state ps qs)) (next.each (after state ps) (before.each state part));
}

-- of two lists the first can be performed
pub can-first : (first : ℕ) (values : List Value) (ps qs : List Entry) → CanPerformOn first values (ps ++ qs)
    → CanPerformOn first values ps
can-first first values ps qs can = record {
  state = can.state;
  part = can.part;
  legal = (legal_parts can.state ps qs can.legal).0;
  room = (room_parts can.state ps qs can.room).0;
}

-- after it the second can
pub can-next : (first : ℕ) (old new : List Value) (ps qs : List Entry) → CanPerformOn first old (ps ++ qs)
    → ArePerformedOn first old new ps → CanPerformOn first new qs
can-next first old new ps qs can done = record {
  state = after can.state ps;
  part = done.each can.state can.part;
  legal = (legal_parts can.state ps qs can.legal).1;
  room = (room_parts can.state ps qs can.room).1;
}

-- ---- parts side by side

-- two parts side by side are one
pub part-append : (first : ℕ) (low high : List Value) (state : State) → IsPart first low state → IsPart (first + length low) high state
    → IsPart first (low ++ high) state
part-append first low high state is_low is_high =
    ap (λ n. take n (drop first state)) (length-append low high)
    ∙ take-add (length low) (length high) (drop first state)
    ∙ ap (λ vs. vs ++ take (length high) (drop (length low) (drop first state))) is_low
    ∙ ap (λ vs. low ++ take (length high) vs) (drop-drop (length low) first state)
    ∙ ap (λ vs. low ++ vs) is_high

-- what is taken of what was taken
take_of_more : (n k : ℕ) (values : List Value) → n ≤ k → take n (take k values) ≡ take n values
take_of_more zero k values le = refl
take_of_more (suc n) zero values le = absurd (omega arith)
take_of_more (suc n) (suc k) [] le = refl
take_of_more (suc n) (suc k) (x ∷ values) le = ap (λ vs. x ∷ vs) (take_of_more n k values (omega arith))

-- the first of two parts side by side
pub part-low : (first : ℕ) (low high : List Value) (state : State) → IsPart first (low ++ high) state → IsPart first low state
part-low first low high state is =
    let le : length low ≤ length (low ++ high) = omega (arith, length-append low high) in
    sym (take_of_more (length low) (length (low ++ high)) (drop first state) le)
    ∙ ap (take (length low)) is
    ∙ take-append_seam low high

-- the second of two parts side by side
pub part-high : (first : ℕ) (low high : List Value) (state : State) → IsPart first (low ++ high) state
    → IsPart (first + length low) high state
part-high first low high state is =
    ap (take (length high)) (sym (drop-drop (length low) first state))
    ∙ sym (drop-take (length low) (length high) (drop first state))
    ∙ ap (λ n. drop (length low) (take n (drop first state))) (sym (length-append low high))
    ∙ ap (drop (length low)) is
    ∙ drop-append_seam low high

-- entries that are performed on two parts side by side are performed on both together
pub performed-beside : (first : ℕ) (low low_new high high_new : List Value) (entries : List Entry)
    → ArePerformedOn first low low_new entries
    → ArePerformedOn (first + length low) high high_new entries → ArePerformedOn first (low ++ high) (low_new ++ high_new) entries
performed-beside first low low_new high high_new entries on_low on_high = record {
  same = length-append low_new high_new ∙ ap (λ n. n + length high_new) on_low.same ∙ ap (λ n. length low + n) on_high.same
      ∙ sym (length-append low high);
  each = λ state part.
      part-append first low_new high_new (after state entries) (on_low.each state (part-low first low high state part))
      (subst (λ n. IsPart (first + n) high_new (after state entries)) (sym on_low.same)
      (on_high.each state (part-high first low high state part)));
}

-- what can be performed on two parts side by side can be on the first
pub can-low : (first : ℕ) (low high : List Value) (entries : List Entry) → CanPerformOn first (low ++ high) entries
    → CanPerformOn first low entries
can-low first low high entries can =
    record { state = can.state; part = part-low first low high can.state can.part; legal = can.legal; room = can.room }

-- what can be performed on two parts side by side can be on the second
pub can-high : (first : ℕ) (low high : List Value) (entries : List Entry) → CanPerformOn first (low ++ high) entries
    → CanPerformOn (first + length low) high entries
can-high first low high entries can =
    record { state = can.state; part = part-high first low high can.state can.part; legal = can.legal; room = can.room }

-- ---- all objects, and none

-- a state has its own values
part-whole : (state : State) → IsPart 0 state state
part-whole state = take-length state

-- what is performed on all objects leads where the entries lead
pub performed-whole : (old new : State) (entries : List Entry) → ArePerformedOn 0 old new entries → new ≡ after old entries
performed-whole old new entries done =
    sym (done.each old (part-whole old))
    ∙ ap (λ n. take n (after old entries)) (done.same ∙ sym (length-after old entries))
    ∙ take-length (after old entries)

-- what can be performed on a state can be on all its objects
pub can-whole : (state : State) (entries : List Entry) → AreLegal state entries → AllHaveRoom state entries → CanPerformOn 0 state entries
can-whole state entries legal room = record { state = state; part = part-whole state; legal = legal; room = room }

-- entries on other objects leave a part as it is
pub all_performed-outside : (first : ℕ) (values : List Value) (entries : List Entry)
    → All (λ entry. IsOutside first values entry.object) entries → ArePerformedOn first values values entries
all_performed-outside first values [] outside = performed-none first values
all_performed-outside first values (entry ∷ entries) outside =
    performed-append first values values values (entry ∷ []) entries
    (performed-entry first values values entry (performed-outside first values entry.object entry.call (outside 0 entry (omega arith))))
    (all_performed-outside first values entries (λ k other lt. outside (suc k) other (omega (arith, lt))))

-- as many values written over all others are all values
pub written_over-all : (old values : List Value) → length values ≡ length old → written_over old values ≡ values
written_over-all old values same =
    ap (λ n. take n (values ++ drop (length values) old)) (sym same) ∙ take-append_seam values (drop (length values) old)
