-- Taking calls back: what each call changes, and how the value before it is restored.
use Rattle.std.specs.Prelude.{◌≡◌, ℕ, List, [], ◌∷◌, ◌++◌, length, drop, take, Option, Some, None, option_map, option_and_then}
use Rattle.std.specs.Prelude.{option_to_list, slice_get, slice_set}
use Rattle.serial.specs.Serial.{Serial}

-- what a call changes at a value, seen before the call, or none where it changes nothing; and the value that is left after a change is
-- taken back
pub record Undoing (V C D : Type 0) : Type 0 where
  pub change : V → C → Option D
  pub undone : V → D → V

abbrev pub undone_if : {V C D : Type 0} → Undoing V C D → V → Option D → V
undone_if u v None = v
undone_if u v (Some change) = u.undone v change

-- Taking back what a call changed leaves the value before it.
abbrev pub TakesBack : {V C R D : Type 0} → Serial V C R → Undoing V C D → Type 0
TakesBack {V} {C} s u = (v : V) (call : C) → undone_if u (s.after v call) (u.change v call) ≡ v

-- a journal is a list of changes, the earliest first: the last is taken back first
unfoldable pub undone_all : {V C D : Type 0} → Undoing V C D → V → List D → V
undone_all u v [] = v
undone_all u v (change ∷ later) = u.undone (undone_all u v later) change

-- a state that calls led to, with the journal of what they changed
pub record Journaled (V D : Type 0) : Type 0 where
  pub state : V
  pub journal : List D

-- after a call, with what it changed
abbrev pub performed : {V C R D : Type 0} → Serial V C R → Undoing V C D → Journaled V D → C → Journaled V D
performed s u j call = record { state = s.after j.state call; journal = j.journal ++ option_to_list (u.change j.state call) }

-- after calls, one after the other
unfoldable pub all_performed : {V C R D : Type 0} → Serial V C R → Undoing V C D → Journaled V D → List C → Journaled V D
all_performed s u j [] = j
all_performed s u j (call ∷ calls) = all_performed s u (performed s u j call) calls

-- the changes from a place of the journal on are taken back
abbrev pub rewound : {V C D : Type 0} → Undoing V C D → Journaled V D → ℕ → Journaled V D
rewound u j mark = record { state = undone_all u j.state (drop mark j.journal); journal = take mark j.journal }

-- Where the journal is taken back to where it was before calls, so is the state.
abbrev pub Rewinds : {V C R D : Type 0} → Serial V C R → Undoing V C D → Type 0
Rewinds {V} {C} {R} {D} s u = (j : Journaled V D) (calls : List C) → rewound u (all_performed s u j calls) (length j.journal) ≡ j

-- a journal that grew, so that taking back what was added to it leads back to the state before
pub record LeadsBack {V C D : Type 0} (u : Undoing V C D) (before now : Journaled V D) : Type 0 where
  pub more : List D
  pub grown : now.journal ≡ before.journal ++ more
  pub undone : undone_all u now.state more ≡ before.state

-- the values after a change at a place is taken back, where the place has this value
abbrev pub undone_found : {V C D : Type 0} → Undoing V C D → List V → ℕ → D → Option V → List V
undone_found u values place change None = values
undone_found u values place change (Some value) = slice_set values place (u.undone value change)

-- changes at places of a list of values
abbrev pub undoing_at_places : {V C D : Type 0} → Undoing V C D → Undoing (List V) (ℕ × C) (ℕ × D)
undoing_at_places u = record {
  change = λ values at. option_map (λ change. (at.0, change)) (option_and_then (λ value. u.change value at.1) (slice_get values at.0));
  undone = λ values at. undone_found u values at.0 at.1 (slice_get values at.0);
}
