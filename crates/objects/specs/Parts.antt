-- Some of the objects, side by side.
use Rattle.std.specs.Prelude.{◌≡◌, ◌+◌, ℕ, List, length, take, drop, slice_get, IfSome, IsSomeAnd}
use Rattle.objects.specs.declared.kind.Value.{Value}
use Rattle.objects.specs.declared.kind.Call.{Call}
use Rattle.objects.specs.declared.entry.Entry.{Entry}
use Rattle.objects.specs.Entries.{State, after_call, AreLegal, AllHaveRoom, after}

-- the state has these values from this place on
abbrev pub IsPart : ℕ → List Value → State → Type 0
IsPart first values state = take (length values) (drop first state) ≡ values

-- this holds of the object's value, where the object is one of these
abbrev pub IfAmong : ℕ → List Value → ℕ → (Value → Type 0) → Type 0
IfAmong first values object P = (k : ℕ) → object ≡ first + k → IfSome (slice_get values k) P

-- the object is one of these, and this holds of its value
abbrev pub IsAmong : ℕ → List Value → ℕ → (Value → Type 0) → Type 0
IsAmong first values object P = (k : ℕ) × (object ≡ first + k) × IsSomeAnd (slice_get values k) P

-- where a state has the old values from this place on, it has as many there after the call, the new ones
pub record IsPerformedOn (first : ℕ) (old new : List Value) (object : ℕ) (call : Call) : Type 0 where
  pub same : length new ≡ length old
  pub each : (state : State) → IsPart first old state → IsPart first new (after_call state object call)

-- where a state has the old values from this place on, it has as many there after the entries, the new ones
pub record ArePerformedOn (first : ℕ) (old new : List Value) (entries : List Entry) : Type 0 where
  pub same : length new ≡ length old
  pub each : (state : State) → IsPart first old state → IsPart first new (after state entries)

-- the entries can be performed, one after the other, on a state that has these values from this place on
pub record CanPerformOn (first : ℕ) (values : List Value) (entries : List Entry) : Type 0 where
  pub state : State
  pub part : IsPart first values state
  pub legal : AreLegal state entries
  pub room : AllHaveRoom state entries
