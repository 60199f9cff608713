-- Values with what they were before each of their changes.
use Rattle.std.specs.Prelude.{List, [], ◌∷◌, map}

-- a value, and the values before each change that was made to it, the latest first
pub record History (V : Type 0) : Type 0 where
  pub value : V
  pub before : List V

-- a value with no change
abbrev pub unchanged : {V : Type 0} → V → History V
unchanged v = record { value = v; before = [] }

-- after one more change, which led to this value
abbrev pub changed : {V : Type 0} → History V → V → History V
changed h v = record { value = v; before = h.value ∷ h.before }

abbrev pub back_to : {V : Type 0} → History V → List V → History V
back_to h [] = h
back_to h (v ∷ before) = record { value = v; before = before }

-- the last change taken back, if there is one
abbrev pub undone : {V : Type 0} → History V → History V
undone h = back_to h h.before

-- a history whose values are seen in another way
abbrev pub seen_as : {V W : Type 0} → (V → W) → History V → History W
seen_as f h = record { value = f h.value; before = map f h.before }

-- the values that are left where changes are taken back, one after the other
abbrev pub rewinding : {V D : Type 0} → (V → D → V) → V → List D → List V
rewinding undo v [] = []
rewinding undo v (change ∷ journal) = undo v change ∷ rewinding undo (undo v change) journal

-- a value with the changes that led to it, the latest first
abbrev pub journaled : {V D : Type 0} → (V → D → V) → V → List D → History V
journaled undo v journal = record { value = v; before = rewinding undo v journal }
