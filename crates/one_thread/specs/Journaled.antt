-- Objects that are changed in place, with a journal of the changes. No public contract names it.
use Rattle.std.specs.Prelude.{ℕ}
use Rattle.atoms.specs.Undo as undo
use Rattle.objects.specs.Objects.{objects, objects_undoing}
use Rattle.objects.specs.declared.kind.Call.{Call}
use Rattle.objects.specs.declared.kind.Change.{Change}
use Rattle.objects.specs.Entries.{State}

-- a change names its object
abbrev pub Journaled : Type 0
Journaled = undo.Journaled State (ℕ × Change)

-- after a call, with what it changed
abbrev pub performed : Journaled → ℕ → Call → Journaled
performed j object call = undo.performed objects objects_undoing j (object, call)

-- the changes from a place of the journal on are taken back, the latest first
abbrev pub rewound : Journaled → ℕ → Journaled
rewound j mark = undo.rewound objects_undoing j mark

-- taking back what came to the journal leads back to the objects of before
abbrev pub LeadsBack : Journaled → Journaled → Type 0
LeadsBack before now = undo.LeadsBack objects_undoing before now
