-- Intentions: what a view shows, by the lists of the levels that are open.
use Rattle.std.specs.Prelude.{List, [], ◌∷◌, ◌++◌}
use Rattle.objects.specs.Entries.{after}
pub use Rattle.objects.specs.Entries.{AllHaveRoom}
use Rattle.objects.specs.declared.kind.Value.{Value}
use Rattle.objects.specs.declared.entry.Entry.{Entry}
use Rattle.intentions.specs.declared.view.NetList.{NetList}
use Rattle.intentions.specs.declared.view.NetList.TheVariants.{Entries, Own}

-- what is seen of a view
pub record Intentions : Type 0 where
  pub snapshot : List Value
  pub entries : List Entry
  -- the net of the innermost level
  pub net : List Entry
  -- the nets of the levels around it, from the inside
  pub outer : List (List Entry)

-- the nets of the levels around, the outermost first, one after the other
abbrev pub all_levels : List (List Entry) → List Entry
all_levels [] = []
all_levels (net ∷ outer) = all_levels outer ++ net

-- the state that a view shows
abbrev pub shown_values : Intentions → List Value
shown_values v = after v.snapshot (all_levels v.outer ++ v.net)

-- a view of these values with no entries
abbrev pub opened : List Value → Intentions
opened values = record { snapshot = values; entries = []; net = []; outer = [] }

-- one more entry
abbrev pub with_entry : Intentions → Entry → Intentions
with_entry v entry = record v { entries = v.entries ++ entry ∷ []; net = v.net ++ entry ∷ [] }

-- one more level
abbrev pub begun : Intentions → Intentions
begun v = record v { net = []; outer = v.net ∷ v.outer }

abbrev pub parent : List (List Entry) → List Entry
parent [] = []
parent (net ∷ outer) = net

abbrev pub parents : List (List Entry) → List (List Entry)
parents [] = []
parents (net ∷ outer) = outer

-- the innermost net at the end of its parent's
abbrev pub committed : Intentions → Intentions
committed v = record v { net = parent v.outer ++ v.net; outer = parents v.outer }

-- the innermost net dropped
abbrev pub aborted : Intentions → Intentions
aborted v = record v { net = parent v.outer; outer = parents v.outer }

-- two more lists
abbrev pub absorbed : Intentions → List Entry → List Entry → Intentions
absorbed v entries net = record v { entries = v.entries ++ entries; net = v.net ++ net }

-- the net of a run that lists it there, of its entries and of a list of its own
abbrev pub listed_by : NetList → List Entry → List Entry → List Entry
listed_by Entries entries own = entries
listed_by Own entries own = own
