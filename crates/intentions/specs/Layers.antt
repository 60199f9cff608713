-- Drafts of changed values over a snapshot, with one journal of their changes. No public contract names it.
use Rattle.std.specs.Prelude.{◌≡◌, ⊤, ℕ, zero, suc, ◌≤◌, List, [], ◌∷◌, length, map, take, drop, reverse, unwrap_or, vec_capacity}
use Rattle.std.specs.declared.vec.Vec.{Vec}
use Rattle.std.specs.declared.alloc.Global.{Global}
use Rattle.objects.specs.declared.kind.Value.{Value}
use Rattle.objects.specs.declared.entry.Entry.{Entry}
use Rattle.objects.specs.Entries.{after, AreLegal}
use Rattle.drafts.specs.History.{History, unchanged, undone}
use Rattle.intentions.specs.DraftTables.{Drafts}
use Rattle.intentions.specs.Levels.{AllHaveRoom}
use Rattle.intentions.specs.declared.view.NetList.{NetList}
use Rattle.intentions.specs.declared.view.NetList.TheVariants.{Entries, Own}
use Rattle.intentions.specs.Starts.{IsNested, at_starts}

-- what layers show, and what they showed at the begin of each open level, from the innermost
pub record States : Type 0 where
  pub shown : List Value
  pub begun : List (List Value)

-- what each object became: its draft, or the borrowed value with no change
abbrev pub histories : List Value → Drafts → List (History Value)
histories [] drafts = []
histories (lent ∷ snapshot) drafts = unwrap_or (drafts 0) (unchanged lent) ∷ histories snapshot (λ object. drafts (suc object))

-- the values now
abbrev pub values_now : List (History Value) → List Value
values_now hs = map (λ h. h.value) hs

-- the last change of an object taken back
abbrev pub undo_at : List (History Value) → ℕ → List (History Value)
undo_at [] object = []
undo_at (h ∷ hs) zero = undone h ∷ hs
undo_at (h ∷ hs) (suc object) = h ∷ undo_at hs object

-- changes of these objects taken back, the latest first
abbrev pub drafts_rewound : List (History Value) → List ℕ → List (History Value)
drafts_rewound hs [] = hs
drafts_rewound hs (object ∷ journal) = drafts_rewound (undo_at hs object) journal

-- the values where the journal, the object of each change, is taken back to each start, from the innermost
abbrev pub values_at : List (History Value) → List ℕ → List ℕ → List (List Value)
values_at hs [] journal = []
values_at hs (start ∷ starts) journal =
    let before = drafts_rewound hs (reverse (drop start journal)) in
    values_now before ∷ values_at before starts (take start journal)

-- what layers show of these histories, with levels that start there in the journal
abbrev pub layered : List (History Value) → List ℕ → List ℕ → States
layered hs starts journal = record { shown = values_now hs; begun = values_at hs starts journal }

-- what layers show where these entries were performed on a snapshot, with levels that start there
abbrev pub states_after : List Value → List Entry → List ℕ → States
states_after snapshot net starts = record { shown = after snapshot net; begun = at_starts (after snapshot) starts net }

-- what a view keeps: its layers show its net, each entry of which was legal and had room
pub record AreLayersOf (snapshot : List Value) (net : List Entry) (starts : List ℕ) (layers : States) : Type 0 where
  pub shows : layers ≡ states_after snapshot net starts
  pub nested : IsNested starts (length net)
  pub legal : AreLegal snapshot net
  pub room : AllHaveRoom snapshot net

-- where the net has no list of its own, the one that is kept for it is empty and has room for it
abbrev pub CanList : NetList → List Entry → Vec Entry Global → Type 0
CanList Entries entries own = (own.items ≡ []) × (length entries ≤ vec_capacity own)
CanList Own entries own = ⊤
