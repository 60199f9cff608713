-- Runs of parallel children that were made ahead, on the state at their step's entry. No public contract names it.
use Rattle.std.specs.Prelude.{◌≡◌, List, [], ◌∷◌, ◌++◌, ⊤}
use Rattle.std.specs.List.{All}
use Rattle.objects.specs.declared.entry.Entry.{Entry}
use Rattle.meaning.specs.declared.held.Held.{Held}
use Rattle.objects.specs.Entries.{State, AreLegal, AllCommute, after}
use Rattle.batch.specs.Views.{Tried, subaction_view}
use Rattle.batch.specs.Running.{CanTryHere, acted}
use Rattle.batch.specs.declared.tree.Subaction.{Subaction}
use Rattle.committed.specs.Summaries.{entries_of, IsSummary}
use Rattle.intentions.specs.Levels.{Intentions, opened, absorbed}
use Rattle.speculate.specs.declared.ahead.Ahead.{Ahead}
use Rattle.batch.specs.Shows.{ShowsTried}
use Rattle.batch.specs.declared.tried.Tried as executed
use Rattle.speculate.specs.Running.{in_view}

-- each of the children can be tried here
abbrev pub CanAllTry : List Subaction → List Held → State → Type 0
CanAllTry children held state = All (λ child. CanTryHere (subaction_view child) held state) children

-- what a child did in a view of its own of this state, with all its entries, a summary of them, and its net
abbrev pub IsRunAhead : Tried → List Held → State → Ahead → Type 0
IsRunAhead child held state run =
    ShowsTried in_view child (acted child held state) run.tried (opened state) (absorbed (opened state) run.entries.items run.net.items)
    × IsSummary (entries_of run.summary.items) run.entries.items

-- each of these runs is that of the child at its place
abbrev pub AreRunAhead : List Subaction → List Held → State → List Ahead → Type 0
AreRunAhead children held state [] = ⊤
AreRunAhead [] held state (run ∷ runs) = ⊥
AreRunAhead (child ∷ children) held state (run ∷ runs) = IsRunAhead (subaction_view child) held state run
    × AreRunAhead children held state runs

-- the entries are legal in one state and lead to the other
abbrev pub Leads : State → List Entry → State → Type 0
Leads from entries to = AreLegal from entries × (to ≡ after from entries)

-- the child was run on a state from which these entries have led here
pub record IsRunBefore (child : Tried) (held : List Held) (since : List Entry) (state : State) (run : Ahead) : Type 0 where
  pub from : State
  pub leads : Leads from since state
  pub ahead : IsRunAhead child held from run

-- the run was taken in, as each of its entries commutes forward with all that earlier siblings left
pub record IsKept (run : Ahead) (since : List Entry) (before : Intentions) (done : executed.Tried) (later : List Entry)
    (now : Intentions) : Type 0 where
  pub commute : AllCommute run.entries.items since
  pub tried : done ≡ run.tried
  pub took : now ≡ absorbed before run.entries.items run.net.items
  pub listed : later ≡ since ++ run.net.items
