-- What a block is run on. No public contract names it.
use Rattle.std.specs.Prelude.{◌≡◌, List, [], ◌++◌}
use Rattle.objects.specs.declared.entry.Entry.{Entry}
use Rattle.objects.specs.Entries.{State, after}

-- the state that it shows, and what it took in from one value to another: all entries, and those that are kept
pub record Ground (V : Type 0) : Type 1 where
  pub state : V → State
  pub Took : V → List Entry → List Entry → V → Type 0

-- what is taken in adds up, and what is kept of it leads from the one state to the other
pub record IsGround {V : Type 0} (g : Ground V) : Type 0 where
  pub none : (v : V) → g.Took v [] [] v
  pub both : (u v w : V) (es ns fs ms : List Entry) → g.Took u es ns v → g.Took v fs ms w → g.Took u (es ++ fs) (ns ++ ms) w
  pub leads : (u v : V) (es ns : List Entry) → g.Took u es ns v → g.state v ≡ after (g.state u) ns
