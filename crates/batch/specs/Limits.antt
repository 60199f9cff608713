-- What every batch keeps: it can be run, and it is within the limits of a document.
use Rattle.std.specs.Prelude.{◌≡◌, ℕ, suc, ◌+◌, ◌≤◌, max, List, [], ◌∷◌, length, ⊤}
use Rattle.objects.specs.declared.kind.Kind.{Kind}
use Rattle.objects.specs.declared.kind.Value.{Value}
use Rattle.objects.specs.Objects.{content_of, content_length}
use Rattle.objects.specs.Entries.{State, kinds}
use Rattle.meaning.specs.Trees.{Block, NoStep, Steps, Step, Operation, Fill, If, Subaction, Abort, Parallel, Handlers, ForReason, Otherwise}
use Rattle.meaning.specs.Trees.{GoOn, Pass, Children, NoChild, Child}
use Rattle.meaning.specs.WellFormed.{IsWellFormed, largest}
use Rattle.meaning.specs.Running.{all_operations}
use Rattle.batch.specs.Names.{AreNames, Texts}
use Rattle.batch.specs.Named.{AllNamed, AllNamedValues}
use Rattle.meaning.specs.declared.limits.TheConstants.{MAX_DEPTH, MAX_ENTRIES, MAX_NODES, MAX_OBJECTS, MAX_OPERATIONS}
use Rattle.meaning.specs.declared.limits.TheConstants.{MAX_START, MAX_TRANSACTIONS}

abbrev mutual
  -- how deep blocks are nested: 1 for a block whose steps have no blocks
  pub depth : Block → ℕ
  depth NoStep = 1
  depth (Steps step rest) = max (suc (depth_of_step step)) (depth rest)

  pub depth_of_step : Step → ℕ
  depth_of_step (Operation object call labelled) = 0
  depth_of_step (Fill object template labelled refusal) = 0
  depth_of_step (If label test then else) = max (depth then) (depth else)
  depth_of_step (Subaction body handlers labelled) = max (depth body) (depth_of_handlers handlers)
  depth_of_step (Abort reason) = 0
  depth_of_step (Parallel children) = depth_of_children children

  pub depth_of_handlers : Handlers → ℕ
  depth_of_handlers (ForReason reason handler others) = max (depth handler) (depth_of_handlers others)
  depth_of_handlers (Otherwise handler) = depth handler
  depth_of_handlers GoOn = 0
  depth_of_handlers Pass = 0

  pub depth_of_children : Children → ℕ
  depth_of_children NoChild = 0
  depth_of_children (Child body handlers labelled younger) = max (max (depth body) (depth_of_handlers handlers)) (depth_of_children younger)

abbrev mutual
  -- the number of nodes that are no operations: ifs, subactions, children, parallel steps and aborts
  pub nodes : Block → ℕ
  nodes NoStep = 0
  nodes (Steps step rest) = nodes_of_step step + nodes rest

  pub nodes_of_step : Step → ℕ
  nodes_of_step (Operation object call labelled) = 0
  nodes_of_step (Fill object template labelled refusal) = 0
  nodes_of_step (If label test then else) = 1 + nodes then + nodes else
  nodes_of_step (Subaction body handlers labelled) = 1 + nodes body + nodes_of_handlers handlers
  nodes_of_step (Abort reason) = 1
  nodes_of_step (Parallel children) = 1 + nodes_of_children children

  pub nodes_of_handlers : Handlers → ℕ
  nodes_of_handlers (ForReason reason handler others) = nodes handler + nodes_of_handlers others
  nodes_of_handlers (Otherwise handler) = nodes handler
  nodes_of_handlers GoOn = 0
  nodes_of_handlers Pass = 0

  pub nodes_of_children : Children → ℕ
  nodes_of_children NoChild = 0
  nodes_of_children (Child body handlers labelled younger) = 1 + nodes body + nodes_of_handlers handlers + nodes_of_children younger

abbrev pub all_nodes : List Block → ℕ
all_nodes [] = 0
all_nodes (block ∷ blocks) = nodes block + all_nodes blocks

-- the members, items or bindings of a value
abbrev pub entries_in : Value → ℕ
entries_in v = content_length (content_of v)

abbrev pub all_entries_in : State → ℕ
all_entries_in [] = 0
all_entries_in (v ∷ values) = entries_in v + all_entries_in values

-- each transaction is well-formed over objects of these kinds, with no label seen at its start
abbrev pub AllWellFormed : List Block → List Kind → Type 0
AllWellFormed [] ks = ⊤
AllWellFormed (block ∷ blocks) ks = IsWellFormed block [] ks × AllWellFormed blocks ks

abbrev pub AllShallow : List Block → Type 0
AllShallow [] = ⊤
AllShallow (block ∷ blocks) = (depth block ≤ MAX_DEPTH) × AllShallow blocks

-- the version of the document, the starting objects, their names, and the transactions by number
pub record IsBatch (version : ℕ) (start : State) (texts : Texts) (transactions : List Block) : Type 0 where
  -- calls fit their objects, labels are bound, and tests fit them
  pub well_formed : AllWellFormed transactions (kinds start)
  -- each object has one name, and each item and reason that is named has one
  pub named : length texts.objects ≡ length start
  pub named_starts : AllNamedValues texts start
  pub named_transactions : AllNamed texts transactions
  pub object_names : AreNames version texts.objects
  pub item_names : AreNames version texts.items
  pub reason_names : AreNames version texts.reasons
  pub few_objects : length start ≤ MAX_OBJECTS
  pub few_transactions : length transactions ≤ MAX_TRANSACTIONS
  pub few_operations : all_operations transactions ≤ MAX_OPERATIONS
  pub few_nodes : all_nodes transactions ≤ MAX_NODES
  pub shallow : AllShallow transactions
  pub few_entries : all_entries_in start ≤ MAX_ENTRIES
  pub small : largest start ≤ MAX_START
