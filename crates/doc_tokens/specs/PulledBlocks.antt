-- What was read of a block from its tokens: of the tokens `old` the first make a value, and `new` are left. What is asked of the value is
-- met from the state p on, up to the state q, and the value spells what was read. No public contract names it.
use Rattle.std.specs.Prelude.{◌≡◌, ◌+◌, ◌*◌, ℕ, List, Option, None, Some, map, true}
use Rattle.json.specs.Token.{Token}
use Rattle.serde_json.specs.Data.{Data, Items, Members, no_members}
use Rattle.meaning.specs.Trees as tree
use Rattle.batch.specs.Views.{block_view, handler_view, step_view, subaction_view}
use Rattle.batch.specs.declared.tree.Block.{Block}
use Rattle.batch.specs.declared.tree.Handler.{Handler}
use Rattle.batch.specs.declared.tree.Step.{Step}
use Rattle.batch.specs.declared.tree.Subaction.{Subaction}
use Rattle.doc_tree.specs.declared.counts.Counts.{Counts}
use Rattle.doc_tree.specs.declared.declared.Declared.{Declared}
use Rattle.doc_tree.specs.declared.state.ReaderState.{ReaderState}
use Rattle.doc_tree.specs.declared.steps.Sort.TheVariants.{Sub}
use Rattle.doc_tree.specs.Answer.{AreMet, IsMet}
use Rattle.doc_tree.specs.Asked.{label_asked, label_in, labels_of, scope_after, sort_of}
use Rattle.doc_tree.specs.Places.{Places, block_placed, block_placed_if, children_placed, handlers_placed, members_placed, step_placed}
use Rattle.doc_tree.specs.Places.{steps_placed, sub_placed}
use Rattle.doc_tree.specs.Scope.{AreUnseen, Extends, Numbers, Scope, numbers_of, scope_of, setting_of}
use Rattle.doc_tree.specs.Spelled.{Spelling, block_of, block_of_if, children_spelled, handlers_spelled, members_of, step_of, steps_spelled}
use Rattle.doc_tree.specs.Spelled.{sub_of}
use Rattle.doc_tokens.specs.Pulled.{ReadsItems, ReadsMembers, ReadsValue, are_allowed, sub_members}

-- a block within so many more levels, whose labels are no longer seen after it
pub record SpellsBlock (levels : ℕ) (declared : Declared) (old new : List Token) (p q : ReaderState) (block : Block) : Type 0 where
  pub value : Data
  pub reads : ReadsValue (5 * levels) old value new
  pub met : AreMet p.counts (block_placed (setting_of declared) levels (scope_of p.labels.entries) value) q.counts
  pub spelled : (block_view block, numbers_of q.numbering)
      ≡ block_of (setting_of declared) levels (scope_of p.labels.entries) (numbers_of p.numbering) value
  pub scope : scope_of q.labels.entries ≡ scope_of p.labels.entries

-- a step that nests no deeper than k and has blocks within so many more levels
pub record SpellsStep (k levels : ℕ) (declared : Declared) (old new : List Token) (p q : ReaderState) (step : Step) : Type 0 where
  pub value : Data
  pub reads : ReadsValue k old value new
  pub met : AreMet p.counts
      (step_placed (block_placed (setting_of declared) levels) (setting_of declared) (scope_of p.labels.entries) value) q.counts
  pub spelled : (step_view step, numbers_of q.numbering) ≡ step_of (block_of (setting_of declared) levels) (setting_of declared)
      (scope_of p.labels.entries) (numbers_of p.numbering) value
  pub scope : scope_of q.labels.entries ≡ scope_after (setting_of declared) (scope_of p.labels.entries) value

-- a step that has no blocks
pub record SpellsPlainStep (k : ℕ) (declared : Declared) (old new : List Token) (p q : ReaderState) (step : Step) : Type 0 where
  pub value : Data
  pub reads : ReadsValue k old value new
  pub met : (places : Places) → AreMet p.counts (step_placed places (setting_of declared) (scope_of p.labels.entries) value) q.counts
  pub spelled : (block : Spelling) → (step_view step, numbers_of q.numbering)
      ≡ step_of block (setting_of declared) (scope_of p.labels.entries) (numbers_of p.numbering) value
  pub scope : scope_of q.labels.entries ≡ scope_after (setting_of declared) (scope_of p.labels.entries) value

-- the steps of a block from an index on, up to the end of their array: each sees the labels of those before it
pub record SpellsSteps (i levels : ℕ) (declared : Declared) (old new : List Token) (p q : ReaderState) (steps : List Step) : Type 0 where
  pub value : Items
  pub reads : ReadsItems (5 * levels + 4) old value new
  pub met : AreMet p.counts
      (steps_placed (block_placed (setting_of declared) levels) (setting_of declared) (scope_of p.labels.entries) i value) q.counts
  pub spelled : (map step_view steps, numbers_of q.numbering) ≡ steps_spelled (block_of (setting_of declared) levels) (setting_of declared)
      (scope_of p.labels.entries) (numbers_of p.numbering) value
  pub extends : Extends (scope_of p.labels.entries) (scope_of q.labels.entries)

-- a subaction or a child with this label, which was not yet looked at
pub record SpellsSub (levels : ℕ) (declared : Declared) (old new : List Token) (p q : ReaderState) (sub : Subaction)
    (label : Option (List ℕ)) : Type 0 where
  pub value : Data
  pub reads : ReadsValue (5 * levels + 2) old value new
  pub met : (earlier : Scope)
      → IsMet q.counts (label_asked declared.version (scope_of p.labels.entries) earlier (label_in value)) q.counts
      → AreMet p.counts (sub_placed declared.version (block_placed (setting_of declared) levels) (scope_of p.labels.entries) earlier value)
      q.counts
  pub spelled : (subaction_view sub, numbers_of q.numbering)
      ≡ sub_of (block_of (setting_of declared) levels) (scope_of p.labels.entries) (numbers_of p.numbering) value
  pub named : label ≡ label_in value
  pub sort : sort_of value ≡ Some Sub
  pub scope : scope_of q.labels.entries ≡ scope_of p.labels.entries

-- the children from an index on, up to the end of their array. Their labels come after those of the children before them. That none of
-- all these labels was seen before the children was not yet looked at.
pub record SpellsChildren (i levels : ℕ) (declared : Declared) (old new : List Token) (before after : Scope) (p q : ReaderState)
    (children : List Subaction) : Type 0 where
  pub value : Items
  pub reads : ReadsItems (5 * levels + 2) old value new
  pub met : AreUnseen after (scope_of p.labels.entries) → AreMet p.counts (children_placed declared.version
      (block_placed (setting_of declared) levels) (scope_of p.labels.entries) before i value) q.counts
  pub spelled : (map subaction_view children, numbers_of q.numbering)
      ≡ children_spelled (block_of (setting_of declared) levels) (scope_of p.labels.entries) (numbers_of p.numbering) value
  pub labels : after ≡ labels_of before value
  pub scope : scope_of q.labels.entries ≡ scope_of p.labels.entries

-- the handlers by reason, up to the end of their object
pub record SpellsHandlers (levels : ℕ) (declared : Declared) (old new : List Token) (p q : ReaderState) (handlers : List Handler)
    : Type 0 where
  pub value : Members
  pub reads : ReadsMembers (5 * levels) no_members old value new
  pub met : AreMet p.counts (members_placed declared.version (block_placed (setting_of declared) levels) (scope_of p.labels.entries) value)
      q.counts
  pub spelled : (map handler_view handlers, numbers_of q.numbering)
      ≡ members_of (block_of (setting_of declared) levels) (scope_of p.labels.entries) (numbers_of p.numbering) value
  pub scope : scope_of q.labels.entries ≡ scope_of p.labels.entries

-- what comes after a subaction's body, so far: the labels of this scope are seen there
pub record SubTail (levels : ℕ) (declared : Declared) (scope : Scope) (old : List Token) (p : ReaderState)
    (handlers : Option (List (ℕ × tree.Block))) (handler : Option tree.Block) (label : Option (List ℕ)) (new : List Token) (q : ReaderState)
    : Type 0 where
  pub reasons : Option Members
  pub every : Option Data
  pub mid : Counts
  pub between : Numbers
  pub reads : (body : Data) (ms : Members) (rest : List Token)
      → ReadsMembers (5 * levels + 1) (sub_members body reasons every label) new ms rest
      → ReadsMembers (5 * levels + 1) (sub_members body None None None) old ms rest
  pub allowed : are_allowed declared.version reasons ≡ true
  pub first : AreMet p.counts (handlers_placed declared.version (block_placed (setting_of declared) levels) scope reasons) mid
  pub second : AreMet mid (block_placed_if (block_placed (setting_of declared) levels) scope every) q.counts
  pub reasons_spelled : (handlers, between)
      ≡ handlers_spelled (block_of (setting_of declared) levels) scope (numbers_of p.numbering) reasons
  pub every_spelled : (handler, numbers_of q.numbering) ≡ block_of_if (block_of (setting_of declared) levels) scope between every
  pub same : scope_of q.labels.entries ≡ scope
