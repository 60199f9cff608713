-- A document that is read in ranges of its text, one after the other.
use Rattle.std.specs.Prelude.{◌≡◌, ◌≤◌, ◌+◌, ℕ, List, [], ◌∷◌, ◌++◌, length, false, true}
use Rattle.json.specs.Token.{Token, begin_array, end_array, end_object}
use Rattle.serde_json.specs.Data.{Items, no_items, item}
use Rattle.serde_json.specs.Events.{items_len}
use Rattle.batch.specs.Names.{texts_of}
use Rattle.meaning.specs.Trees.{Block}
use Rattle.doc_tree.specs.Answer.{AreMet}
use Rattle.doc_tree.specs.Asked.{declared_by, names_of}
use Rattle.doc_rules.specs.Limits.{limits_of}
use Rattle.doc_tree.specs.Places.{objects_placed, seek, transactions_placed}
use Rattle.doc_tree.specs.Scope.{Numbers, Setting, numbers_of, setting_of}
use Rattle.doc_tree.specs.Spelled.{blocks_of, starts_of}
use Rattle.doc_tree.specs.declared.counts.Counts.{Counts}
use Rattle.doc_tree.specs.declared.declared.Declared.{Declared}
use Rattle.doc_rules.specs.declared.limits.TheConstants.{LAST_VERSION}
use Rattle.doc_tree.specs.declared.state.ReaderState.{ReaderState}
use Rattle.doc_cuts.specs.Whole.{is_whole}
use Rattle.doc_tokens.specs.Pulled.{ReadsItems, ReadsValue, in_order}
use Rattle.doc_tokens.specs.declared.ranges.RangeEnd.{RangeEnd}
use Rattle.doc_tokens.specs.declared.ranges.RangeEnd.TheVariants.{Transaction, Document}

-- the tokens after the transactions of a range
abbrev pub left_by : RangeEnd → List Token
left_by Transaction = []
left_by Document = end_array ∷ end_object ∷ []

-- how far transactions were read: what was counted and numbered, and what they are
pub record Reached : Type 0 where
  pub counts : Counts
  pub numbers : Numbers
  pub blocks : List Block

abbrev pub reached : ReaderState → List Block → Reached
reached state blocks = record { counts = state.counts; numbers = numbers_of state.numbering; blocks = blocks }

-- the state where the transaction of a number begins
abbrev pub at_transaction : ℕ → ReaderState → ReaderState
at_transaction n state = record state { counts = record state.counts { transaction = n } }

-- the blocks of other transactions, and their numbers, after these
abbrev pub behind : List Block → List Block × Numbers → List Block × Numbers
behind blocks rest = (blocks ++ rest.0, rest.1)

-- the items of the first before those of the second
abbrev pub in_front : Items → Items → Items
in_front no_items ds = ds
in_front (item d es) ds = item d (in_front es ds)

-- Of the tokens `old` the first make whole transactions, which lead from p to q, and `new` are left. What they are is said by what
-- they do in front of any that follow, whatever tokens come after `new`.
pub record AreRead (setting : Setting) (old new : List Token) (p q : Reached) : Type 0 where
  pub before : Items → Items
  pub front : (ds : Items) → before ds ≡ in_front (before no_items) ds
  pub reads : (later : List Token) (ds : Items) (rest : List Token) → ReadsItems 120 (new ++ later) ds rest
      → ReadsItems 120 (old ++ later) (before ds) rest
  pub met : (ds : Items) → seek p.counts (transactions_placed setting (length p.blocks) (before ds))
      ≡ seek q.counts (transactions_placed setting (length q.blocks) ds)
  pub spelled : (ds : Items) → behind p.blocks (blocks_of setting p.numbers (before ds)) ≡ behind q.blocks (blocks_of setting q.numbers ds)
  pub counted : (ds : Items) → length p.blocks + items_len (before ds) ≡ length q.blocks + items_len ds
  pub whole : is_whole true new ≡ true → is_whole true old ≡ true

-- The tokens `old` begin with the head of a document that declares this, up to the bracket before its transactions; `new` are left.
pub record IsHead (old new : List Token) (declared : Declared) (start : Counts) (numbers : Numbers) (mid : Counts) (between : Numbers)
    : Type 0 where
  pub version : ℕ
  pub known : (1 ≤ version) × (version ≤ LAST_VERSION)
  pub os : Items
  pub few : items_len os ≤ (limits_of version).objects
  pub objects : AreMet start (objects_placed version [] 0 os) mid
  pub named : texts_of declared.names.keys ≡ names_of os
  pub set : setting_of declared ≡ declared_by version os
  pub started : (declared.objects, between) ≡ starts_of version numbers os
  pub begins : (later inside : List Token) (ts : Items) (rest : List Token) → new ++ later ≡ begin_array ∷ inside
      → ReadsItems 125 inside ts (end_object ∷ rest) → ReadsValue 127 (old ++ later) (in_order version os ts) rest

-- The tokens `old` begin a document that declares this, with transactions up to q, and `left` are left of them.
pub record IsBegun (old left : List Token) (declared : Declared) (start : Counts) (numbers : Numbers) (q : Reached) : Type 0 where
  pub mid : Counts
  pub between : Numbers
  pub inside : List Token
  pub head : IsHead old (begin_array ∷ inside) declared start numbers mid between
  pub transactions : AreRead (setting_of declared) inside left (record { counts = mid; numbers = between; blocks = [] }) q
  pub whole : is_whole true left ≡ true → is_whole false old ≡ true
