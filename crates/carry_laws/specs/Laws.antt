-- The laws of carrying over, as statements.
use Rattle.std.specs.Prelude.{◌≡◌, ◌<◌, ◌≤◌, ℕ, List, [], ◌++◌, length, map, None, Ok, Some}
use Rattle.objects.specs.Entries.{State}
use Rattle.meaning.specs.Words.{Naming}
use Rattle.meaning.specs.Batch.{final_state}
use Rattle.lang.specs.Reading.{Document, reading, value_of}
use Rattle.serde_json.specs.Data.{Data}
use Rattle.doc_tree.specs.Asked as asked
use Rattle.doc_tree.specs.Asked.{transactions_in}
use Rattle.doc_tree.specs.Scope.{Numbers}
use Rattle.carry.specs.Carried.{carried_text, carried_version, first_unfit}
use Rattle.carry.specs.Joined.{StartOf, first_clash, name_of, starts_into, value_of as start_value, version_into}
use Rattle.carry.specs.Transactions.{joined_text}
use Rattle.carry_laws.specs.Joined.{joined_data, names_after, spelled_starts, starts_data}
use Rattle.std.specs.Str.{IsUtf8}
use Rattle.std.specs.List.{IsDistinct}
use Rattle.std.specs.Str.{bytes_eq}
use Rattle.batch.specs.Named.{AllNamed, AllNamedValues}
use Rattle.batch.specs.Names.{AreNames, Texts, names_of}
use Rattle.carry_laws.specs.Carrying.{CanBeCarried, IsCarriedVersion, object_names}
use Rattle.doc_merge.specs.Renumbered.{renumbered}
use Rattle.carry_laws.specs.Same.{AreSame, AreSameStarts}
use Rattle.doc_rules.specs.Limits.{limits_of}

-- The document is of this version, starts with the same objects under the same names, and has no transaction.
pub record StartsWith (version : ℕ) (names : Naming) (values : State) (document : Document) : Type 0 where
  pub is_of : document.version ≡ version
  pub objects : AreSame names values (names_of document.texts) document.start
  pub named : document.texts.objects ≡ object_names names 0 values
  pub no_transactions : document.transactions ≡ []

-- What is printed of objects that can be carried is read as a document of this version that starts with them.
abbrev pub CarriedLaw : Type 0
CarriedLaw = (version : ℕ) (names : Naming) (values : State) → IsCarriedVersion version → CanBeCarried version names values
    → (document : Document) × (reading (carried_text version names values) ≡ Ok document) × StartsWith version names values document

abbrev pub AreDistinctNames : ℕ → List (List ℕ) → Type 0
AreDistinctNames version texts = AreNames version texts × IsDistinct bytes_eq texts

-- Objects can be carried over under the texts of a batch, where each object and each item has a text of its own.
abbrev pub NamedLaw : Type 0
NamedLaw = (version : ℕ) (texts : Texts) (values : State) → AreDistinctNames version texts.objects → AreDistinctNames version texts.items
    → length texts.objects ≡ length values → AllNamedValues texts values → length values ≤ (limits_of version).objects
    → first_unfit version 0 0 values ≡ None
    → CanBeCarried version (names_of texts) values

-- the objects with which it ends
abbrev pub end_of : Document → State
end_of document = final_state document.start document.transactions

-- what is printed of them
abbrev pub end_text : Document → List ℕ
end_text document = carried_text (carried_version document.version) (names_of document.texts) (end_of document)

-- Where the objects with which a document ends may all start, what is printed of them is read as a document that starts with them.
abbrev pub CarriedEndLaw : Type 0
CarriedEndLaw = (bytes : List ℕ) (document : Document) → reading bytes ≡ Ok document
    → first_unfit (carried_version document.version) 0 0 (end_of document) ≡ None
    → (next : Document) × (reading (end_text document) ≡ Ok next)
    × StartsWith (carried_version document.version) (names_of document.texts) (end_of document) next

-- what is printed of a next document with the objects at the end of a first
abbrev pub text_into : Document → Document → List ℕ → List ℕ
text_into document next_document next = joined_text (version_into document next_document) (starts_into document next_document) next

-- these objects may all start a document of that version
abbrev pub MayStart : Document → Document → Type 0
MayStart document next_document =
    first_unfit (version_into document next_document) 0 0 (map start_value (starts_into document next_document)) ≡ None

-- Two documents are read, and the objects with which the first ends may start the next. Then what is printed is the value of the
-- next with these starts: its transactions are the next's.
abbrev pub JoinedLaw : Type 0
JoinedLaw = (first next : List ℕ) (document next_document : Document) → reading first ≡ Ok document → reading next ≡ Ok next_document
    → MayStart document next_document → IsUtf8 (text_into document next_document next)
    → (d : Data) × (value_of next ≡ Some d) × (value_of (text_into document next_document next)
    ≡ Some (joined_data (version_into document next_document) (starts_into document next_document) (transactions_in d)))

-- what is spelled of its objects
abbrev pub spelled_into : Document → Document → State × Numbers
spelled_into document next_document = spelled_starts (version_into document next_document) (starts_into document next_document)

-- What is spelled of its objects are these starts, under the same names.
abbrev pub JoinedStartsLaw : Type 0
JoinedStartsLaw = (first next : List ℕ) (document next_document : Document) → reading first ≡ Ok document
    → reading next ≡ Ok next_document → MayStart document next_document
    → (asked.names_of (starts_data (starts_into document next_document)) ≡ map name_of (starts_into document next_document))
    × AreSameStarts (starts_into document next_document) (names_after (spelled_into document next_document).1)
    (spelled_into document next_document).0

-- The starts may start the next document in a version, whose objects are these: an object of both is of one kind, and the text
-- isn't too long.
pub record MayBeJoined (version : ℕ) (next : List ℕ) (objects : State) (starts : List StartOf) : Type 0 where
  pub one_kind : first_clash 0 objects starts ≡ None
  pub few : length starts ≤ (limits_of version).objects
  pub fit : first_unfit version 0 0 (map start_value starts) ≡ None
  pub short : length (joined_text version starts next) ≤ (limits_of version).bytes
  pub utf8 : IsUtf8 (joined_text version starts next)

-- The document is of this version, and has these starts and the transactions of the next, where each item has the number of its
-- text. The next's objects come first, so that each transaction is about the objects that it was about.
pub record IsNextWith (version : ℕ) (starts : List StartOf) (next : Document) (items : ℕ → ℕ) (document : Document) : Type 0 where
  pub is_of : document.version ≡ version
  pub named : document.texts.objects ≡ map name_of starts
  pub places : (others : List (List ℕ)) × (document.texts.objects ≡ next.texts.objects ++ others)
  pub objects : AreSameStarts starts (names_of document.texts) document.start
  pub transactions : document.transactions ≡ map (renumbered items (λ reason. reason)) next.transactions
  -- each item that they name has a text, and that is the one it had
  pub have_texts : AllNamed document.texts document.transactions
  pub item_texts : (i : ℕ) → items i < length document.texts.items
      → (names_of document.texts).item (record { 0 = items i }) ≡ (names_of next.texts).item (record { 0 = i })
  pub reason_texts : document.texts.reasons ≡ next.texts.reasons

-- What is printed of two documents, the first of which is carried into the next, is read as the next with the objects at the end of
-- the first.
abbrev pub JoinedReadLaw : Type 0
JoinedReadLaw = (first next : List ℕ) (document next_document : Document) → reading first ≡ Ok document
    → reading next ≡ Ok next_document
    → MayBeJoined (version_into document next_document) next next_document.start (starts_into document next_document)
    → (joined : Document) × (items : ℕ → ℕ) × (reading (text_into document next_document next) ≡ Ok joined)
    × IsNextWith (version_into document next_document) (starts_into document next_document) next_document items joined
