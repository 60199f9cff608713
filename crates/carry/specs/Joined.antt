-- The objects of a next document, with those of a first one carried into it.
use Rattle.std.specs.Prelude.{ℕ, ◌+◌, max, Bool, List, [], ◌∷◌, ◌++◌, Option, Some, None, option_and_then, option_map, unwrap_or, slice_get}
use Rattle.std.specs.Prelude.{if◌then◌else◌}
use Rattle.std.specs.Str.{bytes_eq}
use Rattle.objects.specs.Entries.{State}
use Rattle.objects.specs.Objects.{kind_of_value}
use Rattle.objects.specs.declared.kind.Value.{Value}
use Rattle.meaning.specs.Batch.{final_state}
use Rattle.meaning.specs.Words.{Naming}
use Rattle.vocabulary.specs.Words.{kind_text}
use Rattle.batch.specs.Names.{Texts, names_of}
use Rattle.doc_tree.specs.Scope.{Table, is_listed, place_of}
use Rattle.doc_tree.specs.Spelled.{Document}
use Rattle.carry.specs.Carried.{carried_version, object_text}
use Rattle.carry.specs.declared.starts.NamedObjects.{NamedObjects}
use Rattle.carry.specs.declared.starts.Start.{Start}

-- objects by place, with the texts of what they number
pub record Named : Type 0 where
  pub texts : Texts
  pub values : State

-- an object that a document starts with: its place and its value among those that it is taken from, and their names
pub record StartOf : Type 0 where
  pub names : Naming
  pub place : ℕ
  pub value : Value

abbrev pub named_view : NamedObjects → Named
named_view named = record { texts = named.names.now; values = named.objects.now }

abbrev pub start_view : Start → StartOf
start_view start = record { names = names_of start.names.now; place = start.place; value = start.value.now }

abbrev pub value_of : StartOf → Value
value_of start = start.value

abbrev pub name_of : StartOf → List ℕ
name_of start = start.names.object start.place

abbrev pub object_text_of : StartOf → List ℕ
object_text_of start = object_text start.names start.place start.value

-- the object at a place, with this value
abbrev pub start_of : Named → ℕ → Value → StartOf
start_of named place v = record { names = names_of named.texts; place = place; value = v }

abbrev pub start_at : Named → ℕ → Option StartOf
start_at named place = option_map (start_of named place) (slice_get named.values place)

-- the object of that name
abbrev pub ended : Named → List ℕ → Option StartOf
ended named name = option_and_then (start_at named) (place_of name named.texts.objects)

-- the objects of the next from a place on, each as the first has that of its name, or else as the next has it
abbrev pub own : Named → Named → ℕ → State → List StartOf
own first next place [] = []
own first next place (v ∷ values) =
    unwrap_or (ended first ((names_of next.texts).object place)) (start_of next place v) ∷ own first next (place + 1) values

-- the objects of the first from a place on that have none of these names
abbrev pub added : Named → Table → ℕ → State → List StartOf
added first known place [] = []
added first known place (v ∷ values) =
    if is_listed ((names_of first.texts).object place) known then added first known (place + 1) values
    else start_of first place v ∷ added first known (place + 1) values

-- the objects of the next, as the first has them where it does, and then those that the first has alone
abbrev pub joined : Named → Named → List StartOf
joined first next = own first next 0 next.values ++ added first next.texts.objects 0 first.values

abbrev pub are_of_one_kind : Value → Value → Bool
are_of_one_kind v w = bytes_eq (kind_text (kind_of_value v)) (kind_text (kind_of_value w))

-- the first place, from one on, at which objects and starts have two kinds
abbrev pub first_clash : ℕ → State → List StartOf → Option ℕ
first_clash place [] starts = None
first_clash place (v ∷ values) [] = None
first_clash place (v ∷ values) (start ∷ starts) =
    if are_of_one_kind v start.value then first_clash (place + 1) values starts else Some place

-- the objects that a next document starts with, where those at the end of a first are carried into it
abbrev pub starts_into : Document → Document → List StartOf
starts_into first next = joined (record { texts = first.texts; values = final_state first.start first.transactions })
    (record { texts = next.texts; values = next.start })

-- the version of a next document into which a first one is carried
abbrev pub version_into : Document → Document → ℕ
version_into first next = carried_version (max first.version next.version)
