-- The document of objects as they are, for the next batch to start with.
use Rattle.std.specs.Prelude.{ℕ, ◌+◌, max, List, [], ◌∷◌, ◌++◌, map, codes, Option, Some, None, nat_lt, if◌then◌else◌}
use Rattle.std.specs.Fmt.{decimal, signed_decimal}
use Rattle.std.specs.FinMap as finite_map
use Rattle.atoms.specs.declared.item.Item.{Item}
use Rattle.objects.specs.Entries.{State}
use Rattle.objects.specs.Objects.{kind_of_value, Content, Number, Signed, Set, Queue, Directory, content_of}
use Rattle.objects.specs.declared.kind.Value.{Value}
use Rattle.meaning.specs.WellFormed.{size_of}
use Rattle.meaning.specs.Words.{Naming, joined_by, members}
use Rattle.vocabulary.specs.Words.{kind_text}
use Rattle.batch.specs.Limits.{entries_in}
use Rattle.carry.specs.declared.document.Misfit.{Misfit}
use Rattle.carry.specs.declared.document.Unfit.{Unfit}
use Rattle.carry.specs.declared.document.Unfit.TheVariants.{Start, TooMany}
use Rattle.meaning.specs.declared.limits.TheConstants.{MAX_START}
use Rattle.doc_rules.specs.Limits.{limits_of}
use Rattle.carry.specs.declared.document.TheConstants.{FIRST_CARRIED}

-- the version of a document into which objects of a document of this version are carried
abbrev pub carried_version : ℕ → ℕ
carried_version version = max FIRST_CARRIED version

-- Why an object can't start a document of a version as it is, where so many entries start before it.
abbrev pub unfit_after : ℕ → ℕ → Value → Option Unfit
unfit_after version entries v =
    if nat_lt MAX_START (size_of v) then Some Start
    else if nat_lt (limits_of version).entries (entries + entries_in v) then Some TooMany
    else None

-- an object at a place that is unfit, or what is found after it
abbrev pub unfit_or : ℕ → Option Misfit → Option Unfit → Option Misfit
unfit_or place later None = later
unfit_or place later (Some unfit) = Some (record { place = place; unfit = unfit })

-- The first object that can't start a document of a version as it is, from a place on, where so many entries start before it.
abbrev pub first_unfit : ℕ → ℕ → ℕ → State → Option Misfit
first_unfit version place entries [] = None
first_unfit version place entries (v ∷ values) =
    unfit_or place (first_unfit version (place + 1) (entries + entries_in v) values) (unfit_after version entries v)

-- JSON texts and lists. Names have ASCII letters, digits and signs alone that JSON takes as they are, so that nothing is escaped.
abbrev pub quoted : List ℕ → List ℕ
quoted name = codes "\"" ++ name ++ codes "\""

abbrev pub list_text : List (List ℕ) → List ℕ
list_text texts = codes "[" ++ joined_by (codes ", ") texts ++ codes "]"

abbrev pub item_text : Naming → Item → List ℕ
item_text names x = quoted (names.item x)

abbrev pub pair_text : Naming → Item × Item → List ℕ
pair_text names pair = list_text (item_text names pair.0 ∷ item_text names pair.1 ∷ [])

-- a value as a start: members and keys in the order of their numbers, a queue from its front
abbrev pub content_json : Naming → Content → List ℕ
content_json names (Number n) = decimal n
content_json names (Signed n) = signed_decimal n
content_json names (Set s) = list_text (map (item_text names) (members s))
content_json names (Queue q) = list_text (map (item_text names) q)
content_json names (Directory d) = list_text (map (pair_text names) (finite_map.entries d))

abbrev pub start_text : Naming → Value → List ℕ
start_text names v = content_json names (content_of v)

abbrev pub object_text : Naming → ℕ → Value → List ℕ
object_text names n v =
    codes "{\"name\": " ++ quoted (names.object n) ++ codes ", \"kind\": " ++ quoted (kind_text (kind_of_value v)) ++ codes ", \"start\": "
    ++ start_text names v ++ codes "}"

-- the objects from place n on
abbrev pub object_texts : Naming → ℕ → State → List (List ℕ)
object_texts names n [] = []
object_texts names n (v ∷ values) = object_text names n v ∷ object_texts names (n + 1) values

-- what a carried document of a version begins with
abbrev pub document_head : ℕ → List ℕ
document_head version = codes "{\"ordtx\": " ++ decimal version ++ codes ",\n\"objects\": [\n"

-- the document of these objects without a transaction, an object a line
abbrev pub carried_text : ℕ → Naming → State → List ℕ
carried_text version names values =
    document_head version ++ joined_by (codes ",\n") (object_texts names 0 values)
    ++ codes "\n],\n\"transactions\": [\n]}\n"
