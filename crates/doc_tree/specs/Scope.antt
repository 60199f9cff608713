-- What is seen at a place of a document: the objects, the labels, and the texts that are numbered so far.
use Rattle.std.specs.Prelude.{◌≡◌, ℕ, ◌++◌, Bool, true, false, List, [], ◌∷◌, map, Option, Some, None, position, is_some, option_and_then}
use Rattle.std.specs.Prelude.{slice_get, nat_lt, if◌then◌else◌, String, string_bytes}
use Rattle.std.specs.List.{list_any, position_or_len}
use Rattle.std.specs.Map.{lookup, keys_of}
use Rattle.std.specs.Str.{bytes_eq}
use Rattle.std.specs.declared.alloc.Global.{Global}
use Rattle.objects.specs.declared.kind.Kind.{Kind}
use Rattle.objects.specs.Entries.{kinds}
use Rattle.batch.specs.Names.{texts_of}
use Rattle.doc_rules.specs.declared.subject.Subject.{Subject}
use Rattle.doc_tree.specs.declared.declared.Declared.{Declared}
use Rattle.doc_tree.specs.declared.state.Numbering.{Numbering}

-- texts, each by its number
abbrev pub Table : Type 0
Table = List (List ℕ)

-- the number of a text
abbrev pub place_of : List ℕ → Table → Option ℕ
place_of text table = position (bytes_eq text) table

abbrev pub is_listed : List ℕ → Table → Bool
is_listed text table = list_any (bytes_eq text) table

-- The greatest number stands for those beyond it too. No document is long enough to have so many.
abbrev pub fit : ℕ → ℕ
fit n = if nat_lt n 4294967295 then n else 4294967295

-- the number of a text by first appearance, and the table once it has appeared
abbrev pub number_of : List ℕ → Table → ℕ
number_of text table = fit (position_or_len (bytes_eq text) table)

abbrev pub with_text : List ℕ → Table → Table
with_text text table = if is_listed text table then table else table ++ text ∷ []

-- the texts that are numbered so far
pub record Numbers : Type 0 where
  pub items : Table
  pub reasons : Table

abbrev pub no_numbers : Numbers
no_numbers = record { items = []; reasons = [] }

abbrev pub numbers_of : Numbering → Numbers
numbers_of numbering = record { items = texts_of numbering.items.keys; reasons = texts_of numbering.reasons.keys }

abbrev pub with_item : List ℕ → Numbers → Numbers
with_item name numbers = record numbers { items = with_text name numbers.items }

abbrev pub with_reason : List ℕ → Numbers → Numbers
with_reason name numbers = record numbers { reasons = with_text name numbers.reasons }

-- ---- objects

-- the version, and the objects' names and kinds by place
pub record Setting : Type 0 where
  pub version : ℕ
  pub names : Table
  pub kinds : List Kind

-- the kind of the object of that name
abbrev pub kind_named : List ℕ → Setting → Option Kind
kind_named name setting = option_and_then (slice_get setting.kinds) (place_of name setting.names)

-- of the objects that were read
abbrev pub setting_of : Declared → Setting
setting_of declared = record { version = declared.version; names = texts_of declared.names.keys; kinds = kinds declared.objects }

-- ---- labels

-- the labels that are seen, with what each is of
abbrev pub Scope : Type 0
Scope = List (List ℕ × Subject)

-- what the label is of
abbrev pub named : List ℕ → Scope → Option Subject
named name scope = lookup (bytes_eq name) scope

abbrev pub is_named : List ℕ → Scope → Bool
is_named name scope = is_some (named name scope)

-- how many labels are seen before it
abbrev pub label_number : List ℕ → Scope → ℕ
label_number name scope = fit (position_or_len (bytes_eq name) (keys_of scope))

-- with the label after the others, if there is one and it is not seen yet
abbrev pub with_label : Option (List ℕ) → Subject → Scope → Scope
with_label None subject scope = scope
with_label (Some name) subject scope = if is_named name scope then scope else scope ++ (name, subject) ∷ []

-- with each of these labels
abbrev pub with_labels : Scope → Scope → Scope
with_labels [] scope = scope
with_labels (label ∷ labels) scope = with_labels labels (with_label (Some label.0) label.1 scope)

abbrev pub scope_of : List (String Global × Subject) → Scope
scope_of labels = map (λ label. (string_bytes label.0, label.1)) labels

-- the same labels, and perhaps more after them
abbrev pub Extends : Scope → Scope → Type 0
Extends old new = (more : Scope) × (new ≡ old ++ more)

-- none of the labels is seen
abbrev pub AreUnseen : Scope → Scope → Type 0
AreUnseen labels scope = (name : List ℕ) → is_named name labels ≡ true → is_named name scope ≡ false
