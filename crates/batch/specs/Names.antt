-- Names, and the texts of a batch's numbers: of each object, item and reason by its number.
use Rattle.std.specs.Prelude.{ℕ, ◌&&◌, ◌||◌, ◌==◌, Bool, IsTrue, List, [], length, map, nat_lt, nat_le, slice_index_or, string_bytes}
use Rattle.std.specs.Prelude.{String, if◌then◌else◌}
use Rattle.std.specs.List.{list_all}
use Rattle.std.specs.declared.alloc.Global.{Global}
use Rattle.meaning.specs.Words.{Naming}
use Rattle.meaning.specs.declared.limits.TheConstants.{MAX_NAME}

abbrev pub is_between : ℕ → ℕ → ℕ → Bool
is_between low high x = nat_le low x && nat_le x high

-- versions of documents whose names are long, and may have signs
abbrev pub has_long_names : ℕ → Bool
has_long_names version = nat_le 5 version

-- ASCII letters, digits, `_` and `-`
abbrev pub is_plain_byte : ℕ → Bool
is_plain_byte x = is_between 48 57 x || is_between 65 90 x || is_between 97 122 x || x == 95 || x == 45

-- `#`, `%`, `+`, `.`, `/`, `:` and `@`
abbrev pub is_sign_byte : ℕ → Bool
is_sign_byte x = x == 35 || x == 37 || x == 43 || is_between 46 47 x || x == 58 || x == 64

abbrev pub is_name_byte : ℕ → ℕ → Bool
is_name_byte version x = is_plain_byte x || has_long_names version && is_sign_byte x

-- how many bytes a name of a version has at most
abbrev pub most_name_bytes : ℕ → ℕ
most_name_bytes version = if has_long_names version then MAX_NAME else 32

-- a name in a document of a version
unfoldable pub is_name : ℕ → List ℕ → Bool
is_name version s = nat_lt 0 (length s) && nat_le (length s) (most_name_bytes version) && list_all (is_name_byte version) s

abbrev pub AreNames : ℕ → List (List ℕ) → Type 0
AreNames version texts = IsTrue (list_all (is_name version) texts)

pub record Texts : Type 0 where
  pub objects : List (List ℕ)
  pub items : List (List ℕ)
  pub reasons : List (List ℕ)

abbrev pub texts_of : List (String Global) → List (List ℕ)
texts_of names = map (λ name. string_bytes name) names

-- a number that has no name has the empty text
abbrev pub names_of : Texts → Naming
names_of texts = record {
  object = λ object. slice_index_or texts.objects object [];
  item = λ item. slice_index_or texts.items item.0 [];
  reason = λ reason. slice_index_or texts.reasons reason [];
}
