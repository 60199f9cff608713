-- An object that is read from its tokens. No public contract names it.
use Rattle.std.specs.Prelude.{ℕ, List, ◌∷◌, codes}
use Rattle.json.specs.Token.{Token, end_object}
use Rattle.serde_json.specs.Data.{Data, no_members, object, put, string}
use Rattle.serde_json.specs.View.{view}
use Rattle.doc_tokens.specs.Pulled.{ReadsValue}
use Rattle.doc_tokens.specs.declared.pull_objects.Opened.{Opened}
use Rattle.doc_tokens.specs.declared.pull_objects.Opened.TheVariants.{Common, Other}

-- an object by the keys of its first members and their texts, and by its start
abbrev pub begun_by : List ℕ → List ℕ → List ℕ → List ℕ → Data → Data
begun_by first second s t start =
    object (put (codes "start") start (put second (string t) (put first (string s) no_members)))

-- an object by the texts of its name and its kind, and by its start
abbrev pub declaration : List ℕ → List ℕ → Data → Data
declaration = begun_by (codes "name") (codes "kind")

-- The tokens `old` begin with an object: up to its start, where only texts with these keys come before it, and else all of it. `new` are
-- left.
abbrev pub IsOpenedAs : List ℕ → List ℕ → List Token → List Token → Opened → Type 0
IsOpenedAs first second old new (Common s t) = (start : Data) (rest : List Token) → ReadsValue 124 new start (end_object ∷ rest)
    → ReadsValue 125 old (begun_by first second s.now t.now start) rest
IsOpenedAs first second old new (Other value) = ReadsValue 125 old (view value) new

-- the same of its name and its kind
abbrev pub IsOpened : List Token → List Token → Opened → Type 0
IsOpened = IsOpenedAs (codes "name") (codes "kind")
