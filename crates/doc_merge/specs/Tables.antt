-- Tables of texts that are put together, one after the other.
use Rattle.std.specs.Prelude.{⊤, ◌≡◌, ◌<◌, ℕ, List, [], ◌∷◌, ◌++◌, Option, Some, None, false, get_or, length}
use Rattle.doc_tree.specs.Scope.{Table, is_listed, place_of}
use Rattle.doc_merge.specs.Renumbered.{merged, numbers_in}
use Rattle.doc_merge.specs.declared.tables.TextPlace.{TextPlace}

-- none of the tables has the text
abbrev pub AreWithout : List Table → List ℕ → Type 0
AreWithout [] text = ⊤
AreWithout (table ∷ tables) text = (is_listed text table ≡ false) × AreWithout tables text

-- the text is at this place of one of the tables, or in none of them
abbrev pub IsTextPlace : List Table → List ℕ → Option TextPlace → Type 0
IsTextPlace tables text None = AreWithout tables text
IsTextPlace tables text (Some at) = (at.table < length tables) × (place_of text (get_or tables at.table []) ≡ Some at.place)

-- such a place of each of these texts
abbrev pub AreTextPlaces : List Table → Table → List (Option TextPlace) → Type 0
AreTextPlaces tables [] [] = ⊤
AreTextPlaces tables (text ∷ texts) (place ∷ places) = IsTextPlace tables text place × AreTextPlaces tables texts places
AreTextPlaces tables texts places = ⊥

-- the places of the texts of each table in those before it, where these come before all
abbrev pub AreFound : List Table → List Table → List (List (Option TextPlace)) → Type 0
AreFound before [] [] = ⊤
AreFound before (table ∷ tables) (places ∷ others) = AreTextPlaces before table places × AreFound (before ++ table ∷ []) tables others
AreFound before tables places = ⊥

-- a table with others after it, one after the other, each text once
abbrev pub all_merged : Table → List Table → Table
all_merged table [] = table
all_merged table (texts ∷ tables) = all_merged (merged table texts) tables

-- the numbers of the texts of each table, where it is put after those before it
abbrev pub AreNumbered : Table → List Table → List (List ℕ) → Type 0
AreNumbered table [] [] = ⊤
AreNumbered table (texts ∷ tables) (numbers ∷ others) =
    (numbers ≡ numbers_in (merged table texts) texts) × AreNumbered (merged table texts) tables others
AreNumbered table tables numbers = ⊥

-- These tables were put together so and numbered so, and such are the places of other texts in them.
abbrev pub IsNext : Table → List (List ℕ) → Table → List (Option TextPlace) → Type 0
IsNext table numbers texts places = (tables : List Table) × (all_merged [] tables ≡ table) × AreNumbered [] tables numbers
    × AreTextPlaces tables texts places
