-- What the text of objects needs: numbers that are small enough, and names.
use Rattle.std.proofs.Common.{◌≡◌, ℕ, ◌+◌, ◌≤◌, true, [], ◌∷◌}
use Rattle.std.specs.Prelude.{⊤}
use Rattle.std.specs.FinMap as finite_map
use Rattle.std.specs.List.{AllByRecursion}
use Rattle.atoms.specs.declared.item.Item.{Item}
use Rattle.objects.specs.Entries.{State}
use Rattle.objects.specs.declared.kind.Value.{Value}
use Rattle.objects.specs.Objects.{Content, Set, Queue, Directory, content_of}
use Rattle.meaning.specs.Words.{Naming, members}
use Rattle.batch.specs.Names.{is_name}
use Rattle.meaning.specs.declared.limits.TheConstants.{MAX_START}
use Rattle.meaning.specs.WellFormed.{content_size}

-- an item that has a name of a version
abbrev pub IsNamed : ℕ → Naming → Item → Type 0
IsNamed version names x = is_name version (names.item x) ≡ true

abbrev pub AreNamedBoth : ℕ → Naming → Item × Item → Type 0
AreNamedBoth version names pair = IsNamed version names pair.0 × IsNamed version names pair.1

-- a number that is small enough, or items that have names
abbrev pub IsWritableContent : ℕ → Naming → Content → Type 0
IsWritableContent version names (Set s) = AllByRecursion (IsNamed version names) (members s)
IsWritableContent version names (Queue q) = AllByRecursion (IsNamed version names) q
IsWritableContent version names (Directory d) = AllByRecursion (AreNamedBoth version names) (finite_map.entries d)
IsWritableContent version names c = content_size c ≤ MAX_START

abbrev pub IsWritable : ℕ → Naming → Value → Type 0
IsWritable version names v = IsWritableContent version names (content_of v)

-- the objects from place n on
abbrev pub AreWritable : ℕ → Naming → ℕ → State → Type 0
AreWritable version names n [] = ⊤
AreWritable version names n (v ∷ values) =
    (is_name version (names.object n) ≡ true) × IsWritable version names v × AreWritable version names (n + 1) values
