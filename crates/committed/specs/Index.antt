-- An index of a list of entries: for each heading, a chain of entries. No public contract names it.
use Rattle.std.specs.Prelude.{◌≡◌, ◌≢◌, ◌⊎◌, List, ℕ, ◌+◌, ◌-◌, ◌*◌, ◌^◌, ◌<◌, ◌≤◌, length, min, slice_index_or, vec_len, vec_capacity}
use Rattle.indexmap.specs.IndexMap.{index_map_len, insert_index, spare, values}
use Rattle.objects.specs.declared.entry.Entry.{Entry}
use Rattle.objects.specs.Entries.{CommuteForward}
use Rattle.committed.specs.declared.heading.Heading.{Heading}
use Rattle.committed.specs.contracts.heading.HeadingPartialEq.TheImpl as heading_eq
use Rattle.committed.specs.declared.index.Index.{Index}
use Rattle.committed.specs.declared.index.TheConstants.{MOST_LISTED}
use Rattle.committed.specs.declared.index.Link.{Link}
use Rattle.committed.specs.Headings.{heading_of, of_object}
use Rattle.conflicts.specs.Strictness.{IsAsStrict}

-- the number of a heading: how many came before it, which for a new one is how many there are
abbrev pub number_of : Index → Heading → ℕ
number_of index heading = insert_index heading_eq.ghosts.eq index.last heading

-- what is read after the end of the links
abbrev pub no_link : Link
no_link = record { heading = 0; place = 0; before = 0; span = 0; strictest = 0; skip = 0; rank = 0 }

-- the link with so many before it
abbrev pub link_at : List Link → ℕ → Link
link_at links n = slice_index_or links n no_link

-- its place
abbrev pub place_at : List Link → ℕ → ℕ
place_at links n = (link_at links n).place

-- the number of its heading
abbrev pub heading_at : List Link → ℕ → ℕ
heading_at links n = (link_at links n).heading

-- a link of a heading's chain, named by how many links there are up to it, among the first `count`; or none
abbrev pub IsEnd : List Link → ℕ → ℕ → ℕ → Type 0
IsEnd links count own found = (found ≤ count) × (0 < found → heading_at links (found - 1) ≡ own)

-- among all
abbrev pub IsInChain : List Link → ℕ → ℕ → Type 0
IsInChain links own found = IsEnd links (length links) own found

-- one of the chain that another is of
abbrev pub IsBehind : List Link → ℕ → ℕ → Type 0
IsBehind links last found = IsInChain links (heading_at links (last - 1)) found

-- the last link of a heading's chain; or none
pub record IsLastOf (links : List Link) (own found : ℕ) : Type 0 where
  pub end : IsInChain links own found
  pub after : (m : ℕ) → found ≤ m → m < length links → heading_at links m ≢ own

-- no link is of a later place
abbrev pub AreUpTo : List Link → ℕ → Type 0
AreUpTo links place = (m : ℕ) → m < length links → place_at links m ≤ place

-- what a link is to be that comes after the first `count`
pub record IsLink (links : List Link) (count : ℕ) (link : Link) : Type 0 where
  pub rising : (m : ℕ) → m < count → place_at links m ≤ link.place
  pub before : IsEnd links count link.heading link.before
  pub apart : (m : ℕ) → link.before ≤ m → m < count → heading_at links m ≢ link.heading
  pub skip : IsEnd links count link.heading link.skip
  pub span : IsEnd links count link.heading link.span

-- that comes after all
abbrev pub IsNextLink : List Link → Link → Type 0
IsNextLink links link = IsLink links (length links) link

-- one of the first `count` links is of the heading and has the place
pub record IsAmong (links : List Link) (count own place : ℕ) : Type 0 where
  pub at : ℕ
  pub within : at < count
  pub heading_is : heading_at links at ≡ own
  pub place_is : place_at links at ≡ place

-- its strictest entry is its own or one of its heading's, and as strict as its own and as those of its heading's links after `span`
pub record IsSpan (entries : List Entry) (links : List Link) (count : ℕ) (link : Link) : Type 0 where
  pub place : link.place < length entries
  pub strictest : link.strictest ≤ link.place
  pub chosen : (link.strictest ≡ link.place) ⊎ IsAmong links count link.heading link.strictest
  pub own : (d : Entry) → IsAsStrict (slice_index_or entries link.strictest d) (slice_index_or entries link.place d)
  pub others : (m : ℕ) → link.span ≤ m → m < count → heading_at links m ≡ link.heading
      → (d : Entry) → IsAsStrict (slice_index_or entries link.strictest d) (slice_index_or entries (place_at links m) d)

-- of one that comes after all
abbrev pub IsNextSpan : List Entry → List Link → Link → Type 0
IsNextSpan entries links link = IsSpan entries links (length links) link

-- each link is one of its heading's chain
abbrev pub AreLinks : List Link → Type 0
AreLinks links = (n : ℕ) → n < length links → IsLink links n (link_at links n)

-- the list has the last link of each heading's chain, by the headings' numbers
pub record AreLasts (chain : List Link) (lasts : List ℕ) : Type 0 where
  pub each : (own : ℕ) → IsLastOf chain own (slice_index_or lasts own 0)
  pub few : length lasts ≤ length chain

-- an index has the last link of each heading's chain
abbrev pub HasLasts : Index → Type 0
HasLasts index = AreLasts index.links.items (values index.last)

-- each link ends a span
abbrev pub AreSpans : List Entry → List Link → Type 0
AreSpans entries links = (n : ℕ) → n < length links → IsSpan entries links n (link_at links n)

-- the entry at the place is in the chain of the heading
pub record IsLinked (index : Index) (place : ℕ) (heading : Heading) : Type 0 where
  pub link : IsAmong index.links.items (length index.links.items) (number_of index heading) place
  pub known : number_of index heading < index_map_len index.last

-- what is so in the one index is so in the other
abbrev pub KeepsLinked : Index → Index → Type 0
KeepsLinked old new = (place : ℕ) (heading : Heading) → IsLinked old place heading → IsLinked new place heading

-- it is in the chains of its object and of its item
abbrev pub IsListed : Index → ℕ → Entry → Type 0
IsListed index place e = IsLinked index place (of_object (heading_of e)) × IsLinked index place (heading_of e)

-- so is the entry that the list has there
abbrev pub IsListedAt : Index → List Entry → ℕ → Type 0
IsListedAt index entries k = (d : Entry) → IsListed index k (slice_index_or entries k d)

-- what an index is to be
pub record IsIndexOf (entries : List Entry) (index : Index) : Type 0 where
  pub links : AreLinks index.links.items
  pub lasts : HasLasts index
  pub spans : AreSpans entries index.links.items
  pub listed : (k : ℕ) → k < index.listed → IsListedAt index entries k
  pub within : index.listed ≤ length entries
  pub most : index.listed < 2 ^ 31
  pub few : length index.links.items ≤ index.listed * 2
  pub behind : (m : ℕ) → m < length index.links.items → place_at index.links.items m < index.listed

-- of whatever entries the one is an index, the other is
abbrev pub StaysIndex : Index → Index → Type 0
StaysIndex old new = (entries : List Entry) → IsIndexOf entries old → IsIndexOf entries new

-- so many more entries can be listed
abbrev pub IndexHasRoom : Index → ℕ → Type 0
IndexHasRoom index more = (vec_len index.links + more * 2 ≤ vec_capacity index.links) × (more * 2 ≤ spare index.last)

-- the last link of a heading's chain whose place is below `upto`
pub record IsLastBelow (links : List Link) (own upto found : ℕ) : Type 0 where
  pub end : IsInChain links own found
  pub below : 0 < found → place_at links (found - 1) < upto
  pub after : (m : ℕ) → found ≤ m → m < length links → heading_at links m ≡ own → upto ≤ place_at links m

-- the entry commutes forward with each of the first `upto` that is listed under the heading
abbrev pub CommutesUnder : Index → Heading → Entry → List Entry → ℕ → Type 0
CommutesUnder index heading e entries upto = (k : ℕ) → k < upto → IsLinked index k heading → CommuteForward e (slice_index_or entries k e)

-- all entries are listed, or as many as can be
abbrev pub AreListed : List Entry → Index → Type 0
AreListed entries index = index.listed ≡ min (length entries) MOST_LISTED
