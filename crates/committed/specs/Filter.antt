-- A filter of a list of entries: sets of the classes that they have. No public contract names it.
use Rattle.std.specs.Prelude.{◌≡◌, ◌⊎◌, List, ℕ, ◌-◌, ◌<◌, length, slice_index_or, bit_and}
use Rattle.std.specs.Int.{bit_at}
use Rattle.objects.specs.declared.entry.Entry.{Entry}
use Rattle.committed.specs.declared.filter.Filter.{Filter}
use Rattle.conflicts.specs.Classes.{class_of, class_number}
use Rattle.committed.specs.Marks.{mark_of}
use Rattle.objects.specs.Entries.{CommuteForward}

-- the place of the set of a hash among so many
abbrev pub slot_of : ℕ → ℕ → ℕ
slot_of size hash = bit_and hash (size - 1)

-- the classes that entries with the hash may have; where there is no set, all of them
abbrev pub set_in : List ℕ → ℕ → ℕ
set_in sets hash = slice_index_or sets (slot_of (length sets) hash) 65535

-- those of a filter
abbrev pub set_at : Filter → ℕ → ℕ
set_at filter hash = set_in filter.sets.items hash

-- the classes are all in the set of the hash
abbrev pub HasAllIn : List ℕ → ℕ → ℕ → Type 0
HasAllIn sets hash classes = (n : ℕ) → bit_at classes n ≡ 1 → bit_at (set_in sets hash) n ≡ 1

-- in a filter's
abbrev pub HasAll : Filter → ℕ → ℕ → Type 0
HasAll filter hash classes = HasAllIn filter.sets.items hash classes

-- the entry's class is in the sets of its hashes
pub record IsMarked (filter : Filter) (e : Entry) : Type 0 where
  pub object : HasAll filter (mark_of e).of_object (mark_of e).class
  pub item : HasAll filter (mark_of e).of_item (mark_of e).class

-- what a filter is to be: each entry is in it
abbrev pub IsFilterOf : List Entry → Filter → Type 0
IsFilterOf entries filter = (k : ℕ) (d : Entry) → k < length entries → IsMarked filter (slice_index_or entries k d)

-- two entries commute, or the set has the class of the other
abbrev pub Meets : ℕ → Entry → Entry → Type 0
Meets set e other = CommuteForward e other ⊎ (bit_at set (class_number (class_of other.call other.reply)) ≡ 1)
