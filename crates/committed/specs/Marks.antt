-- Marks: digests of entries, of which a filter says that they commute forward with all that it has.
use Rattle.std.specs.Prelude.{ℕ, ◌+◌, ◌*◌, ◌/◌, ◌%◌, ◌^◌, Option, Some, None}
use Rattle.atoms.specs.declared.item.Item.{Item}
use Rattle.objects.specs.declared.entry.Entry.{Entry}
use Rattle.committed.specs.declared.marks.Mark.{Mark}
use Rattle.conflicts.specs.Classes.{class_of, class_number, conflicts_of}
use Rattle.conflicts.specs.Items.{operation_item}

-- a number of an item, 0 where there is none
abbrev pub item_number : Option Item → ℕ
item_number None = 0
item_number (Some x) = x.0 + 1

-- a hash of an object and item
unfoldable pub hash_of : ℕ → Option Item → ℕ
hash_of object item = ((((object * 11400714819323198485) % 2 ^ 64 + item_number item) % 2 ^ 64) * 15485907386658061715) % 2 ^ 64 / 2 ^ 32

-- the mark of an entry
abbrev pub mark_of : Entry → Mark
mark_of e = record {
  of_object = hash_of e.object None;
  of_item = hash_of e.object (operation_item e.call e.reply);
  class = 2 ^ class_number (class_of e.call e.reply);
  conflicts = conflicts_of (class_of e.call e.reply);
}
