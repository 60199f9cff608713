-- The items that operations are about.
use Rattle.std.specs.Prelude.{◌==◌, ◌&&◌, Bool, true, false, Option, Some, None, if◌then◌else◌}
use Rattle.atoms.specs.declared.item.Item.{Item}
use Rattle.objects.specs.declared.kind.Call.{Call}
use Rattle.objects.specs.declared.kind.Reply.{Reply}
use Rattle.objects.specs.declared.entry.Entry.{Entry}
use Rattle.objects.specs.Objects.{effect_of}
use Rattle.conflicts.specs.Effects.{effect_item}
use Rattle.conflicts.specs.Classes.{class_of, is_by_item}

-- the item of an operation
abbrev pub operation_item : Call → Reply → Option Item
operation_item c r = effect_item (effect_of c r)

-- the item, where one is asked for
abbrev pub is_same_item : Option Item → Option Item → Bool
is_same_item None y = true
is_same_item (Some x) None = false
is_same_item (Some x) (Some y) = x.0 == y.0

-- the entry is compared with the other: it has its object, and its item where their class asks for one
abbrev pub is_compared : Entry → Entry → Bool
is_compared e other = (other.object == e.object)
    && is_same_item (if is_by_item (class_of other.call other.reply) then operation_item e.call e.reply else None)
    (operation_item other.call other.reply)
