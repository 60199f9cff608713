-- Headings: what entries are listed under. No public contract names them.
use Rattle.std.specs.Prelude.{None, if◌then◌else◌}
use Rattle.objects.specs.declared.entry.Entry.{Entry}
use Rattle.conflicts.specs.declared.classes.Class.{Class}
use Rattle.committed.specs.declared.heading.Heading.{Heading}
use Rattle.conflicts.specs.Classes.{class_of, is_by_item}
use Rattle.conflicts.specs.Items.{operation_item}

-- what an entry is listed under
abbrev pub heading_of : Entry → Heading
heading_of e = record { object = e.object; item = operation_item e.call e.reply; class = class_of e.call e.reply }

-- a heading without its item
abbrev pub of_object : Heading → Heading
of_object heading = record { object = heading.object; item = None; class = heading.class }

-- what those entries of a class are listed under with which an entry is compared
abbrev pub heading_against : Entry → Class → Heading
heading_against e class = record {
  object = e.object;
  item = if is_by_item class then operation_item e.call e.reply else None;
  class = class;
}
