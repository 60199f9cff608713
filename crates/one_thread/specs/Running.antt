-- The objects and their journal as what a block is run on. No public contract names it.
use Rattle.std.specs.Prelude.{◌≡◌}
use Rattle.objects.specs.Entries.{after}
use Rattle.batch.specs.Grounds.{Ground}
use Rattle.one_thread.specs.Journaled.{Journaled, LeadsBack}

-- what was kept is done to the objects, and the journal leads back
abbrev pub in_place : Ground Journaled
in_place = record {
  state = λ j. j.state;
  Took = λ before entries kept now. (now.state ≡ after before.state kept) × LeadsBack before now;
}
