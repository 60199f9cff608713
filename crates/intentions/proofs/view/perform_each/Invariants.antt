use Rattle.std.proofs.Common.{◌≡◌, drop}
use Rattle.intentions.specs.Levels.{AllHaveRoom}
use Rattle.objects.specs.Entries.{after, AreLegal}
use Rattle.intentions.proofs.view.perform_each.Given as goal

abbrev pub invariant-loop-entry : goal.invariant-loop-entry
invariant-loop-entry l = record {
  legal : AreLegal l.state (drop l.entry-index l.entries);
  room : AllHaveRoom l.state (drop l.entry-index l.entries);
  leads : after l.state (drop l.entry-index l.entries) ≡ after l.initial.state l.entries;
}
