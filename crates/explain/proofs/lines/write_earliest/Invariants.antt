use Rattle.std.proofs.Common.{◌≡◌, string_bytes}
use Rattle.std.specs.List.{All}
use Rattle.objects.specs.Entries.{CommuteForward}
use Rattle.batch.specs.Names.{names_of}
use Rattle.batch.specs.Parts.{start_of, blocks_of}
use Rattle.explain.specs.Why.{placed_nets}
use Rattle.explain.proofs.lines.write_earliest.Given as goal

abbrev pub invariant-loop-index : goal.invariant-loop-index
invariant-loop-index l = record {
  text : string_bytes l.out ≡ string_bytes l.fn.out;
  none : All (λ p. CommuteForward l.late p.entry)
      (placed_nets (names_of l.at.batch.now.names) (start_of l.at.batch.now) (blocks_of l.at.batch.now) l.at.opened l.at.opened l.index);
}
