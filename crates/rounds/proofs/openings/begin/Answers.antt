use Rattle.std.proofs.Common.{◌≡◌, ◌+◌, map, ap, subst, arith}
use Rattle.meaning.specs.Batch.{state_at, shown_from}
use Rattle.batch.specs.Views.{record_view}
use Rattle.meaning.specs.Rounds.{Rounds}
use Rattle.rounds.specs.Views.{start_of, blocks_of}
use Rattle.rounds.proofs.WindowLemmas.{empty_window}
use Rattle.rounds.proofs.openings.begin.Goals as goal

pub returns-clause-opening : goal.returns-clause-opening
unfolding state_at shown_from
returns-clause-opening c =
    let batch = c.args.batch.now in
    record {
      within = omega arith;
      objects = c.in_ok-copy.ensures;
      window = empty_window batch c.in_ok-copy.field-0 c.new.result c.new.ensures.first c.new.ensures.runs c.new.ensures.valid;
      cleared = c.new-2.ensures;
      committed = ap (map record_view) c.in_ok-with_capacity.ensures.items;
      few_rounds = omega arith;
      all_rounds = λ more from.
          let same : more ≡ 0 + more = omega arith in
          subst (Rounds (start_of batch) (blocks_of batch)) same from;
    }
