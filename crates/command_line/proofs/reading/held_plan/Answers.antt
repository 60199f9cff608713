use Rattle.std.proofs.Common.{arith, sym, true≢false, rules}
use Rattle.command_line.proofs.Matches.{number_is_within}
use Rattle.command_line.proofs.reading.held_plan.Goals as goal

pub unreachable-requires : goal.unreachable-requires
unreachable-requires c =
    let workers = number_is_within 64 _ c.args.workers c.held_number-workers.result (omega arith) c.requires.default.0
    c.requires.default.1 c.requires.workers
    c.held_number-workers.ensures in
    let cut = number_is_within 1000 _ 16 c.held_number-cut.result (omega arith) (omega arith) (omega arith) c.requires.cut
    c.held_number-cut.ensures in
    absurd (true≢false (sym (c.in-None.ensures.some.1 (workers.0, workers.1, cut.0, cut.1))))

pub returns-clause-workers : goal.returns-clause-workers
returns-clause-workers c = search rules
