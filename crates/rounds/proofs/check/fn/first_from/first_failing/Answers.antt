use Rattle.rounds.proofs.check.fn.first_from.first_failing.Goals as goal

pub stands_past-requires : goal.stands_past-requires
stands_past-requires g c = record { place = c.requires.0; upto = c.requires.3 c.args.piece c.requires.0 }
