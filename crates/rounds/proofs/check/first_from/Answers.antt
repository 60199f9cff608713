use Rattle.std.proofs.Common.{rules}
use Rattle.rounds.proofs.check.first_from.Goals as goal

pub returns : goal.returns
returns g c =
    let told = c.in_ok-passed.ensures in
    record {
      within = told.within;
      clear = λ k low. let passed = told.least k low in search rules;
      conflict = λ lt stands. let failed = told.fails lt in search rules;
    }
