use Rattle.std.proofs.Common.{length, sym, ap, subst, arith}
use Rattle.std.specs.List.{All}
use Rattle.rounds.specs.Windows.{IsValid, AreMissing}
use Rattle.rounds.proofs.WindowLemmas.{missing_inside, none_left}
use Rattle.rounds.proofs.window.Window.make_missing.Goals as goal

pub make-requires-clause-places : goal.make-requires-clause-places
make-requires-clause-places g c κs lives k d lt =
    let missing = subst (AreMissing c.args.self.now c.args.from c.args.end) (sym c.deref.ensures.value) c.in_ok-numbers.ensures.missing in
    let inside = missing_inside c.args.self.now c.args.from c.args.end c.deref.result.now missing k d lt in
    let low = inside.0 in
    let high = inside.1 in
    let end = c.requires.places.1 in
    (low, omega arith)

pub make-requires-clause-few : goal.make-requires-clause-few
make-requires-clause-few g c κs lives =
    let missing = c.in_ok-numbers.ensures.missing.few in
    let size = ap length c.deref.ensures.value in
    let end = c.requires.places.1 in
    omega (arith, missing, size, end, c.requires.window.within, c.args.job.now.batch.now.is_batch.few_transactions)

pub returns-clause-valid : goal.returns-clause-valid
returns-clause-valid g c =
    none_left c.args.from c.args.self.now c.make.new.self c.args.from c.args.end c.in_ok-numbers.numbers.items c.requires.window.begun
    c.in_ok-numbers.ensures.missing c.in_ok-passing.ensures.grown
    (subst (All (IsValid c.make.new.self)) c.deref.ensures.value c.in_ok-passing.ensures.valid)
