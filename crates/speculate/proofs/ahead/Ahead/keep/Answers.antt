use Rattle.speculate.proofs.Siblings.{stand}
use Rattle.speculate.proofs.ahead.Ahead.keep.Goals as goal

pub absorb-requires-clause-legal : goal.absorb-requires-clause-legal
absorb-requires-clause-legal c =
    let stands = stand c.args.self c.requires.summary c.args.kept.now c.deref.result.now c.len-listed.result c.in_ok-check.field-0
    c.in_ok-check.ensures.stands c.if-not-branch.false c.deref.ensures.value c.len-listed.ensures in
    rw c.deref-3.ensures.value (c.requires.legal stands)

pub absorb-requires-clause-room : goal.absorb-requires-clause-room
absorb-requires-clause-room c =
    let stands = stand c.args.self c.requires.summary c.args.kept.now c.deref.result.now c.len-listed.result c.in_ok-check.field-0
    c.in_ok-check.ensures.stands c.if-not-branch.false c.deref.ensures.value c.len-listed.ensures in
    rw c.deref-3.ensures.value (c.requires.room stands)

pub returns-clause-taken_in : goal.returns-clause-taken_in
returns-clause-taken_in c = λ done is.
    let stands = stand c.args.self c.requires.summary c.args.kept.now c.deref.result.now c.len-listed.result c.in_ok-check.field-0
    c.in_ok-check.ensures.stands c.if-not-branch.false c.deref.ensures.value c.len-listed.ensures in
    record {
      commute = stands;
      tried = cc;
      took = rw (c.deref-2.ensures.value, c.deref-3.ensures.value) at c.in_ok-absorb.ensures.ok;
      listed = rw (c.deref-4.ensures.value, c.in_ok-check.ensures.same) at c.in_ok-append.ensures.ok;
    }
