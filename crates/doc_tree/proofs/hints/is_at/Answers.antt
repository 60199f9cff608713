use Rattle.std.proofs.Common.{sym, ◌∙◌}
use Rattle.doc_tree.proofs.TableLemmas.{place_of_key}
use Rattle.doc_tree.proofs.hints.is_at.Goals as goal

pub returns-in-Some-clause-place : goal.returns-in-Some-clause-place
returns-in-Some-clause-place c is =
    let found = rw c.as_slice.ensures.keys at c.in-Some.ensures.lookup in
    place_of_key c.args.name.now c.args.names.now.keys c.args.place c.in-Some.known.now c.as_slice.ensures.unique
    (sym found.0) (sym found.1) (rw c.as_str.ensures.value at (sym c.eq.ensures ∙ is))
