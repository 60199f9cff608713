use Rattle.std.proofs.Common.{sym}
use Rattle.batch.specs.Names.{texts_of}
use Rattle.doc_tree.proofs.TableLemmas.{listed_text}
use Rattle.doc_tree.proofs.hints.place_in.Goals as goal

pub returns-then-is_at-clause-listed : goal.returns-then-is_at-clause-listed
returns-then-is_at-clause-listed c =
    let there = listed_text c.args.name.now (texts_of c.args.names.now.keys) c.args.guess (c.is_at.ensures.place c.if-is_at.true) in
    sym there.1
