use Rattle.std.proofs.Common.{sym}
use Rattle.batch.specs.Names.{texts_of}
use Rattle.doc_tree.proofs.TableLemmas.{listed_text}
use Rattle.doc_tree.proofs.operations.find.Goals as goal

pub returns-in-Some-clause-listed : goal.returns-in-Some-clause-listed
returns-in-Some-clause-listed c =
    let there = listed_text c.args.name.now (texts_of c.args.declared.now.names.keys) c.in-Some.found.0 c.in-Some.ensures.place in
    sym there.1
