use Rattle.std.proofs.Common.{not, ap, ◌∙◌}
use Rattle.batch.specs.Names.{texts_of}
use Rattle.doc_tree.proofs.TableLemmas.{is_listed-contains, texts_of-insert}
use Rattle.doc_tree.proofs.state.add_text.Goals as goal

pub returns-clause-new : goal.returns-clause-new
returns-clause-new c =
    c.in_ok-new.ensures.added
    ∙ ap not (is_listed-contains c.args.text.now c.args.table.now.keys c.in_ok-from_str.field-0 c.in_ok-from_str.ensures.ok)

pub returns-clause-table : goal.returns-clause-table
returns-clause-table c =
    ap texts_of c.in_ok-new.ensures.keys
    ∙ texts_of-insert c.args.text.now c.args.table.now.keys c.in_ok-from_str.field-0 c.in_ok-from_str.ensures.ok
