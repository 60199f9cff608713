use Rattle.std.proofs.Common.{sym, ◌∙◌}
use Rattle.doc_tree.proofs.TableLemmas.{is_listed-keys}
use Rattle.carry.proofs.starts.is_listed.Goals as goal

pub returns-in-Some : goal.returns-in-Some
returns-in-Some c = c.in-Some.ensures.found ∙ sym (is_listed-keys c.args.name.now c.args.names.now.keys)

pub returns-in-None : goal.returns-in-None
returns-in-None c = c.in-None.ensures.found ∙ sym (is_listed-keys c.args.name.now c.args.names.now.keys)
