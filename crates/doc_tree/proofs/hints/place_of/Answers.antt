use Rattle.std.proofs.Common.{rules}
use Rattle.doc_tree.proofs.TableLemmas.{is_listed-keys, place_of-keys}
use Rattle.doc_tree.proofs.hints.place_of.Goals as goal

pub returns-clause-place : goal.returns-clause-place
returns-clause-place c = search (rules, place_of-keys)

pub returns-clause-listed : goal.returns-clause-listed
returns-clause-listed c = search (rules, is_listed-keys)
