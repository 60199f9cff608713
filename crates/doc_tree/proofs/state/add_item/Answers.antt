use Rattle.std.proofs.Common.{ap, refl, ◌∙◌}
use Rattle.doc_tree.specs.Scope.{fit}
use Rattle.doc_tree.proofs.TableLemmas.{insert_index-texts, texts_of-insert}
use Rattle.doc_tree.proofs.state.add_item.Goals as goal

pub returns-clause-place : goal.returns-clause-place
returns-clause-place c = ap fit (c.in_ok-place.ensures.index
    ∙ insert_index-texts c.args.name.now c.args.numbering.now.items.keys c.in_ok-from_str.field-0 c.in_ok-from_str.ensures.ok)

pub returns-clause-numbers : goal.returns-clause-numbers
returns-clause-numbers c = rw (
  c.in_ok-place.ensures.keys,
  texts_of-insert c.args.name.now c.args.numbering.now.items.keys c.in_ok-from_str.field-0 c.in_ok-from_str.ensures.ok,
) refl
