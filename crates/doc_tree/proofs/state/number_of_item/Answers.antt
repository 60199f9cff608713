use Rattle.std.proofs.Common.{ap, cond, sym, ◌++◌, ◌∷◌, []}
use Rattle.doc_tree.specs.Scope.{numbers_of}
use Rattle.doc_tree.proofs.TableLemmas.{listed_text}
use Rattle.doc_tree.proofs.state.number_of_item.Goals as goal

pub returns-in-Some-clause-numbers : goal.returns-in-Some-clause-numbers
returns-in-Some-clause-numbers c =
    let numbers = numbers_of c.args.numbering.now in
    let name = c.args.name.now in
    let listed = listed_text name numbers.items c.in-Some.place c.in-Some.ensures in
    ap (λ b. record numbers { items = cond b numbers.items (numbers.items ++ name ∷ []) }) (sym listed.1)
