use Rattle.std.proofs.Common.{◌≡◌, ◌++◌, ap, sym, subst, append-nil, string_bytes, ◌∙◌, rules}
use Rattle.std.specs.Prelude.{codes, OnOk}
use Rattle.json.specs.Value.{value_view}
use Rattle.meaning.specs.Words.{joined_by}
use Rattle.carry.specs.Transactions.{item_texts, transactions_of}
use Rattle.carry.proofs.Reading.{no_tree, tree_read}
use Rattle.carry.proofs.transactions.write_transactions.Goals as goal

pub returns-in-Ok : goal.returns-in-Ok
returns-in-Ok c =
    let read = tree_read c.args.document.now (value_view c.in-Ok.tree) c.in-Ok.ensures.ok.0 c.in-Ok.ensures.ok.1 in
    subst (λ tree. OnOk c.write_transactions_of.result (string_bytes c.write_transactions_of.new.out
    ≡ string_bytes c.args.out.now ++ joined_by (codes ",\n") (item_texts (transactions_of tree)))) (sym read)
    c.write_transactions_of.ensures

pub returns-in-Err-Invalid : goal.returns-in-Err-Invalid
returns-in-Err-Invalid c =
    let none = no_tree c.args.document.now (c.in-Err-Invalid.ensures.invalid (search rules)) in
    sym (ap (λ tree. string_bytes c.args.out.now ++ joined_by (codes ",\n") (item_texts (transactions_of tree))) none
    ∙ append-nil (string_bytes c.args.out.now))
