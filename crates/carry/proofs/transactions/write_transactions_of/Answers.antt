use Rattle.std.proofs.Common.{ap, sym, ◌∙◌}
use Rattle.std.specs.Prelude.{option_map}
use Rattle.json.specs.Value.{items_view, value_view}
use Rattle.carry.proofs.Reading.{member_numbers}
use Rattle.carry.proofs.transactions.write_transactions_of.Goals as goal

pub write_items-requires : goal.write_items-requires
write_items-requires c =
    member_numbers (value_view c.args.tree.now) (items_view c.in-Some.transactions.now.items) c.requires
    (sym c.transactions_of.ensures ∙ ap (option_map (λ list. items_view list.now.items)) c.in-Some.is)
