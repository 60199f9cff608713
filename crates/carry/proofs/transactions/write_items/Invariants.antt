use Rattle.std.proofs.Common.{◌≡◌, ◌++◌, drop, string_bytes}
use Rattle.std.specs.Prelude.{codes}
use denote.Shadow.{shadow}
use denote.Text.{Utf8}
use Rattle.json.specs.Tree.{ItemsHaveNumbers}
use Rattle.json.specs.Value.{items_view}
use Rattle.meaning.specs.Words.{joined_by}
use Rattle.report.proofs.Joined.{joined_behind}
use Rattle.carry.specs.Transactions.{item_texts}
use Rattle.carry.proofs.transactions.write_items.Given as goal

abbrev pub invariant-loop-item : goal.invariant-loop-item
invariant-loop-item l =
    shadow (Utf8 l.between)
    × ItemsHaveNumbers (items_view (drop l.item-index l.items.items))
    × (string_bytes l.out ++ joined_behind (codes ",\n") l.between (item_texts (items_view (drop l.item-index l.items.items)))
    ≡ string_bytes l.fn.out ++ joined_by (codes ",\n") (item_texts (items_view l.fn.items.items)))
