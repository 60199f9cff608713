use Rattle.std.proofs.Common.{length, sym, ap, ◌∙◌}
use Rattle.std.specs.FinMap as map
use Rattle.atoms.specs.Item.{item_cmp}
use Rattle.atoms.proofs.Items.{items_total, items_antisymmetric}
use Rattle.atoms.proofs.SortedLemmas.{entries-sorted}
use Rattle.atoms.proofs.directory.Directory.len.Goals as goal

pub returns : goal.returns
returns c =
    let entries = c.self.inside.entries.entries in
    c.len.ensures.len
    ∙ ap length (sym (entries-sorted item_cmp items_total items_antisymmetric entries c.len.ensures.ordered))
    ∙ sym (map.len-entries (map.from_entries {R = item_cmp} entries))
    ∙ ap map.len c.self.view_is
