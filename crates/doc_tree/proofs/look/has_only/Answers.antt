use Rattle.std.proofs.Common.{List, ℕ, map, false, sym, ap, ◌∙◌}
use Rattle.std.specs.Option.{option_map_or}
use Rattle.doc_tree.specs.Look.{members_among}
use Rattle.doc_tree.proofs.Members.{members_among-keys}
use Rattle.doc_tree.proofs.look.has_only.Goals as goal

pub loop-key-init : goal.loop-key-init
loop-key-init c =
    let names : List (List ℕ) = map (λ name. name.now) c.args.names.now in
    rw (c.into_iter-key-iterator.ensures.into_iter_gives, c.keys-key-items.ensures.rest)
    (ap (λ o. option_map_or (members_among names) o false) (sym c.in-Some.ensures) ∙ members_among-keys names c.in-Some.members.now.entries)
