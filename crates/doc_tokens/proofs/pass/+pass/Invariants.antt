use Rattle.std.proofs.Common.{◌≡◌, ℕ, List, ◌+◌, ◌*◌, ◌≤◌, length}
use Rattle.json.specs.Token.{Token}
use Rattle.json.specs.Json.{items, members, value, parse_map}
use Rattle.serde_json.specs.Data.{Items, Members, no_members}
use Rattle.serde_json.specs.Events.{items_len}
use Rattle.serde_json.specs.Read.{of_items, of_members, converted}
use Rattle.doc_tokens.specs.Pulled.{ReadsItems, ReadsMembers}
use Rattle.doc_tree.specs.Scope.{fit}
use Rattle.doc_tokens.proofs.pass.+pass.Given as goal

abbrev pub decreases-pass_value : goal.decreases-pass_value
decreases-pass_value l = 3 * l.depth + 1

abbrev pub decreases-pass_from : goal.decreases-pass_from
decreases-pass_from l = 3 * l.depth

abbrev pub decreases-pass_items : goal.decreases-pass_items
decreases-pass_items l = 3 * l.depth + 2

abbrev pub decreases-pass_members : goal.decreases-pass_members
decreases-pass_members l = 3 * l.depth + 2

-- what was passed comes before any items that follow
abbrev pub invariant-pass_items-items : goal.invariant-pass_items-items
invariant-pass_items-items l =
    (n : ℕ) × (k : ℕ) × (before : Items → Items) × (length l.reader ≤ n)
    × (converted of_items (items (value l.depth) (length l.initial.reader) l.initial.reader)
    ≡ parse_map before (converted of_items (items (value l.depth) n l.reader)))
    × ((ds : Items) (new : List Token) → ReadsItems l.depth l.reader ds new → ReadsItems l.depth l.initial.reader (before ds) new)
    × ((ds : Items) → items_len (before ds) ≡ k + items_len ds)
    × (l.count ≡ fit k)

abbrev pub decreases-pass_items-items : goal.decreases-pass_items-items
decreases-pass_items-items l = length l.reader

abbrev pub invariant-pass_members-members : goal.invariant-pass_members-members
invariant-pass_members-members l =
    (n : ℕ) × (found : Members) × (length l.reader ≤ n)
    × (converted (λ js. of_members js no_members) (members (value l.depth) (length l.initial.reader) l.initial.reader)
    ≡ converted (λ js. of_members js found) (members (value l.depth) n l.reader))
    × ((ms : Members) (new : List Token) → ReadsMembers l.depth found l.reader ms new
    → ReadsMembers l.depth no_members l.initial.reader ms new)

abbrev pub decreases-pass_members-members : goal.decreases-pass_members-members
decreases-pass_members-members l = length l.reader
