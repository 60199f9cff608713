use Rattle.std.proofs.Common.{◌≡◌, ◌≤◌, ℕ, List, ◌+◌, ◌*◌, length}
use Rattle.json.specs.Token.{Token}
use Rattle.json.specs.Json.{items, members, parse_map, value}
use Rattle.serde_json.specs.Data.{Items, Members}
use Rattle.serde_json.specs.Read.{converted, of_items, of_members}
use Rattle.serde_json.specs.View.{members_view}
use Rattle.doc_tokens.specs.Pulled.{ReadsItems, ReadsMembers}
use Rattle.doc_tokens.proofs.PulledLemmas.{items_before}
use Rattle.doc_tokens.proofs.pull.+values.Given as goal

abbrev pub decreases-pull_value : goal.decreases-pull_value
decreases-pull_value l = 3 * l.depth + 1

abbrev pub decreases-value_from : goal.decreases-value_from
decreases-value_from l = 3 * l.depth

abbrev pub decreases-pull_items : goal.decreases-pull_items
decreases-pull_items l = 3 * l.depth + 2

abbrev pub decreases-pull_members : goal.decreases-pull_members
decreases-pull_members l = 3 * l.depth + 2

-- what was read comes before any items that follow
abbrev pub invariant-pull_items-loop-alloc : goal.invariant-pull_items-loop-alloc
invariant-pull_items-loop-alloc l =
    (n : ℕ) × (length l.reader ≤ n)
    × (converted of_items (items (value l.depth) (length l.initial.reader) l.initial.reader)
    ≡ parse_map (items_before l.found.items) (converted of_items (items (value l.depth) n l.reader)))
    × ((ds : Items) (new : List Token) → ReadsItems l.depth l.reader ds new
    → ReadsItems l.depth l.initial.reader (items_before l.found.items ds) new)

abbrev pub decreases-pull_items-loop-alloc : goal.decreases-pull_items-loop-alloc
decreases-pull_items-loop-alloc l = length l.reader

abbrev pub invariant-pull_members-loop-found : goal.invariant-pull_members-loop-found
invariant-pull_members-loop-found l =
    (n : ℕ) × (length l.reader ≤ n)
    × (converted (λ js. of_members js (members_view l.initial.found.entries))
    (members (value l.depth) (length l.initial.reader) l.initial.reader)
    ≡ converted (λ js. of_members js (members_view l.found.entries)) (members (value l.depth) n l.reader))
    × ((ms : Members) (new : List Token) → ReadsMembers l.depth (members_view l.found.entries) l.reader ms new
    → ReadsMembers l.depth (members_view l.initial.found.entries) l.initial.reader ms new)

abbrev pub decreases-pull_members-loop-found : goal.decreases-pull_members-loop-found
decreases-pull_members-loop-found l = length l.reader
