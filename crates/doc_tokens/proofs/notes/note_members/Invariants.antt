use Rattle.std.proofs.Common.{◌≡◌, ℕ, List, ◌≤◌, length}
use Rattle.json.specs.Token.{Token}
use Rattle.json.specs.Json.{members, value}
use Rattle.serde_json.specs.Data.{Members, no_members}
use Rattle.serde_json.specs.Read.{of_members, converted}
use Rattle.doc_tokens.specs.Passed.{IsNoted}
use Rattle.doc_tokens.specs.Pulled.{ReadsMembers}
use Rattle.doc_tokens.proofs.CountLemmas.{WrittenBefore}
use Rattle.doc_tokens.proofs.notes.note_members.Given as goal

abbrev pub invariant-members : goal.invariant-members
invariant-members l =
    (n : ℕ) × (found : Members) × (length l.reader ≤ n)
    × (converted (λ js. of_members js no_members) (members (value 126) (length l.initial.reader) l.initial.reader)
    ≡ converted (λ js. of_members js found) (members (value 126) n l.reader))
    × IsNoted l.notes found
    × ((ms : Members) (new : List Token) → ReadsMembers 126 found l.reader ms new → ReadsMembers 126 no_members l.initial.reader ms new)
    × WrittenBefore l.notes (members (value 126) (length l.initial.reader) l.initial.reader) (members (value 126) n l.reader)

abbrev pub decreases-members : goal.decreases-members
decreases-members l = length l.reader
