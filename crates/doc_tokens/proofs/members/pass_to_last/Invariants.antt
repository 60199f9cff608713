use Rattle.std.proofs.Common.{◌≡◌, ◌<◌, length, Some}
use Rattle.serde_json.specs.Data.{Data, Members, no_members}
use Rattle.serde_json.specs.Find.{get_member}
use Rattle.doc_tokens.specs.Passed.{HasLeft}
use Rattle.doc_tokens.proofs.members.pass_to_last.Given as goal

-- the name still comes so often
abbrev pub invariant-members : goal.invariant-members
invariant-members l =
    (ms : Members) (v : Data) → HasLeft l.name l.times no_members l.initial.reader ms → get_member l.name ms ≡ Some v
    → (found : Members) × HasLeft l.name l.left found l.reader ms × (0 < l.left)

abbrev pub decreases-members : goal.decreases-members
decreases-members l = length l.reader
