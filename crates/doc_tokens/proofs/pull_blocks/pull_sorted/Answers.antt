use Rattle.std.proofs.Common.{◌≡◌, ◌*◌, subst, ap}
use Rattle.serde_json.specs.Data.{no_members}
use Rattle.serde_json.specs.View.{members_view}
use Rattle.doc_tokens.specs.Pulled.{ReadsMembers}
use Rattle.doc_tokens.proofs.pull_blocks.pull_sorted.Goals as goal

pub returns : goal.returns
returns c =
    let hs = members_view c.in_ok-members.members.entries in
    let none : members_view c.new.result.entries ≡ no_members = ap members_view c.new.ensures.empty in record {
      value = hs;
      reads = subst (λ before. ReadsMembers (5 * c.args.levels) before c.args.reader.now hs c.pull_members.new.reader) none
          c.in_ok-members.ensures.ok;
      met = c.in_ok-handlers.ensures.met;
      spelled = c.in_ok-handlers.ensures.value;
      scope = c.in_ok-handlers.ensures.labels;
    }
