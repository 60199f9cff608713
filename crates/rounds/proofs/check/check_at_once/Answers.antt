use Rattle.std.proofs.Common.{◌++◌, length, get_or, sym, ap, ◌∙◌, subst, arith}
use Rattle.std.proofs.lemmas.List.{take_all, get_or_read}
use Rattle.rounds.specs.PendingRuns.{all_left}
use Rattle.rounds.specs.Checks.{AreStarts}
use Rattle.rounds.proofs.Firsts.{front_within, first_after}
use Rattle.rounds.proofs.check.check_at_once.Goals as goal

pub first_from-requires-clause-within : goal.first_from-requires-clause-within
first_from-requires-clause-within g c κs within i lt =
    let begin = subst (AreStarts c.args.nets.now c.args.runs.now) (sym c.deref.ensures.value) c.in_ok-list_nets.ensures.starts in
    front_within c.args.nets.now c.args.runs.now i (get_or c.deref.result.now i 0) c.list.new.self
    (c.list.ensures ∙ c.in_ok-list_nets.ensures.nets) (begin.each i lt)

pub returns-then-first-runs-clause-seen : goal.returns-then-first-runs-clause-seen
returns-then-first-runs-clause-seen g c =
    let runs = c.args.runs.now in
    let begin = subst (AreStarts c.args.nets.now runs) (sym c.deref.ensures.value) c.in_ok-list_nets.ensures.starts in
    let inside = c.if-first-runs.true in
    first_after c.args.nets.now runs c.deref.result.now c.list.new.self c.in_ok-first.first c.index-upto.result.now
    (c.list.ensures ∙ c.in_ok-list_nets.ensures.nets) begin c.in_ok-first.ensures
    (get_or_read c.list_nets.new.starts.items c.in_ok-first.first c.index-upto.result.now
    (let all = c.in_ok-list_nets.ensures.starts.all in omega arith) c.index-upto.ensures 0
    ∙ c.in_ok-list_nets.ensures.starts.each c.in_ok-first.first inside)

pub returns-clause-seen : goal.returns-clause-seen
returns-clause-seen g c =
    let past = c.args.nets.now in
    let runs = c.args.runs.now in
    let begin = subst (AreStarts past runs) (sym c.deref.ensures.value) c.in_ok-list_nets.ensures.starts in
    let over = c.if-first-runs.false in
    first_after past runs c.deref.result.now c.list.new.self c.in_ok-first.first c.len-upto.result
    (c.list.ensures ∙ c.in_ok-list_nets.ensures.nets) begin c.in_ok-first.ensures
    (c.len-upto.ensures ∙ (ap length (c.list.ensures ∙ c.in_ok-list_nets.ensures.nets)
    ∙ ap (λ rs. length (past ++ all_left rs)) (sym (take_all c.in_ok-first.first runs over))))
