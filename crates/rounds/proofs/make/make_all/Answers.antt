use Rattle.std.proofs.Common.{arith, rules}
use Rattle.std.proofs.lemmas.Result.{IfOk-weaker}
use Rattle.std.specs.Fork.{slice_chunk}
use Rattle.workers.proofs.Gives.{given_by}
use Rattle.rounds.specs.PendingRuns.{AreMadeRuns}
use Rattle.rounds.proofs.Making.{all_groups}
use Rattle.rounds.proofs.Crossing.{numbered_crosses}
use denote.Param.Send.{sendable}
use Rattle.rounds.proofs.make.make_all.Goals as goal

pub give_all-requires-send-X : goal.give_all-requires-send-X
give_all-requires-send-X g c κs within = search (sendable, numbered_crosses) depth 20

pub returns : goal.returns
returns g c =
    let batch = c.args.job.now.batch.now in
    let objects = c.args.objects.now in
    let listed = c.args.nets.now in
    let numbers = c.args.numbers.now in
    let cut = c.group_size-cut.result in
    let groups = given_by _ _ (λ piece. AreMadeRuns batch objects listed (slice_chunk numbers cut piece))
    c.give_all.result c.give_all.ensures (λ k before after done. search rules) in
    IfOk-weaker c.give_all.result _ _ (λ made given. all_groups batch objects listed numbers cut
    c.div_ceil.result made.items (omega (arith, c.group_size-cut.ensures)) c.div_ceil.ensures given) groups
