use Rattle.std.proofs.Common.{ℕ, ◌*◌, drop, rules}
use Rattle.std.proofs.lemmas.List.Elements.{All-drop, All-take, All-same}
use Rattle.std.specs.Fork.{slice_chunk}
use Rattle.std.specs.List.{All}
use Rattle.rounds.specs.Passes.{CanBeMade}
use Rattle.rounds.proofs.make.fn.make_all.give_all.Goals as goal

pub make_piece-requires-clause-within : goal.make_piece-requires-clause-within
make_piece-requires-clause-within g c κs within k d lt =
    let numbers = c.captures.numbers.now in
    let Can : ℕ → Type 0 = λ n. CanBeMade c.captures.batch.now c.captures.objects.now n in
    let each : All Can numbers = search rules in
    let group : All Can c.group_at-group.result.now = All-same Can c.group_at-group.result.now
    (slice_chunk numbers c.captures.cut c.args.piece) c.group_at-group.ensures
    (All-take Can c.captures.cut (drop (c.args.piece * c.captures.cut) numbers)
    (All-drop Can (c.args.piece * c.captures.cut) numbers each)) in
    group k d lt
