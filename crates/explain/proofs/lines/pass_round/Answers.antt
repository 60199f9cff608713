use Rattle.std.proofs.Common.{sym, ap, ◌∙◌, subst, arith, string_bytes}
use Rattle.objects.specs.Entries.{AreLegal, after}
use Rattle.intentions.specs.Levels.{AllHaveRoom}
use Rattle.explain.proofs.Reaching.{legal, room, last_round, on, next_round}
use Rattle.explain.proofs.lines.pass_round.Goals as goal

pub perform_each-requires-clause-legal : goal.perform_each-requires-clause-legal
perform_each-requires-clause-legal c =
    subst (AreLegal c.args.objects.now) (sym c.entries.ensures)
    (legal c.args.at.batch.now c.args.at.opened c.args.number c.args.objects.now (string_bytes c.args.out.now) c.requires.reached
    c.args.round.now c.requires.round)

pub perform_each-requires-clause-room : goal.perform_each-requires-clause-room
perform_each-requires-clause-room c =
    subst (AllHaveRoom c.args.objects.now) (sym c.entries.ensures)
    (room c.args.at.batch.now c.args.at.opened c.args.number c.args.objects.now (string_bytes c.args.out.now) c.requires.reached
    c.args.round.now c.requires.round)

pub returns-in_default : goal.returns-in_default
returns-in_default c =
    last_round c.args.at.batch.now c.args.at.opened c.args.number c.args.objects.now (string_bytes c.args.out.now) c.requires.reached
    c.args.round.now c.requires.round c.in_default.is

pub returns : goal.returns
returns c =
    let further = on c.args.at.batch.now c.args.at.opened c.args.number c.args.objects.now (string_bytes c.args.out.now) c.requires.reached
    c.args.round.now c.requires.round c.in-Some.stopped c.in-Some.is in (
      omega arith,
      next_round c.args.at.batch.now c.args.at.opened c.args.number c.args.objects.now (string_bytes c.args.out.now) c.requires.reached
          c.args.round.now c.requires.round c.in-Some.stopped c.in-Some.is c.perform_each.new.state
          (string_bytes c.write_round.new.out) (c.in_ok-perform_each.ensures ∙ ap (after c.args.objects.now) c.entries.ensures)
          c.in_ok-write_round.ensures,
    )
