use Rattle.std.proofs.Common.{take, refl, ◌∙◌, arith}
use Rattle.rounds.proofs.Fallen.{all_past, kept_after}
use Rattle.rounds.proofs.window.Window.keep_after.Goals as goal

pub returns-then-conflict-end : goal.returns-then-conflict-end
returns-then-conflict-end g c =
    all_past c.args.self.now (take c.args.upto c.args.nets.now) c.args.conflict c.requires.flags (c.if-conflict-end.true ∙ c.end.ensures)

pub returns : goal.returns
returns g c =
    let end = c.end.ensures in
    let other = c.if-conflict-end.false in
    let high = c.requires.from.1 in
    kept_after c.args.self.now c.keep.new.self _ (take c.args.upto c.args.nets.now) c.args.conflict c.requires.from.0 (omega arith)
    c.requires.flags c.in_ok-keep.ensures c.requires.falls refl refl refl
