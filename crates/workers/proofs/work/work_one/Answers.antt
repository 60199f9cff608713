use Rattle.std.proofs.Common.{refl, subst}
use Rattle.std.proofs.lemmas.Option.{IfSome_then}
use Rattle.claims.specs.Views.{fresh}
use Rattle.claims.specs.Board.{Answers}
use Rattle.workers.specs.Working.{Gives}
use Rattle.workers.proofs.Given.{drew}
use Rattle.workers.proofs.Gives.{given_next, added_at, ready_next}
use Rattle.workers.proofs.work.work_one.Goals as goal

pub claiming-init : goal.claiming-init
claiming-init g c = record {
  own = c.requires.first.own;
  over = c.requires.first.over;
  before = fresh 1 c.args.board.now.pieces;
  answer = c.requires.first.answer;
  ready = λ k lt. c.requires.can.first k _ lt (record { unspaced = refl; empty = c.new.ensures.items });
  given = λ calm. c.new.ensures.items;
}

pub do_piece-state-requires-clause-can : goal.do_piece-state-requires-clause-can
do_piece-state-requires-clause-can g c =
    let was = c.claiming.invariant in
    let answered = subst (λ a. Answers c.args.board.now.pieces was.before a c.claiming.seat.view) c.in-Piece.is was.answer in
    IfSome_then c.claiming.state was.ready (λ b ready. ready c.in-Piece.piece answered.0)

pub claiming-preserved : goal.claiming-preserved
claiming-preserved g c =
    let was = c.claiming.invariant in
    let rule = c.requires.can in
    let answered = subst (λ a. Answers c.args.board.now.pieces was.before a c.claiming.seat.view) c.in-Piece.is was.answer in
    let piece = drew c.args.board.now.pieces was.before c.claiming.seat.view c.claiming.claim c.in-Piece.piece c.in-Piece.is was.answer in
    let done = c.do_piece-state.ensures in
    record {
      own = c.claim-claim.ensures.board;
      over = c.claim-claim.ensures.over;
      before = c.do_piece-state.new.seat.view;
      answer = c.claim-claim.ensures.answer;
      ready = ready_next c.args.board.now.pieces _ _ rule c.in-Piece.piece answered.0 c.claiming.state c.do_piece-state.result done.left;
      given = given_next (Gives (λ k b. g.F.Fn.post c.args.give.now (k, (b, tt)))) was.before c.claiming.seat.view
          c.do_piece-state.new.seat.view c.in-Piece.piece _ _ piece was.given done.same
          (λ calm.
          let (quiet, some) = done.calm calm in (
            quiet,
            added_at c.args.board.now.pieces _ _ rule c.in-Piece.piece answered.0 c.claiming.state
                c.do_piece-state.result done.left some,
          ));
    }
