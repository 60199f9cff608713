use Rattle.claims.specs.Views.{fresh}
use Rattle.workers.specs.Testing.{Passing, Failing}
use Rattle.workers.proofs.Given.{drew}
use Rattle.workers.proofs.Seeks.{sought_none, sought_next}
use Rattle.workers.proofs.least.seek.Goals as goal

pub claiming-init : goal.claiming-init
claiming-init g c = record {
  own = c.requires.first.own;
  over = c.requires.first.over;
  before = record { board = c.args.board.now.id; view = fresh 1 c.args.board.now.pieces };
  answer = c.requires.first.answer;
  sought = sought_none
      (Passing (λ k b. g.F.Fn.post c.args.passes.now (k, tt) b)) (Failing (λ k b. g.F.Fn.post c.args.passes.now (k, tt) b))
      c.args.board.now;
}

pub claiming-preserved : goal.claiming-preserved
claiming-preserved g c =
    let was = c.claiming.invariant in
    let judge = c.judge.ensures in
    let piece = drew c.args.board.now.pieces was.before.view c.claiming.seat.view c.claiming.claim
    c.in-Piece.piece c.in-Piece.is was.answer in
    record {
      own = c.claim-claim.ensures.board;
      over = c.claim-claim.ensures.over;
      before = c.judge.new.seat;
      answer = c.claim-claim.ensures.answer;
      sought = sought_next
          (Passing (λ k b. g.F.Fn.post c.args.passes.now (k, tt) b)) (Failing (λ k b. g.F.Fn.post c.args.passes.now (k, tt) b))
          c.args.board.now was.before c.claiming.seat c.judge.new.seat c.in-Piece.piece was.sought piece
          judge.own judge.same judge.kept judge.judged judge.low;
    }
