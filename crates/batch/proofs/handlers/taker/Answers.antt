use Rattle.std.proofs.Common.{sym, Some}
use Rattle.meaning.specs.Trees.{Otherwise, GoOn, Pass}
use Rattle.batch.specs.Views.{block_view}
use Rattle.batch.specs.declared.tree.Otherwise as otherwise
use Rattle.batch.proofs.ViewLemmas.{otherwise_view-Run, otherwise_view-GoOn, otherwise_view-Pass}
use Rattle.batch.proofs.Handling.{taker-is, taker-otherwise}
use Rattle.batch.proofs.handlers.taker.Goals as goal

pub returns-in-Some-clause-takes : goal.returns-in-Some-clause-takes
returns-in-Some-clause-takes c = sym (taker-is c.args.child.now c.args.reason (Some c.in-Some.handler.now) c.in-Some.ensures.first)

pub returns-in-Run-clause-takes : goal.returns-in-Run-clause-takes
returns-in-Run-clause-takes c =
    let block = c.in-Run.block in
    let view = otherwise_view-Run block in
    let last = Otherwise (block_view block) in
    taker-otherwise c.args.child.now c.args.reason c.in-None.ensures.first (otherwise.Run block) c.in-Run.is last view

pub returns-in-GoOn-clause-takes : goal.returns-in-GoOn-clause-takes
returns-in-GoOn-clause-takes c =
    taker-otherwise c.args.child.now c.args.reason c.in-None.ensures.first otherwise.GoOn c.in-GoOn.is GoOn otherwise_view-GoOn

pub returns-in-Pass-clause-takes : goal.returns-in-Pass-clause-takes
returns-in-Pass-clause-takes c =
    taker-otherwise c.args.child.now c.args.reason c.in-None.ensures.first otherwise.Pass c.in-Pass.is Pass otherwise_view-Pass
