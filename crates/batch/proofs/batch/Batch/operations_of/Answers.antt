use Rattle.std.proofs.Common.{◌≤◌, zero, sym, subst, arith}
use Rattle.meaning.specs.WellFormed.{operations}
use Rattle.meaning.specs.declared.limits.TheConstants.{MAX_OPERATIONS}
use Rattle.batch.specs.Parts.{blocks_of}
use Rattle.batch.proofs.CanRun.{block_at_view, operations_before}
use Rattle.batch.proofs.batch.Batch.operations_of.Goals as goal

pub operations_in-requires : goal.operations_in-requires
operations_in-requires c =
    let blocks = blocks_of c.args.self.now in
    subst (λ b. operations b ≤ MAX_OPERATIONS)
    (sym (block_at_view c.args.self.now.transactions.items c.args.number c.index.result.now c.requires c.index.ensures))
    (omega (arith, operations_before blocks zero c.args.number (omega arith), c.args.self.now.is_batch.few_operations))
