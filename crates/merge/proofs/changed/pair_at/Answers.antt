-- `merge::changed::pair_at` meets its contract. Assumes nothing.
use Rattle.std.proofs.Common.{arith}
use Rattle.merge.proofs.WalkLaws.{row_after}
use Rattle.packed.proofs.RowLaws.{pairs_few}
use Rattle.merge.proofs.changed.pair_at.Goals as goal

pub overflow_add-start : goal.overflow_add-start
overflow_add-start c = omega (arith, pairs_few {n = c.loop-row.row} (omega arith))

pub loop-row-preserved : goal.loop-row-preserved
loop-row-preserved c = (row_after c.loop-row.row c.loop-row.invariant.0, c.if-i-start.false)
