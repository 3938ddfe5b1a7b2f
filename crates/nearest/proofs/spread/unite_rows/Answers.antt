-- `nearest::spread::unite_rows` meets its contract. Assumes nothing.
use Rattle.std.proofs.Common.{arith}
use Rattle.nearest.proofs.SpreadLaws.{taken_all, taken_more}
use Rattle.nearest.proofs.StripLaws.{last_digit, last_few}
use Rattle.nearest.proofs.spread.unite_rows.Goals as goal

-- the last node is within the strip
pub overflow_sub-end-in-loop-left : goal.overflow_sub-end-in-loop-left
overflow_sub-end-in-loop-left c = omega (arith, last_digit c.loop-left.invariant.nodes (omega arith))

pub loop-left-preserved : goal.loop-left-preserved
loop-left-preserved c = taken_more c.loop-left.invariant (omega arith) c.unite_row.ensures

pub unite_row-requires : goal.unite_row-requires
unite_row-requires c = (last_few c.loop-left.invariant.nodes (omega arith), c.requires.3, c.loop-left.invariant.narrow)

pub returns : goal.returns
returns c = taken_all c.loop-left.invariant c.loop-left-test.false
