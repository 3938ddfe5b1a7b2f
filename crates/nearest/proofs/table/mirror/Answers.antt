-- `nearest::table::mirror` meets its contract. What is left of the word are the nodes that the rows still lack. Assumes nothing.
use Rattle.std.proofs.Common.{arith}
use Rattle.nearest.proofs.MirrorLaws.{mirror_all, mirror_next}
use Rattle.nearest.proofs.StripLaws.{last_digit, last_few}
use Rattle.nearest.proofs.table.mirror.Goals as goal

pub overflow_sub-a-in-loop-left : goal.overflow_sub-a-in-loop-left
overflow_sub-a-in-loop-left c = omega (arith, last_digit c.loop-left.invariant.nodes (omega arith))

pub bounds-rows-a : goal.bounds-rows-a
bounds-rows-a c = omega (arith, last_few c.loop-left.invariant.nodes (omega arith), c.loop-left.invariant.table.long, c.requires.2)

pub bounds-rows-a-in-loop-left : goal.bounds-rows-a-in-loop-left
bounds-rows-a-in-loop-left c = omega (arith, last_few c.loop-left.invariant.nodes (omega arith), c.loop-left.invariant.table.long, c.requires.2)

pub loop-left-preserved : goal.loop-left-preserved
loop-left-preserved c = mirror_next c.loop-left.invariant c.requires.2 (omega arith) c.bit_of-bit.ensures

pub returns : goal.returns
returns c = mirror_all c.loop-left.invariant c.loop-left-test.false
