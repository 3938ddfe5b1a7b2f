-- `nearest::strips::first_of` meets its contract: before strip k there is no node of the set. Assumes nothing.
use Rattle.std.proofs.Common.{arith}
use Rattle.nearest.proofs.SetLaws.{first_here, first_later}
use Rattle.nearest.proofs.strips.first_of.Goals as goal

pub returns-then-found-lt64 : goal.returns-then-found-lt64
returns-then-found-lt64 c =
    (first_here c.args.set c.loop-k.k c.loop-k-test.true c.loop-k.invariant c.first_one-found.ensures c.if-found-lt64.true, omega arith)

pub loop-k-preserved : goal.loop-k-preserved
loop-k-preserved c = first_later c.args.set c.loop-k.k c.loop-k-test.true c.loop-k.invariant c.first_one-found.ensures c.if-found-lt64.false
