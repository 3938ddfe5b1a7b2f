-- `packed::bits::put` meets its contract: the mask sets the digit, and its complement clears it. Assumes nothing.
use Prim.Native.Nat.{◌/◌, ◌<◌}
use native.Mathlib.Omega.{arith}
use lib.ListN.{get_or}
use Rattle.packed.specs.Bits.{with_bit}
use Rattle.packed.proofs.BitLaws.{on_is, off_is}
use Rattle.packed.proofs.bits.put.Goals as goal

pub returns-then-on : goal.returns-then-on
unfolding with_bit
returns-then-on c = rw (on_is (get_or c.args.bits.now (c.args.i / 8) 0) c.args.i, c.if-on.true)

pub returns-else-on : goal.returns-else-on
unfolding with_bit
returns-else-on c =
    let byte : get_or c.args.bits.now (c.args.i / 8) 0 < 256 = omega arith in
    rw (off_is (get_or c.args.bits.now (c.args.i / 8) 0) c.args.i byte, c.if-on.false)
