-- `packed::bits::get` meets its contract: the masked byte is not 0 where the digit is 1. Assumes nothing.
use Rattle.packed.specs.Bits.{bit_at}
use Rattle.packed.proofs.BitLaws.{get_is}
use Rattle.packed.proofs.bits.get.Goals as goal

pub returns : goal.returns
unfolding bit_at
returns c = get_is _ c.args.i
