-- `packed::bits::first_one` meets its contract: the mask leaves the digits from `from` on, and the leading zeros count to the first that is set.
-- Assumes nothing.
use Rattle.packed.proofs.FirstLaws.{first_one_is}
use Rattle.packed.proofs.bits.first_one.Goals as goal

pub returns : goal.returns
returns c = first_one_is c.args.word c.args.from c.requires
