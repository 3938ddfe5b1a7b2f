-- `nearest::strips::insert` meets its contract. Assumes nothing.
use Rattle.std.proofs.Common.{arith}
use Rattle.nearest.proofs.SetLaws.{set_with}
use Rattle.nearest.proofs.strips.insert.Goals as goal

pub returns : goal.returns
returns c = set_with c.args.set.now c.args.q c.requires.0 (omega arith) c.requires.1 c.bit_of.ensures
