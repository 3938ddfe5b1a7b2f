-- `packed::runs::byte_at` meets its contract: past the end there are zeros. Assumes nothing.
use mathlib.Core.Path.{sym}
use Rattle.packed.proofs.RunLaws.{run_byte, run_past}
use Rattle.packed.proofs.runs.byte_at.Goals as goal

pub returns-then-k-bits : goal.returns-then-k-bits
returns-then-k-bits c = sym (run_byte c.args.bits.now c.args.k (c.type_inv.bits c.args.k).fits)

pub returns-else-k-bits : goal.returns-else-k-bits
returns-else-k-bits c = sym (run_past c.args.bits.now c.args.k c.if-k-bits.false)
