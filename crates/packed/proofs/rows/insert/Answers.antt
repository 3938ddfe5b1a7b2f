-- `packed::rows::insert` meets its contract. Assumes nothing.
use mathlib.Core.Path.{ap}
use Prim.Native.Nat.{◌/◌}
use lib.Bits.{bit_or}
use lib.ListN.{get_or, set}
use Rattle.packed.proofs.SetLaws.{bit_mask}
use Rattle.packed.specs.Inside.Rows.{with_node}
use Rattle.packed.proofs.rows.insert.Goals as goal

pub returns : goal.returns
unfolding with_node
returns c =
    let row = c.args.set.now in
    let q = c.args.q in
    ap (λ m. set row (q / 32) (bit_or (get_or row (q / 32) 0) m)) (bit_mask q)
