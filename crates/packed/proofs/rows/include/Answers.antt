-- `packed::rows::include` meets its contract: the words before k have both sets' nodes, and the others are as they were. Assumes nothing.
use mathlib.Core.Path.{ap, ◌∙◌}
use native.Mathlib.Nat.{le_refl}
use native.Mathlib.Omega.{arith}
use lib.Bits.{bit_or}
use lib.ListN.{get_or}
use Rattle.arith.proofs.Sums.{filling_all, filling_length, filling_more, filling_none, get_or_fill_to_past}
use Rattle.arith.specs.Sums.{tabulate}
use Rattle.packed.specs.Inside.Rows.{either_of}
use Rattle.packed.proofs.rows.include.Goals as goal

pub loop-k-init : goal.loop-k-init
loop-k-init c = filling_none _ _

pub loop-k-preserved : goal.loop-k-preserved
loop-k-preserved c =
    let at = c.loop-k in
    let word = ap (λ l. get_or l at.k 0) at.invariant.done ∙ get_or_fill_to_past _ c.args.set.now 0 at.k at.k (le_refl _) in
    filling_more at.invariant (omega (arith, c.loop-k-test.true, filling_length c.loop-k.invariant)) (ap (λ w. bit_or w (get_or c.args.row at.k 0)) word)

pub returns : goal.returns
unfolding either_of
returns c = filling_all c.loop-k.invariant 0 (omega (arith, c.loop-k-test.false, filling_length c.loop-k.invariant)) ∙ ap (tabulate _) c.requires
