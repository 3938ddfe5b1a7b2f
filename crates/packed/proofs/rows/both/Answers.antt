-- `packed::rows::both` meets its contract: the words before k are made. Assumes nothing.
use mathlib.Core.Path.{ap, sym, ◌∙◌, ◌≡◌}
use Prim.Native.Nat.{zero-le}
use native.Mathlib.Nat.{le_refl}
use native.Mathlib.Omega.{arith}
use lib.Bits.{bit_and}
use lib.ListN.{get_or, length}
use Rattle.arith.proofs.Sums.{fill_to_none, filling_all, filling_more, get_or_fill_to_past}
use Rattle.arith.specs.Sums.{tabulate}
use Rattle.packed.specs.Inside.Rows.{both_of, row_words}
use Rattle.packed.proofs.rows.both.Goals as goal

pub loop-k-init : goal.loop-k-init
loop-k-init c = let long : row_words ≡ length c.args.x = omega arith in record { most = zero-le; all = long; done = sym (fill_to_none _ _) }

pub loop-k-preserved : goal.loop-k-preserved
loop-k-preserved c =
    let at = c.loop-k in
    let word = ap (λ l. get_or l at.k 0) at.invariant.done ∙ get_or_fill_to_past _ c.args.x 0 at.k at.k (le_refl _) in
    filling_more at.invariant c.loop-k-test.true (ap (λ w. bit_and w (get_or c.args.y at.k 0)) word)

pub returns : goal.returns
unfolding both_of
returns c = filling_all c.loop-k.invariant 0 c.loop-k-test.false ∙ ap (tabulate _) (sym c.loop-k.invariant.all)
