-- `packed::rows::rows_within` meets its contract: the rows of the nodes before q are made. Assumes nothing.
use native.Mathlib.Omega.{arith}
use lib.ListN.{replicate}
use Rattle.arith.proofs.Sums.{filling_length, filling_more}
use Rattle.packed.proofs.PairLaws.{room_mono}
use Rattle.packed.proofs.SetLaws.{fill_front, front_none}
use Rattle.packed.specs.Inside.Rows.{row_words, rows_within}
use Rattle.packed.proofs.rows.rows_within.Goals as goal

pub loop-q-init : goal.loop-q-init
loop-q-init c = front_none _ _ c.args.n c.requires.few

pub row_within-requires : goal.row_within-requires
row_within-requires c = room_mono (omega (arith, c.loop-q-test.true, filling_length c.loop-q.invariant)) c.requires

pub loop-q-preserved : goal.loop-q-preserved
loop-q-preserved c =
    let w = c.loop-q.invariant in
    filling_more w (omega (arith, c.loop-q-test.true, filling_length w)) c.row_within.ensures

pub returns : goal.returns
unfolding rows_within
returns c = fill_front _ _ (replicate row_words 0) c.args.n c.requires.few c.loop-q.invariant (omega (arith, c.loop-q-test.false))
