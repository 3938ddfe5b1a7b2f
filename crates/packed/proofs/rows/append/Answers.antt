-- `packed::rows::append` meets its contract: the nodes of the words before k are written. Assumes nothing.
use Rattle.std.proofs.Common.{arith, get_or-take, length-take, ◌<◌}
use Rattle.packed.proofs.SetLaws.{append_few, append_long, append_more, append_none}
use Rattle.packed.proofs.rows.append.Goals as goal

pub loop-k-init : goal.loop-k-init
loop-k-init c = append_none _ _ _

pub append_word-at-requires : goal.append_word-at-requires
append_word-at-requires c =
    let w = c.loop-k.invariant in
    let within = length-take c.args.words c.args.row in
    (omega (arith, within, c.requires.0), omega (arith, append_few w, append_long w, within, c.requires))

pub loop-k-preserved : goal.loop-k-preserved
loop-k-preserved c =
    let within : c.loop-k.k < c.args.words = omega (arith, c.loop-k-test.true, length-take c.args.words c.args.row) in
    append_more c.loop-k.invariant (rw get_or-take at c.append_word-at.ensures)
