-- `topk::entries::shift_in` meets its contract. Assumes nothing.
use Rattle.std.proofs.Common.{arith}
use Rattle.topk.proofs.SpliceLaws.{put_among, put_past}
use Rattle.topk.proofs.entries.shift_in.Goals as goal

pub returns-then-spot-k : goal.returns-then-spot-k
returns-then-spot-k c =
    let a = c.args in
    (omega arith, put_past a.entries.now a.spot a.e a.kept (omega arith) (omega arith))

pub returns : goal.returns
returns c =
    let a = c.args in
    (omega arith, cc (c.copy_within.ensures.after, put_among a.entries.now a.spot a.e c.min-after.result (omega arith) (omega arith)))
