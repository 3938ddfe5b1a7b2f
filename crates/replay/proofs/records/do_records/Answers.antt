-- `replay::records::do_records`: what is listed is of the board, and the reader does not go back, nor past the script's end.
use Rattle.std.proofs.Common.{sym, arith}
use Rattle.script.proofs.ReadingLaws.{list_small, step_within}
use Rattle.replay.proofs.records.do_records.Goals as goal

pub do_item-requires : goal.do_item-requires
do_item-requires g c k e = list_small c.args.script.now c.loop-at.at c.read-step.ensures.0 (sym e)

pub loop-at-smaller : goal.loop-at-smaller
loop-at-smaller g c =
    let w = step_within c.args.script.now c.loop-at.at c.read-step.ensures.0 c.loop-at.invariant in
    omega (arith, w.0, w.1, c.if-step-at.false)

pub loop-at-preserved : goal.loop-at-preserved
loop-at-preserved g c = (step_within c.args.script.now c.loop-at.at c.read-step.ensures.0 c.loop-at.invariant).1
