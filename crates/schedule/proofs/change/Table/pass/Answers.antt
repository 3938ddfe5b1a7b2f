-- `schedule::change::Table::pass` meets its contract. The records before i are done. Assumes nothing.
use Rattle.std.proofs.Common.{ap, arith, refl, ◌≡◌, ◌∙◌}
use Rattle.schedule.proofs.PassLaws.{moved_more, moved_none, pass_more, pass_none}
use Rattle.schedule.specs.Schedule.{record_count}
use Rattle.schedule.specs.Inside.Until.{moved_to, pass_to}
use Rattle.schedule.proofs.change.Table.pass.Goals as goal

pub returns : goal.returns
returns c =
    let ended : c.loop-i.i ≡ record_count c.args.schedule.now = omega (arith, c.count-i-end.ensures) in
    let held = c.loop-i.invariant in
    record { moves = held.1 ∙ ap (moved_to _ _ _) ended; lasts = held.0 ∙ ap (pass_to _ _ _) ended; same = held.2 }

pub loop-i-init : goal.loop-i-init
loop-i-init c = (pass_none _ _ _, moved_none _ _ _, refl)

pub loop-i-preserved : goal.loop-i-preserved
loop-i-preserved c =
    let held = c.loop-i.invariant in
    let is = c.opening_at.ensures in
    let longer = c.lengthen-moved.ensures in (
      pass_more _ _ _ c.loop-i.i is held.0 (rw held.2 at longer.lasts),
      moved_more _ _ _ c.loop-i.i is held.0 (rw held.2 at longer.moves) held.1 refl,
      longer.same ∙ held.2,
    )
