-- `schedule::change::Table::first` meets its contract. The records before i are done. Assumes nothing.
use Rattle.std.proofs.Common.{ap, arith, ◌≡◌, ◌∙◌}
use Rattle.schedule.proofs.PassLaws.{changed_none, changed_once, changed_still}
use Rattle.schedule.specs.Schedule.{record_count}
use Rattle.schedule.specs.Inside.Until.{changed_to}
use Rattle.schedule.proofs.change.Table.first.Goals as goal
use Rattle.schedule.proofs.change.Table.first.Goals.{in-Some, in_default}

pub returns : goal.returns
returns c =
    let ended : c.loop-i.i ≡ record_count c.args.schedule.now = omega (arith, c.count-i-end.ensures) in
    c.loop-i.invariant ∙ ap (changed_to _ _ _) ended

pub loop-i-init : goal.loop-i-init
loop-i-init c = changed_none _ _ _

pub loop-i-preserved : goal.loop-i-preserved
loop-i-preserved c = elim c.match-changed_by.branch [
  | in-Some w ↦ changed_once _ _ _ c.loop-i.i c.opening_at.ensures c.changed_by.ensures c.loop-i.invariant w.in-Some.is (omega (arith, w.first-is, w.min-first.ensures, w.from.ensures))
  | in_default w ↦ changed_still _ _ _ c.loop-i.i c.opening_at.ensures c.changed_by.ensures c.loop-i.invariant w.in_default.is w.first-is
]
