-- The records before i are done.
use Rattle.std.proofs.Common.{◌≡◌}
use Rattle.schedule.specs.Inside.Until.{changed_to}
use Rattle.schedule.proofs.change.Table.first.Given as goal

abbrev pub invariant-loop-i : goal.invariant-loop-i
invariant-loop-i l = l.first ≡ changed_to l.schedule l.self.scope l.self.until l.i
