-- The pairs numbered before `start` are done.
use Rattle.std.proofs.Common.{◌+◌}
use Rattle.packed.specs.Inside.Search.{FirstFrom}
use Rattle.schedule.specs.Change.{minutes}
use Rattle.schedule.specs.Inside.Numbers.{differs_in}
use Rattle.schedule.proofs.change.first_change.Given as goal

abbrev pub invariant-loop-start : goal.invariant-loop-start
invariant-loop-start l = FirstFrom (differs_in l.schedule 0 l.start l.minute) (l.minute + 1) minutes l.limit
