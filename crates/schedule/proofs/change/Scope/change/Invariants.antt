-- The pairs last as the table says. A pass after which another follows makes one last longer.
use Rattle.std.proofs.Common.{◌*◌, ◌-◌, ◌≡◌}
use Rattle.packed.specs.Inside.Windows.{window}
use Rattle.schedule.proofs.UntilLaws.{total}
use Rattle.schedule.specs.Change.{minutes}
use Rattle.schedule.specs.Inside.Until.{Lasts}
use Rattle.schedule.proofs.change.Scope.change.Given as goal

abbrev pub invariant-loop : goal.invariant-loop
invariant-loop l = Lasts l.schedule l.fn.self l.table.until × (l.table.scope ≡ l.fn.self)

abbrev pub decreases-loop : goal.decreases-loop
decreases-loop l = window * minutes - total l.table.until
