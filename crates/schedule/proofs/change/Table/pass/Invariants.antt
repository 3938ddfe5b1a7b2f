-- The records before i are done.
use Rattle.std.proofs.Common.{◌≡◌}
use Rattle.schedule.specs.Inside.Until.{moved_to, pass_to}
use Rattle.schedule.proofs.change.Table.pass.Given as goal

abbrev pub invariant-loop-i : goal.invariant-loop-i
invariant-loop-i l =
    (l.self.until ≡ pass_to l.schedule l.fn.self.scope l.fn.self.until l.i) × (l.moved ≡ moved_to l.schedule l.fn.self.scope l.fn.self.until l.i)
    × (l.self.scope ≡ l.fn.self.scope)
