-- What the loop of `calls::snapshot::copy` keeps: the first i bytes are copied.
use Rattle.std.proofs.Common.{take, length, ◌≡◌}
use Rattle.calls.proofs.snapshot.copy.Given as goal

abbrev pub invariant-loop-i : goal.invariant-loop-i
invariant-loop-i l = (take l.i l.to ≡ take l.i l.from) × (length l.to ≡ length l.from)
