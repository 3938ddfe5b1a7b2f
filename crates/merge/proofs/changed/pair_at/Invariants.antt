-- The invariant of `pair_at`'s loop: `start` is the first bit of the row, and not after bit i.
use Rattle.std.proofs.Common.{◌≡◌, ◌≤◌}
use Rattle.packed.specs.Pairs.{pair_count}
use Rattle.merge.proofs.changed.pair_at.Given as goal

abbrev pub invariant-loop-row : goal.invariant-loop-row
invariant-loop-row l = (l.start ≡ pair_count l.row) × (l.start ≤ l.i)
