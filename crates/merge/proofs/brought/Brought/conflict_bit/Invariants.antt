-- The invariant and the measure of `conflict_bit`'s loop: a walk over words, and no bit before i is of a conflict.
use Rattle.std.proofs.Common.{◌%◌, ◌-◌, ◌≡◌}
use Rattle.packed.proofs.FirstLaws.{Passed}
use Rattle.merge.specs.Lent.{lent}
use Rattle.merge.specs.Inside.Bitwise.{conflict_bit}
use Rattle.merge.proofs.brought.Brought.conflict_bit.Given as goal

abbrev pub invariant-loop-i : goal.invariant-loop-i
invariant-loop-i l = Passed (conflict_bit l.edges (lent l.self)) 0 l.end l.i × (l.i % 8 ≡ 0)

abbrev pub decreases-loop-i : goal.decreases-loop-i
decreases-loop-i l = l.end - l.i
