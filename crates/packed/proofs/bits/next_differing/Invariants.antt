-- What the loop of `packed::bits::next_differing` keeps: the two agree on every bit before i.
use Prim.Native.Nat.{◌-◌}
use Rattle.packed.proofs.FirstLaws.{Passed}
use Rattle.packed.specs.Bits.{bit_at, differ}
use Rattle.packed.proofs.bits.next_differing.Given as goal

abbrev pub invariant-loop-i : goal.invariant-loop-i
invariant-loop-i l = Passed (λ k. differ (bit_at l.x k) (bit_at l.y k)) l.from l.to l.i

abbrev pub decreases-loop-i : goal.decreases-loop-i
decreases-loop-i l = l.to - l.i
