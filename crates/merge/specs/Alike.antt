-- What a reconcile with pins brings, the same but for spare bits. Assumes nothing.
use Rattle.std.specs.Prelude.{ℕ}
use Rattle.packed.specs.Pairs.{pair_count}
use Rattle.state.specs.Spare.{SameBits}
use Rattle.merge.specs.Pinned.{Brought}

pub record AlikeBrought (n : ℕ) (k l : Brought) : Type 0 where
  pub pins : SameBits (pair_count n) k.pins l.pins
  pub theirs : SameBits (pair_count n) k.theirs l.theirs
  pub their_pins : SameBits (pair_count n) k.their_pins l.their_pins
  pub base : SameBits (pair_count n) k.base l.base
