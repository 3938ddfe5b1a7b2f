-- A conflict as the search sees it, by the bits of the five buffers. Assumes nothing.
use Rattle.std.specs.Prelude.{Bool, ◌&&◌, ◌||◌, List, ℕ, ◌*◌, ◌≤◌, length}
use Rattle.packed.specs.Bits.{bit_at, differ}
use Rattle.merge.specs.Pinned.{Brought}

-- bit i is of a pair in conflict
unfoldable pub conflict_bit : List ℕ → Brought → ℕ → Bool
conflict_bit mine k i =
    ((bit_at k.pins i || differ (bit_at mine i) (bit_at k.base i)) && (bit_at k.their_pins i || differ (bit_at k.theirs i) (bit_at k.base i)))
    && differ (bit_at mine i) (bit_at k.theirs i)

-- each of the five has so many bits
pub record Rooms (bits : ℕ) (mine : List ℕ) (k : Brought) : Type 0 where
  pub edges : bits ≤ 8 * length mine
  pub pins : bits ≤ 8 * length k.pins
  pub theirs : bits ≤ 8 * length k.theirs
  pub their_pins : bits ≤ 8 * length k.their_pins
  pub base : bits ≤ 8 * length k.base
