-- The walk over the pairs that theirs has changed, in bit order. Assumes nothing.
use Rattle.std.specs.Prelude.{List, ◌≡◌, ℕ, ◌+◌, ◌≤◌, ◌<◌}
use Rattle.packed.specs.Bits.{bit_at, differ}
use Rattle.packed.specs.Pairs.{pair_count}
use Rattle.packed.specs.Inside.Search.{FirstFrom}
use Rattle.merge.specs.declared.changed.Pair.{Pair}

-- the pair has the bit i, and is not before the row of b
pub record PairAt (i b : ℕ) (r : Pair) : Type 0 where
  pub onward : b ≤ r.b
  pub below : r.a < r.b
  pub bit : pair_count r.b + r.a ≡ i

-- a place on the walk over the pairs of n nodes, before the pair a, b or after the row of b
pub record Place (n a b : ℕ) : Type 0 where
  pub few : b ≤ n
  pub low : a ≤ b
  pub bits : pair_count b + a ≤ pair_count n

-- from that place on theirs has changed none of the bits before i
abbrev pub FirstChanged : List ℕ → List ℕ → ℕ → ℕ → ℕ → ℕ → Type 0
FirstChanged theirs base n a b i = FirstFrom (λ k. differ (bit_at theirs k) (bit_at base k)) (pair_count b + a) (pair_count n) i

-- the first pair from that place on that theirs has changed
pub record NextPair (theirs base : List ℕ) (n a b : ℕ) (r : Pair) : Type 0 where
  pub onward : b ≤ r.b
  pub below : r.a < r.b
  pub inside : r.b < n
  pub first : FirstChanged theirs base n a b (pair_count r.b + r.a)
