-- Bytes that are long enough for a graph. Assumes nothing.
use Rattle.std.specs.Prelude.{List, ℕ, ◌*◌, ◌≤◌, length}
use Rattle.packed.specs.Pairs.{max_nodes, pair_count}

-- a graph may have n nodes, and the bytes have a bit for each of their pairs
pub record Room (n : ℕ) (edges : List ℕ) : Type 0 where
  pub few : n ≤ max_nodes
  pub bits : pair_count n ≤ 8 * length edges
