-- The edges of a graph, read from packed bits and written to them. Assumes nothing.
use Rattle.std.specs.Prelude.{Bool, cond, not, ◌&&◌, List, ℕ, eqb}
use Rattle.packed.specs.Bits.{bit_at, bytes_for, bytes_of, with_bit}
use Rattle.packed.specs.Pairs.{any_pair, pair_count, pair_index}

-- a and b are two nodes, and linked
unfoldable pub edge : List ℕ → ℕ → ℕ → Bool
edge edges a b = not (eqb a b) && bit_at edges (pair_index a b)

-- a and b, if they are two nodes, linked or not
unfoldable pub with_edge : List ℕ → ℕ → ℕ → Bool → List ℕ
with_edge edges a b on = cond (eqb a b) edges (with_bit edges (pair_index a b) on)

-- the edges of a graph of n nodes: a bit for each pair, 1 where it is linked, and spare bits 0
unfoldable pub edges_of : (ℕ → ℕ → Bool) → ℕ → List ℕ
edges_of g n = bytes_of (λ i. any_pair (λ a b. eqb (pair_index a b) i && g a b) n) (bytes_for (pair_count n))
