-- How long the lent buffers are, where the graph has n nodes. Marks has the length of the marks. Assumes nothing.
use Rattle.std.specs.Prelude.{ℕ, ◌+◌}
use Rattle.packed.specs.Bits.{bytes_for}
use Rattle.packed.specs.Pairs.{pair_count}

-- a bit for each pair, rounded up to bytes
abbrev pub edge_bytes : ℕ → ℕ
edge_bytes n = bytes_for (pair_count n)

-- the scratch of a list has a bit for each node, rounded up to bytes, or more
abbrev pub scratch_bytes : ℕ → ℕ
scratch_bytes n = bytes_for n

-- the byte n - 1, then the edges
abbrev pub snapshot_bytes : ℕ → ℕ
snapshot_bytes n = 1 + edge_bytes n
