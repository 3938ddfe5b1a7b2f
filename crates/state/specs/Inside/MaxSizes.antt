-- How long the edges of the largest graph are, of 256 nodes. Assumes nothing.
use Rattle.std.specs.Prelude.{ℕ}

abbrev pub max_edge_bytes : ℕ
max_edge_bytes = 4080
