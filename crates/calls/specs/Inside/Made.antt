-- A snapshot that was made of a file, written to a buffer. Assumes nothing.
use Rattle.std.specs.Prelude.{cond, List, ℕ, length, take}
use Rattle.packed.specs.Edges.{edge}
use Rattle.state.specs.Refusal.{everyone, snapshot_edges, too_many}
use Rattle.calls.specs.Snapshot.{Written, written}

-- as many of its bytes as the buffer has; where a node of it would be crowded, 12 and the buffer as it was
unfoldable pub made_call : List ℕ → ℕ → List ℕ → Written
made_call made n buffer = cond (too_many (edge (snapshot_edges made)) n everyone) (written 12 buffer) (written 0 (take (length buffer) made))
