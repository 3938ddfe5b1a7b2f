-- The bounds of all nodes. Assumes nothing.
use Rattle.std.specs.Prelude.{List, ℕ, ◌≤◌, ◌<◌}
use Rattle.arith.specs.Sums.{tabulate}
use Rattle.packed.specs.Edges.{edge}
use Rattle.packed.specs.Inside.Room.{Room}
use Rattle.ego.specs.Bound.{bound}
use Rattle.ego.specs.Graph.{degree}
use Rattle.ego.specs.Limits.{limit}

-- the bytes have the edges of n nodes, none of which has more than the limit
pub record Boundable (edges : List ℕ) (n : ℕ) : Type 0 where
  pub room : Room n edges
  pub few : (p : ℕ) → p < n → degree (edge edges) n p ≤ limit

abbrev pub bounds_of : List ℕ → ℕ → List ℕ
bounds_of edges n = tabulate (bound (edge edges) n) n
