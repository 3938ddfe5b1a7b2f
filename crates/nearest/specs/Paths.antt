-- Paths over the whole board, and the listed posts that they reach. Assumes nothing.
use Rattle.std.specs.Prelude.{Bool, ◌&&◌, List, ℕ}
use Rattle.arith.specs.Lists.{elem, non_empty, range}
use Rattle.arith.specs.Sums.{any_to}
use Rattle.ego.specs.Graph.{Graph, walks}

-- A path of h links leads from u to v: one of the score's walks, inside all n nodes. (A shortest one meets no node twice.)
unfoldable pub reaches : Graph → ℕ → ℕ → ℕ → ℕ → Bool
reaches g n h u v = non_empty (walks g (range 0 n) h u v)

-- v is listed, and a path of h links leads to it.
unfoldable pub listed_at : Graph → ℕ → ℕ → List ℕ → ℕ → ℕ → Bool
listed_at g n u listed h v = elem v listed && reaches g n h u v

-- A path of h links leads to some listed post.
unfoldable pub any_at : Graph → ℕ → ℕ → List ℕ → ℕ → Bool
any_at g n u listed h = any_to (listed_at g n u listed h) n
