-- The degrees of the nodes of a strip, as one pass over the edges counts them; those of all nodes, and as one edge more or less corrects them. Assumes nothing.
use Rattle.std.specs.Prelude.{Bool, cond, List, ◌≡◌, ℕ, ◌+◌, ◌-◌, ◌≤◌, ◌<◌, ltb, get_or, length, set}
use Rattle.arith.specs.Sums.{bit, count_to, tabulate}
use Rattle.packed.specs.Pairs.{max_nodes}
use Rattle.packed.specs.Inside.Room.{Room}
use Rattle.packed.specs.Edges.{edge}
use Rattle.packed.specs.Inside.Runs.{max_run}

-- how many of the n nodes are linked to node p, and 0 where p is past them
unfoldable pub degree_in : List ℕ → ℕ → ℕ → ℕ
degree_in edges n p = cond (ltb p n) (count_to (edge edges p) n) 0

-- that for each node of a strip, the `size` nodes from `first` on; and for every node
unfoldable pub degrees_from : List ℕ → ℕ → ℕ → ℕ → List ℕ
degrees_from edges first size n = tabulate (λ j. degree_in edges n (first + j)) size

abbrev pub degrees_of : List ℕ → ℕ → List ℕ
degrees_of edges n = degrees_from edges 0 max_nodes n

-- the degrees among the nodes before b, of which those before a count their edge to b too
unfoldable pub counted_at : List ℕ → ℕ → ℕ → ℕ → ℕ
counted_at edges b a p = cond (ltb p a) (count_to (edge edges p) (b + 1)) (degree_in edges b p)

unfoldable pub degrees_to : List ℕ → ℕ → ℕ → ℕ → ℕ → List ℕ
degrees_to edges first size b a = tabulate (λ j. counted_at edges b a (first + j)) size

-- node b has a place in the strip
pub record Placed (edges : List ℕ) (first size b : ℕ) : Type 0 where
  pub room : Room (b + 1) edges
  pub after : first ≤ b
  pub held : b < first + size

-- the nodes from `at` up to `end` are a run of b's row, and of the strip
pub record InRow (edges : List ℕ) (first size b at end : ℕ) : Type 0 where
  pub room : Room (b + 1) edges
  pub some : at < end
  pub short : end ≤ at + max_run
  pub below : end ≤ b
  pub after : first ≤ at
  pub held : end ≤ first + size

-- the run is counted: at its nodes, and `own` for b
pub record Counted (edges counts : List ℕ) (first size b at end own : ℕ) : Type 0 where
  pub each : counts ≡ degrees_to edges first size b end
  pub mine : count_to (edge edges b) at + own ≡ count_to (edge edges b) end

-- a degree with one edge more where `on`, and with one less elsewhere
unfoldable pub moved : Bool → ℕ → ℕ
moved on degree = cond on (degree + 1) (degree - 1)

-- the degrees with that at a and b
unfoldable pub shifted : List ℕ → ℕ → ℕ → Bool → List ℕ
shifted degrees a b on = set (set degrees a (moved on (get_or degrees a 0))) b (moved on (get_or degrees b 0))

-- neither degree wraps
pub record Shiftable (degrees : List ℕ) (a b : ℕ) (on : Bool) : Type 0 where
  pub first_below : a < length degrees
  pub second_below : b < length degrees
  pub first_some : 0 < get_or degrees a 0 + bit on
  pub second_some : 0 < get_or degrees b 0 + bit on
  pub first_fits : get_or degrees a 0 + bit on < 65536
  pub second_fits : get_or degrees b 0 + bit on < 65536
