-- What a search is given: the rows of a graph and a set of listed nodes. Assumes nothing.
use Rattle.std.specs.Prelude.{List, Option, ◌≡◌, ℕ, ◌≤◌, ◌<◌}
use Rattle.arith.specs.Lists.{elem}
use Rattle.packed.specs.Pairs.{max_nodes}
use Rattle.ego.specs.Graph.{Graph}
use Rattle.nearest.specs.Nearest.{nearest_of}
use Rattle.nearest.specs.Inside.Strips.{Rows, SetOf}
use Rattle.nearest.specs.declared.search.Near.{Near}

-- p is one of the graph's n nodes; the rows are theirs, and the set is that of the listed nodes
pub record Searchable (rows set : List ℕ) (p : ℕ) (g : Graph) (n : ℕ) (listed : List ℕ) : Type 0 where
  pub few : n ≤ max_nodes
  pub inside : p < n
  pub rows_are : Rows g n rows
  pub set_is : SetOf set (λ q. elem q listed)

-- the answer is the nearest, whatever graph and list these are of
abbrev pub Finds : List ℕ → List ℕ → ℕ → ℕ → Option Near → Type 0
Finds rows set p limit answer = (g : Graph) (n : ℕ) (listed : List ℕ) → Searchable rows set p g n listed → answer ≡ nearest_of g n p listed limit
