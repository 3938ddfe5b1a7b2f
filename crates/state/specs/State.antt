-- The state (01's slate) that the caller lends, and how it is read. Assumes nothing.
use Rattle.std.specs.Prelude.{Bool, List, ℕ, length, get_or}
use Rattle.packed.specs.Edges.{edge}
use Rattle.ego.specs.Graph.{Graph}
use Rattle.state.specs.Marks.{stale}

-- edges: a bit for each pair; figures: a number for each node; marks: as Marks has them
pub record State : Type 0 where
  pub edges : List ℕ
  pub figures : List ℕ
  pub marks : List ℕ

abbrev pub state : List ℕ → List ℕ → List ℕ → State
state edges figures marks = record { edges = edges; figures = figures; marks = marks }

-- n is the count of the figures
abbrev pub size : State → ℕ
size s = length s.figures

abbrev pub graph : State → Graph
graph s = edge s.edges

abbrev pub figure : State → ℕ → ℕ
figure s p = get_or s.figures p 0

abbrev pub is_stale : State → ℕ → Bool
is_stale s p = stale s.marks p
