-- Add and remove an edge. Assumes nothing.
use Rattle.std.specs.Prelude.{Bool, true, false, cond, List, [], ◌∷◌, ◌++◌, ℕ, min, length, get_or}
use Rattle.arith.specs.Sums.{tabulate}
use Rattle.packed.specs.Edges.{edge, with_edge}
use Rattle.ego.specs.Graph.{Graph}
use Rattle.ego.specs.Bound.{bound}
use Rattle.state.specs.Marks.{stale_to}
use Rattle.state.specs.State.{State, size, graph}
use Rattle.state.specs.Refusal.{Condition, node_number, same_nodes, edge_present, edge_absent, crowded_before, crowded_after, ends, touched}
use Rattle.state.specs.Outcome.{Outcome, outcome, lengths}

-- A figure after an edit: the new ceiling, or the smaller of the figure and it, or the figure as it was.
unfoldable pub new_figure : Bool → Bool → ℕ → ℕ → ℕ
new_figure takes lowers figure ceiling = cond takes ceiling (cond lowers (min figure ceiling) figure)

-- The figures, where the nodes that pass the first test take their ceilings in g, and of the others those that pass the second the smaller of the two.
unfoldable pub renewed : Graph → List ℕ → (ℕ → Bool) → (ℕ → Bool) → List ℕ
renewed g figures takes lowers = tabulate (λ p. new_figure (takes p) (lowers p) (get_or figures p 0) (bound g (length figures) p)) (length figures)

-- The edge a, b set or cleared. Of the ends and their common neighbours those that pass the test take their ceilings after the change, and the others
-- the smaller of figure and ceiling; all become open.
unfoldable pub edited : State → ℕ → ℕ → Bool → (ℕ → Bool) → State
edited s a b on takes =
    let edges = with_edge s.edges a b on in
    let touching = touched (graph s) a b in
    record {
      edges = edges;
      figures = renewed (edge edges) s.figures takes touching;
      marks = stale_to touching s.marks (size s);
    }

-- Add: both ends take their ceilings. Each common neighbour takes the smaller of its figure and its ceiling.
unfoldable pub added : State → ℕ → ℕ → State
added s a b = edited s a b true (ends a b)

-- Remove: both ends and every common neighbour take their ceilings.
unfoldable pub removed : State → ℕ → ℕ → State
removed s a b = edited s a b false (touched (graph s) a b)

-- g is the graph before the call, and g' the graph after it
abbrev pub add_conditions : ℕ → Graph → Graph → ℕ → ℕ → List Condition
add_conditions n g g' a b =
    node_number n a ∷ node_number n b ∷ same_nodes a b ∷ edge_present g a b ∷ crowded_before g n (touched g a b) ∷ crowded_after g' n (ends a b) ∷ []

unfoldable pub add_call : State → ℕ → ℕ → Outcome
add_call s a b = outcome (lengths s ++ add_conditions (size s) (graph s) (edge (with_edge s.edges a b true)) a b) s (added s a b)

abbrev pub remove_conditions : ℕ → Graph → ℕ → ℕ → List Condition
remove_conditions n g a b = node_number n a ∷ node_number n b ∷ same_nodes a b ∷ edge_absent g a b ∷ crowded_before g n (touched g a b) ∷ []

unfoldable pub remove_call : State → ℕ → ℕ → Outcome
remove_call s a b = outcome (lengths s ++ remove_conditions (size s) (graph s) a b) s (removed s a b)
