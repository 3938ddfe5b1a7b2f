-- Reconcile: the state is mine; theirs and the original (here the base) come as two more edge buffers. Assumes nothing.
use Rattle.std.specs.Prelude.{cond, not, ◌&&◌, List, [], ◌∷◌, ◌++◌, ℕ, zero, suc, length}
use Rattle.packed.specs.Bits.{differ}
use Rattle.packed.specs.Edges.{edge}
use Rattle.ego.specs.Graph.{Graph}
use Rattle.state.specs.Sizes.{edge_bytes}
use Rattle.state.specs.State.{State, size, graph}
use Rattle.state.specs.Refusal.{Condition, buffer_length, crowded_before, crowded_after, everyone}
use Rattle.state.specs.Outcome.{Outcome, outcome, lengths}
use Rattle.edits.specs.Edit.{added, removed}

-- The pairs where theirs differs from the original and from mine take theirs.
unfoldable pub takes : Graph → Graph → Graph → Graph
takes mine theirs base a b = differ (theirs a b) (base a b) && differ (theirs a b) (mine a b)

unfoldable pub merged : Graph → Graph → Graph → Graph
merged mine theirs base a b = cond (takes mine theirs base a b) (theirs a b) (mine a b)

-- A change for each pair a < b < n, in bit order: by b, then by a.
unfoldable pub over_row : {A : Type 0} → (ℕ → ℕ → A → A) → ℕ → ℕ → A → A
over_row change b zero s = s
over_row change b (suc a) s = change a b (over_row change b a s)

unfoldable pub over_pairs : {A : Type 0} → (ℕ → ℕ → A → A) → ℕ → A → A
over_pairs change zero s = s
over_pairs change (suc b) s = over_row change b b (over_pairs change b s)

abbrev pub removing : Graph → Graph → Graph → ℕ → ℕ → State → State
removing mine theirs base a b s = cond (takes mine theirs base a b && not (theirs a b)) (removed s a b) s

abbrev pub adding : Graph → Graph → Graph → ℕ → ℕ → State → State
adding mine theirs base a b s = cond (takes mine theirs base a b && theirs a b) (added s a b) s

-- The state ends as after those removals in bit order, then those additions in bit order.
abbrev pub merging : State → Graph → Graph → State
merging s theirs base = over_pairs (adding (graph s) theirs base) (size s) (over_pairs (removing (graph s) theirs base) (size s) s)

unfoldable pub reconciled : State → List ℕ → List ℕ → State
reconciled s theirs base = merging s (edge theirs) (edge base)

-- g is the graph before the call, and g' the graph after it
abbrev pub reconcile_conditions : ℕ → Graph → Graph → List ℕ → List ℕ → List Condition
reconcile_conditions n g g' theirs base =
    buffer_length (edge_bytes n) (length theirs) ∷ buffer_length (edge_bytes n) (length base) ∷ crowded_before g n everyone ∷ crowded_after g' n everyone ∷ []

unfoldable pub reconcile_call : State → List ℕ → List ℕ → Outcome
reconcile_call s theirs base =
    outcome (lengths s ++ reconcile_conditions (size s) (graph s) (merged (graph s) (edge theirs) (edge base)) theirs base) s (reconciled s theirs base)
