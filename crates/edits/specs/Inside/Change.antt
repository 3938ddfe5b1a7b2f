-- One edit, an add where `on` and a removal elsewhere: what it tests, what it answers and leaves, and what its parts require. Assumes nothing.
use Rattle.std.specs.Prelude.{Bool, cond, not, List, [], ◌∷◌, ◌++◌, ◌≢◌, ◌≡◌, ℕ, ◌+◌, ◌≤◌, ◌<◌, max, get_or, length, IfOk, Result}
use Rattle.packed.specs.Inside.Room.{Room}
use Rattle.packed.specs.Edges.{edge, with_edge}
use Rattle.ego.specs.Limits.{limit}
use Rattle.ego.specs.Graph.{Graph, degree}
use Rattle.state.specs.Marks.{mark_bytes}
use Rattle.state.specs.State.{State, state, size, graph}
use Rattle.state.specs.Refusal.{Condition, refusal, node_number, same_nodes, edge_present, edge_absent, crowded_before, crowded_after, ends, touched}
use Rattle.state.specs.Answers.{refusal_of}
use Rattle.state.specs.declared.refusal.Refusal.{Refusal}
use Rattle.state.specs.Outcome.{Outcome, left, outcome, state_lengths}
use Rattle.edits.specs.Edit.{added, removed}
use Rattle.edits.specs.Inside.Touched.{Lists, Markable, touched_of}
use Rattle.edits.specs.Inside.Renewal.{BoundEach, renewal_by, Renewable, renewed_after}
use Rattle.edits.specs.declared.renewal.Renewal.{Renewal}
use Rattle.edits.specs.declared.touched.Touched.{Touched}

-- a state after it, where it is accepted
abbrev pub changed : State → ℕ → ℕ → Bool → State
changed s a b on = cond on (added s a b) (removed s a b)

-- 4 and 5; 6 of an add, 7 of a removal
abbrev pub pair_conditions : ℕ → Graph → ℕ → ℕ → Bool → List Condition
pair_conditions n g a b on = node_number n a ∷ node_number n b ∷ same_nodes a b ∷ cond on (edge_present g a b) (edge_absent g a b) ∷ []

-- 11; 12 of an add
abbrev pub crowding : List ℕ → ℕ → ℕ → ℕ → Bool → List Condition
crowding edges n a b on =
    crowded_before (edge edges) n (touched (edge edges) a b) ∷ cond on (crowded_after (edge (with_edge edges a b on)) n (ends a b) ∷ []) []

-- all that it tests
abbrev pub edit_conditions : List ℕ → List ℕ → ℕ → ℕ → ℕ → Bool → List Condition
edit_conditions edges marks n a b on = state_lengths n (length edges) (length marks) ++ (pair_conditions n (edge edges) a b on ++ crowding edges n a b on)

-- the whole call
abbrev pub edit_call : State → ℕ → ℕ → Bool → Outcome
edit_call s a b on = outcome (edit_conditions s.edges s.marks (size s) a b on) s (changed s a b on)

-- what it leaves to be written to the figures: its touched nodes, with their bounds after it
unfoldable pub renewal_of : List ℕ → ℕ → ℕ → ℕ → Bool → Renewal
renewal_of edges n a b on = renewal_by on (touched_of (edge edges) n a b) (with_edge edges a b on) n

-- Under some conditions it is refused, or answers one renewal, and leaves edges and marks that are the call's, with figures that are renewed, whatever they were.
pub record Renews (conditions : List Condition) (edges marks : List ℕ) (n a b : ℕ) (on : Bool) (r : Result Renewal Refusal) (edges' marks' : List ℕ) : Type 0 where
  pub answer : refusal_of r ≡ refusal conditions
  pub ready : IfOk r (λ v. (v ≡ renewal_of edges n a b on) × Renewable v n)
  pub whole : (figures : List ℕ) → length figures ≡ n →
      let s = state edges figures marks in
      left (refusal_of r) (state edges' (renewed_after r figures) marks') ≡ outcome conditions s (changed s a b on)

-- under all its conditions
abbrev pub Edits : List ℕ → List ℕ → ℕ → ℕ → ℕ → Bool → Result Renewal Refusal → List ℕ → List ℕ → Type 0
Edits edges marks n a b on = Renews (edit_conditions edges marks n a b on) edges marks n a b on

-- its pair is accepted
pub record Changeable (edges : List ℕ) (n a b : ℕ) (on : Bool) : Type 0 where
  pub first_below : a < n
  pub second_below : b < n
  pub apart : a ≢ b
  pub was : edge edges a b ≡ not on
  pub room : Room n edges

-- the nodes that it touches are at hand too, and none has more edges than the limit, before it and after it
pub record Editable (edges : List ℕ) (n a b : ℕ) (on : Bool) (t : Touched) : Type 0 where
  pub pair : Changeable edges n a b on
  pub listed : Lists (edge edges) n a b t
  pub few_before : (i : ℕ) → i < t.count → degree (edge edges) n (get_or t.nodes i 0) ≤ limit
  pub few_after : (i : ℕ) → i < t.count → degree (edge (with_edge edges a b on)) n (get_or t.nodes i 0) ≤ limit

-- the refusal under some conditions; where there is none, the nodes that an edit touches that can be made
pub record Examines (conditions : List Condition) (edges : List ℕ) (n a b : ℕ) (on : Bool) (r : Result Touched Refusal) : Type 0 where
  pub answer : refusal_of r ≡ refusal conditions
  pub ready : IfOk r (Editable edges n a b on)

-- its lengths and its pair are accepted, and no node has more edges than the limit, before it and after it
pub record Steppable (s : State) (a b : ℕ) (on : Bool) : Type 0 where
  pub pair : Changeable s.edges (size s) a b on
  pub marked : mark_bytes (size s) ≤ length s.marks
  pub few_before : (p : ℕ) → p < size s → degree (graph s) (size s) p ≤ limit
  pub few_after : (p : ℕ) → p < size s → degree (edge (with_edge s.edges a b on)) (size s) p ≤ limit

-- the touched nodes can be marked, and have bounds after it
pub record Appliable (edges marks : List ℕ) (n a b : ℕ) (on : Bool) (t : Touched) : Type 0 where
  pub room : Room (max a b + 1) edges
  pub marking : Markable t.nodes t.count marks
  pub bounding : BoundEach (with_edge edges a b on) n t.nodes t.count
