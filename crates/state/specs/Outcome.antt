-- What a call that writes the state leaves. Assumes nothing.
use Rattle.std.specs.Prelude.{cond, List, [], ◌∷◌, ◌++◌, ℕ, eqb, length}
use Rattle.state.specs.Sizes.{edge_bytes}
use Rattle.state.specs.Marks.{mark_bytes}
use Rattle.state.specs.State.{State, size}
use Rattle.state.specs.Refusal.{Condition, refusal, node_count, buffer_length}

-- the refusal number, and the state as the call leaves it
pub record Outcome : Type 0 where
  pub refusal : ℕ
  pub after : State

abbrev pub left : ℕ → State → Outcome
left refusal after = record { refusal = refusal; after = after }

-- A call that is accepted leaves `after`; one that is refused leaves the state as it was.
unfoldable pub outcome : List Condition → State → State → Outcome
outcome conditions before after =
    let r = refusal conditions in
    record { refusal = r; after = cond (eqb r 0) after before }

-- 1 and 2 of n nodes and the lengths of their edges, and of their marks too
abbrev pub edge_lengths : ℕ → ℕ → List Condition
edge_lengths n edges = node_count n ∷ buffer_length (edge_bytes n) edges ∷ []

abbrev pub state_lengths : ℕ → ℕ → ℕ → List Condition
state_lengths n edges marks = edge_lengths n edges ++ buffer_length (mark_bytes n) marks ∷ []

-- 1 and 2 of the state itself
unfoldable pub lengths : State → List Condition
lengths s = state_lengths (size s) (length s.edges) (length s.marks)
