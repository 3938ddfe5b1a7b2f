-- Kept on purpose (02): reconcile where each editor may confirm a pair unchanged. Assumes nothing.
use Rattle.std.specs.Prelude.{cond, ◌&&◌, ◌||◌, List, [], ◌∷◌, ◌++◌, ℕ, length}
use Rattle.packed.specs.Bits.{differ}
use Rattle.packed.specs.Edges.{edge}
use Rattle.ego.specs.Graph.{Graph}
use Rattle.state.specs.Sizes.{edge_bytes}
use Rattle.state.specs.State.{State, size, graph}
use Rattle.state.specs.Refusal.{Condition, buffer_length, crowded_before, crowded_after, everyone, some_conflict}
use Rattle.state.specs.Outcome.{Outcome, outcome, lengths}
use Rattle.merge.specs.Reconcile.{merging}

-- An editor: the links as the editor leaves them, and the pairs that the editor confirms.
pub record Editor : Type 0 where
  pub links : Graph
  pub pinned : Graph

-- An editor has spoken on a pair by confirming it or by leaving it other than the original.
unfoldable pub spoken : Editor → Graph → Graph
spoken editor base a b = editor.pinned a b || differ (editor.links a b) (base a b)

-- Where one has spoken, that state stands; where both have and they agree, so does theirs; where nobody has, the original.
unfoldable pub standing : Editor → Editor → Graph → Graph
standing mine theirs base a b = cond (spoken theirs base a b) (theirs.links a b) (cond (spoken mine base a b) (mine.links a b) (base a b))

-- Both have spoken on the pair and left it different.
unfoldable pub conflict : Editor → Editor → Graph → Graph
conflict mine theirs base a b = (spoken mine base a b && spoken theirs base a b) && differ (mine.links a b) (theirs.links a b)

-- What the call brings besides the state, which is mine: my pins, theirs, their pins and the original, each a bit for each pair; 1 of a pin is confirmed.
pub record Brought : Type 0 where
  pub pins : List ℕ
  pub theirs : List ℕ
  pub their_pins : List ℕ
  pub base : List ℕ

abbrev pub brought : List ℕ → List ℕ → List ℕ → List ℕ → Brought
brought pins theirs their_pins base = record { pins = pins; theirs = theirs; their_pins = their_pins; base = base }

-- the two editors, g being the links of mine
abbrev pub me : Graph → Brought → Editor
me g k = record { links = g; pinned = edge k.pins }

abbrev pub them : Brought → Editor
them k = record { links = edge k.theirs; pinned = edge k.their_pins }

abbrev pub stands : Graph → Brought → Graph
stands g k = standing (me g k) (them k) (edge k.base)

abbrev pub in_conflict : Graph → Brought → Graph
in_conflict g k = conflict (me g k) (them k) (edge k.base)

-- 2 of what is brought
abbrev pub brought_lengths : ℕ → Brought → List Condition
brought_lengths n k =
    buffer_length (edge_bytes n) (length k.pins) ∷ buffer_length (edge_bytes n) (length k.theirs) ∷
    buffer_length (edge_bytes n) (length k.their_pins) ∷ buffer_length (edge_bytes n) (length k.base) ∷ []

-- 15 is tested after 11 and before 12.
abbrev pub pinned_conditions : ℕ → Graph → Brought → List Condition
pinned_conditions n g k =
    brought_lengths n k ++ crowded_before g n everyone ∷ some_conflict (in_conflict g k) n ∷ crowded_after (stands g k) n everyone ∷ []

-- The pairs where what stands differs from mine take it: the removals in bit order, then the additions in bit order.
unfoldable pub reconciled_pinned : State → Brought → State
reconciled_pinned s k = merging s (stands (graph s) k) (graph s)

unfoldable pub pinned_call : State → Brought → Outcome
pinned_call s k = outcome (lengths s ++ pinned_conditions (size s) (graph s) k) s (reconciled_pinned s k)
