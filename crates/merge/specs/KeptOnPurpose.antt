-- Kept on purpose (02): what pins change of a reconcile, and what the first conflict shows. Assumes nothing.
use Rattle.std.specs.Prelude.{true, false, List, [], ◌∷◌, ◌++◌, ◌↔◌, ◌⊎◌, ◌≢◌, ◌≡◌, ℕ, ◌≤◌, ◌<◌, length}
use Rattle.packed.specs.Edges.{edge}
use Rattle.packed.specs.Pairs.{pair_index}
use Rattle.ego.specs.Graph.{Graph}
use Rattle.state.specs.Sizes.{edge_bytes}
use Rattle.state.specs.State.{State, size, graph}
use Rattle.state.specs.Refusal.{Condition, crowded_before, everyone, refusal}
use Rattle.state.specs.Answers.{Nowhere, Refused}
use Rattle.state.specs.Outcome.{lengths}
use Rattle.merge.specs.Conflict.{between, conflict_call, conflict_conditions}
use Rattle.merge.specs.Pinned.{Brought, brought_lengths, in_conflict, pinned_call}
use Rattle.merge.specs.Reconcile.{reconcile_call}

-- Pins of the edges' length, and no pair confirmed.
pub record NothingPinned (n : ℕ) (pins : List ℕ) : Type 0 where
  pub long : length pins ≡ edge_bytes n
  pub none : (a b : ℕ) → a < n → b < n → edge pins a b ≡ false

-- Mine and theirs differ on the pair, and the editor who kept the original confirmed it.
pub record Overruled (g : Graph) (k : Brought) (a b : ℕ) : Type 0 where
  pub differs : g a b ≢ edge k.theirs a b
  pub confirmed : ((g a b ≡ edge k.base a b) × (edge k.pins a b ≡ true)) ⊎ ((edge k.theirs a b ≡ edge k.base a b) × (edge k.their_pins a b ≡ true))

-- The lowest pair in bit order that is in conflict.
pub record Lowest (g : Graph) (n : ℕ) (k : Brought) (a b : ℕ) : Type 0 where
  pub below : a < b
  pub inside : b < n
  pub here : in_conflict g k a b ≡ true
  pub lowest : (c d : ℕ) → c < d → d < n → in_conflict g k c d ≡ true → pair_index a b ≤ pair_index c d

-- the conditions before 15
abbrev pub first_conditions : State → Brought → List Condition
first_conditions s k = lengths s ++ (brought_lengths (size s) k ++ crowded_before (graph s) (size s) everyone ∷ [])

-- KEPT ON PURPOSE. proofs/KeptOnPurpose has its proof.
pub record KeptOnPurpose : Type 0 where
  -- Boards with nothing confirmed reconcile as in 01: the answer, and every byte.
  pub unpinned : (s : State) (k : Brought) → NothingPinned (size s) k.pins → NothingPinned (size s) k.their_pins
      → pinned_call s k ≡ reconcile_call s k.theirs k.base
  -- An accepted call leaves exactly what 01's reconcile leaves, which accepts too.
  pub accepted : (s : State) (k : Brought) → (pinned_call s k).refusal ≡ 0 → pinned_call s k ≡ reconcile_call s k.theirs k.base
  -- Pins of the edges' length add refusal 15 and nothing else.
  pub adds : (s : State) (k : Brought) → length k.pins ≡ edge_bytes (size s) → length k.their_pins ≡ edge_bytes (size s) → (pinned_call s k).refusal ≢ 15
      → pinned_call s k ≡ reconcile_call s k.theirs k.base
  -- It is 15 exactly if no condition before it applies, and on some pair mine and theirs differ and the editor who kept the original confirmed it.
  pub turned : (s : State) (k : Brought)
      → ((pinned_call s k).refusal ≡ 15) ↔ ((refusal (first_conditions s k) ≡ 0) × (a : ℕ) × (b : ℕ) × (a < b) × (b < size s) × Overruled (graph s) k a b)
  -- The first conflict is a pair exactly if the reconcile, past its first conditions, turns back with 15.
  pub shown : (s : State) (k : Brought) → refusal (first_conditions s k) ≡ 0
      → ((a : ℕ) × (b : ℕ) × (conflict_call s.edges (size s) k ≡ between a b)) ↔ ((pinned_call s k).refusal ≡ 15)
  -- A pair is the answer exactly if it is the lowest in conflict,
  pub lowest : (edges : List ℕ) (n : ℕ) (k : Brought) → refusal (conflict_conditions edges n k) ≡ 0 → (a b : ℕ)
      → (conflict_call edges n k ≡ between a b) ↔ Lowest (edge edges) n k a b
  -- none exactly if no pair is,
  pub none : (edges : List ℕ) (n : ℕ) (k : Brought) → refusal (conflict_conditions edges n k) ≡ 0
      → (conflict_call edges n k ≡ Nowhere) ↔ ((a b : ℕ) → a < b → b < n → in_conflict (edge edges) k a b ≡ false)
  -- and otherwise the call is refused.
  pub refused : (edges : List ℕ) (n : ℕ) (k : Brought) → refusal (conflict_conditions edges n k) ≢ 0
      → conflict_call edges n k ≡ Refused (refusal (conflict_conditions edges n k))
