-- The single changes of a reconcile, one add or remove each. Assumes nothing.
use Rattle.std.specs.Prelude.{◌≡◌, not, ◌&&◌, List, [], ◌∷◌, ◌++◌, map, ℕ, zero, suc}
use Rattle.arith.specs.Lists.{filter, range}
use Rattle.packed.specs.Edges.{edge}
use Rattle.ego.specs.Graph.{Graph}
use Rattle.state.specs.State.{State, size, graph}
use Rattle.state.specs.Outcome.{Outcome}
use Rattle.edits.specs.Edit.{add_call, remove_call}
use Rattle.merge.specs.Reconcile.{takes}

-- The pairs a < b < n in bit order: by b, then by a.
unfoldable pub pairs_below : ℕ → List (ℕ × ℕ)
pairs_below zero = []
pairs_below (suc b) = pairs_below b ++ map (λ (a : ℕ). (a, b)) (range 0 b)

-- A single change: the link a, b removed, or added.
pub data Change : Type 0 where
  removal : ℕ → ℕ → Change
  addition : ℕ → ℕ → Change

-- The call that makes it.
unfoldable pub make : State → Change → Outcome
make s (removal a b) = remove_call s a b
make s (addition a b) = add_call s a b

-- A change of each of the pairs that is chosen.
abbrev pub change_each : (ℕ → ℕ → Change) → Graph → List (ℕ × ℕ) → List Change
change_each change chosen pairs = map (λ c. change c.0 c.1) (filter (λ c. chosen c.0 c.1) pairs)

-- Of the pairs that take theirs: those that theirs does not have are removed, then those that theirs has are added, each in bit order.
unfoldable pub changes : State → List ℕ → List ℕ → List Change
changes s theirs base =
    change_each removal (λ a b. takes (graph s) (edge theirs) (edge base) a b && not (edge theirs a b)) (pairs_below (size s))
    ++ change_each addition (λ a b. takes (graph s) (edge theirs) (edge base) a b && edge theirs a b) (pairs_below (size s))

-- The changes are made one after the other from s: each is accepted, and the last leaves t.
abbrev pub Accepts : State → List Change → State → Type 0
Accepts s [] t = s ≡ t
Accepts s (change ∷ changes) t = ((make s change).refusal ≡ 0) × Accepts (make s change).after changes t
