-- Demand 2: each score is exactly the ego-betweenness, and a reconcile gives each pair what the editor left who changed it, or with pins has spoken on it.
-- The shortest paths are those of the relation `Shortest`: no list of walks, no distance and no division is read here. Assumes nothing.
use Rattle.std.specs.Prelude.{◌≡◌, Bool, true, ◌↔◌, ◌⊎◌, ◌≢◌, ℕ, ◌*◌, ◌<◌, length}
use mathlib.Core.List.{List, map, Memᴰ}
use Rattle.arith.specs.Lists.{count, Distinct, pairs, sum}
use Rattle.packed.specs.Edges.{edge}
use Rattle.ego.specs.Limits.{unit}
use Rattle.ego.specs.Graph.{Graph, neighbours, ego, inner, Shortest}
use Rattle.state.specs.State.{State, size, graph}
use Rattle.calls.specs.Score.{score_call}
use Rattle.merge.specs.Pinned.{Brought, pinned_call}
use Rattle.merge.specs.Reconcile.{reconcile_call}

-- All shortest paths from u to v inside the neighbourhood of p, each once; there is one at least.
pub record ShortestPaths (g : Graph) (n p u v : ℕ) (paths : List (List ℕ)) : Type 0 where
  pub all : (path : List ℕ) → Memᴰ path paths ↔ Shortest g (ego g n p) u v path
  pub once : Distinct paths
  pub some : 0 < length paths

-- The pair's share, in grains: the number of those through p (as an inner node) over the number of all.
pub record Share (g : Graph) (n p u v grains : ℕ) : Type 0 where
  pub paths : List (List ℕ)
  pub these : ShortestPaths g n p u v paths
  pub counted : grains * length paths ≡ unit * count (inner p) paths

-- The ego-betweenness of p, in grains: the sum of the shares of the unordered pairs of p's neighbours.
pub record EgoBetweenness (g : Graph) (n p grains : ℕ) : Type 0 where
  pub share_of : ℕ × ℕ → ℕ
  pub shares : (u v : ℕ) → Memᴰ (u, v) (pairs (neighbours g n p)) → Share g n p u v (share_of (u, v))
  pub total : grains ≡ sum (map share_of (pairs (neighbours g n p)))

-- The state of a pair: as the editor who changed it left it, else as in the common original.
pub record Reconciled (mine theirs original after : Bool) : Type 0 where
  pub i_changed : mine ≢ original → after ≡ mine
  pub they_changed : theirs ≢ original → after ≡ theirs
  pub nobody_changed : mine ≡ original → theirs ≡ original → after ≡ original

-- An editor has spoken on a pair by confirming it or by leaving it other than the original (02).
abbrev pub Spoken : Bool → Bool → Bool → Type 0
Spoken pinned left original = (pinned ≡ true) ⊎ (left ≢ original)

-- The state of a pair where it may be confirmed: where one has spoken, that state stands; where both have and they agree, so does theirs; else the original's.
pub record Upheld (my_pin their_pin mine theirs original after : Bool) : Type 0 where
  pub i_spoke : Spoken my_pin mine original → after ≡ mine
  pub they_spoke : Spoken their_pin theirs original → after ≡ theirs
  pub nobody_spoke : (Spoken my_pin mine original → ⊥) → (Spoken their_pin theirs original → ⊥) → after ≡ original

-- DEMAND 2. proofs/Demand2 has its proof.
pub record Demand2 : Type 0 where
  -- An accepted score call answers exactly the ego-betweenness, by counted shortest paths in the node's own neighbourhood.
  pub scores : (edges : List ℕ) (n p : ℕ) → (score_call edges n p).refusal ≡ 0 → EgoBetweenness (edge edges) n p (score_call edges n p).score
  -- An accepted reconcile gives each pair the state left by the editor who changed it, else the common original's.
  pub merges : (s : State) (theirs base : List ℕ) → (reconcile_call s theirs base).refusal ≡ 0 → (a b : ℕ) → a < size s → b < size s
      → Reconciled (graph s a b) (edge theirs a b) (edge base a b) (graph (reconcile_call s theirs base).after a b)
  -- An accepted reconcile with pins gives each pair the state left by the editor who has spoken on it, else the common original's.
  pub upholds : (s : State) (k : Brought) → (pinned_call s k).refusal ≡ 0 → (a b : ℕ) → a < size s → b < size s
      → Upheld (edge k.pins a b) (edge k.their_pins a b) (graph s a b) (edge k.theirs a b) (edge k.base a b) (graph (pinned_call s k).after a b)
