-- One pair of a reconcile as the loops decide it, from what they stand at, and what they need. Assumes nothing.
use Rattle.std.specs.Prelude.{Bool, cond, true, ◌&&◌, ◌||◌, List, ◌≡◌, ℕ, ◌+◌, ◌≤◌, ◌<◌, max, length}
use Rattle.std.specs.Bool.{beq}
use Rattle.packed.specs.Bits.{differ}
use Rattle.packed.specs.Inside.Room.{Room}
use Rattle.packed.specs.Edges.{edge, with_edge}
use Rattle.packed.specs.Inside.Degrees.{shifted, Shiftable}
use Rattle.ego.specs.Limits.{limit}
use Rattle.ego.specs.Graph.{degree, Graph}
use Rattle.state.specs.Marks.{mark_bytes}
use Rattle.state.specs.Refusal.{Condition}
use Rattle.state.specs.State.{State, graph, size}
use Rattle.edits.specs.Inside.Change.{changed}
use Rattle.merge.specs.Reconcile.{merged, over_pairs, reconcile_conditions, takes}

-- the conditions of a reconcile of these edges after those of the state's lengths
abbrev pub merge_conditions : ℕ → List ℕ → List ℕ → List ℕ → List Condition
merge_conditions n mine theirs base = reconcile_conditions n (edge mine) (merged (edge mine) (edge theirs) (edge base)) theirs base

-- ---- the degrees after the call

-- the edges, the pair set as theirs where it takes theirs
unfoldable pub settled : Graph → Graph → Graph → ℕ → ℕ → List ℕ → List ℕ
settled mine theirs base a b edges = cond (takes mine theirs base a b) (with_edge edges a b (theirs a b)) edges

-- every pair so
abbrev pub merged_edges : List ℕ → List ℕ → List ℕ → ℕ → List ℕ
merged_edges mine theirs base n = over_pairs (settled (edge mine) (edge theirs) (edge base)) n mine

-- the degrees, those of the pair shifted where it takes theirs
unfoldable pub corrects : List ℕ → List ℕ → List ℕ → ℕ → ℕ → List ℕ → List ℕ
corrects mine theirs base a b degrees = cond (takes (edge mine) (edge theirs) (edge base) a b) (shifted degrees a b (edge theirs a b)) degrees

pub record Correctable (mine theirs base degrees : List ℕ) (a b : ℕ) : Type 0 where
  pub mine_room : Room (max a b + 1) mine
  pub theirs_room : Room (max a b + 1) theirs
  pub base_room : Room (max a b + 1) base
  pub shiftable : takes (edge mine) (edge theirs) (edge base) a b ≡ true → Shiftable degrees a b (edge theirs a b)

-- ---- the state

-- the pair is set to `on` where it takes theirs and theirs has it so
unfoldable pub stepped : Bool → Graph → Graph → ℕ → ℕ → State → State
stepped on theirs base a b s = cond (takes (graph s) theirs base a b && beq (theirs a b) on) (changed s a b on) s

-- every pair so
abbrev pub all_stepped : Bool → List ℕ → List ℕ → State → State
all_stepped on theirs base s = over_pairs (stepped on (edge theirs) (edge base)) (size s) s

-- the edges that a graph may have on the way: its own and, of the additions, those that theirs has added
unfoldable pub cap : Bool → Graph → Graph → Graph → Graph
cap on theirs base g a b = g a b || (on && (theirs a b && differ (theirs a b) (base a b)))

-- the lengths that the loops need, and no node with more edges than the limit on the way
pub record Ready (on : Bool) (theirs base : List ℕ) (s : State) : Type 0 where
  pub room : Room (size s) s.edges
  pub marked : mark_bytes (size s) ≤ length s.marks
  pub theirs_room : Room (size s) theirs
  pub base_room : Room (size s) base
  pub capped : (p : ℕ) → p < size s → degree (cap on (edge theirs) (edge base) (graph s)) (size s) p ≤ limit
