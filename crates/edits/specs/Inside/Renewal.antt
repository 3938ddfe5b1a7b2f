-- What an edit leaves to be written to the figures: the nodes that it touches, with their bounds. Assumes nothing.
use Rattle.std.specs.Prelude.{Bool, true, cond, List, ◌≡◌, ℕ, zero, suc, ◌^◌, ◌≤◌, ◌<◌, ltb, get_or, set, Result, Ok, Err}
use Rattle.packed.specs.Edges.{edge}
use Rattle.packed.specs.Pairs.{max_nodes}
use Rattle.packed.specs.Inside.Room.{Room}
use Rattle.packed.specs.Inside.Rows.{in_set}
use Rattle.ego.specs.Bound.{bound}
use Rattle.ego.specs.Graph.{degree}
use Rattle.ego.specs.Limits.{limit}
use Rattle.edits.specs.Edit.{new_figure}
use Rattle.edits.specs.Inside.Touched.{max_touched, of_each}
use Rattle.state.specs.declared.refusal.Refusal.{Refusal}
use Rattle.edits.specs.declared.renewal.Renewal.{Renewal}
use Rattle.edits.specs.declared.touched.Touched.{Touched}

-- the touched nodes with their bounds in a graph of n nodes: the ends take theirs where an edge is added, and all where one is removed
abbrev pub renewal_by : Bool → Touched → List ℕ → ℕ → Renewal
renewal_by on t edges n = record {
  touching = t;
  bounds = of_each (bound (edge edges) n) t.nodes t.count;
  taken = cond on 2 t.count;
}

-- the first `count` nodes have bounds
pub record BoundEach (edges : List ℕ) (n : ℕ) (nodes : List ℕ) (count : ℕ) : Type 0 where
  pub room : Room n edges
  pub few : count ≤ max_touched
  pub below : (i : ℕ) → i < count → get_or nodes i 0 < n
  pub within : (i : ℕ) → i < count → degree (edge edges) n (get_or nodes i 0) ≤ limit

-- the set has the neighbours of the first `count` nodes
abbrev pub Covers : List ℕ → ℕ → List ℕ → ℕ → List ℕ → Type 0
Covers edges n nodes count set = (i q : ℕ) → i < count → q < n → edge edges (get_or nodes i 0) q ≡ true → in_set set q ≡ true

-- its nodes are some of n, and their bounds numbers of 64 bits
pub record Renewable (r : Renewal) (n : ℕ) : Type 0 where
  pub few : r.touching.count ≤ max_touched
  pub small : (i : ℕ) → i < r.touching.count → get_or r.touching.nodes i 0 < max_nodes
  pub below : (i : ℕ) → i < r.touching.count → get_or r.touching.nodes i 0 < n
  pub fits : (i : ℕ) → i < r.touching.count → get_or r.bounds i 0 < 2 ^ 64

-- the figure of a node that is renewed: its bound, or the smaller of the two
abbrev pub figure_by : Bool → ℕ → ℕ → ℕ
figure_by takes figure bound = new_figure takes true figure bound

-- the figures, where the first `count` nodes are renewed, and of these the first `taken` take their bounds
unfoldable pub renew_each : List ℕ → List ℕ → ℕ → List ℕ → ℕ → List ℕ
renew_each nodes bounds taken figures zero = figures
renew_each nodes bounds taken figures (suc i) =
    let old = renew_each nodes bounds taken figures i in
    let p = get_or nodes i 0 in
    set old p (figure_by (ltb i taken) (get_or old p 0) (get_or bounds i 0))

abbrev pub renewed_by : Renewal → List ℕ → List ℕ
renewed_by r figures = renew_each r.touching.nodes r.bounds r.taken figures r.touching.count

-- a refused edit renews nothing
abbrev pub renewed_after : Result Renewal Refusal → List ℕ → List ℕ
renewed_after (Ok r) figures = renewed_by r figures
renewed_after (Err e) figures = figures
