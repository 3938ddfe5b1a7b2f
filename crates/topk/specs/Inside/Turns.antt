-- What the list's functions say of the lent buffers: what they ask, and what a turn and the whole list leave. Assumes nothing.
use Rattle.std.specs.Prelude.{cond, false, true, None, Option, Some, List, ◌≡◌, ◌*◌, ◌+◌, ◌<◌, ℕ, ◌≤◌, get_or, length}
use Rattle.arith.specs.Sums.{bit}
use Rattle.ego.specs.Graph.{degree}
use Rattle.ego.specs.Limits.{limit}
use Rattle.ego.specs.Score.{score}
use Rattle.packed.specs.Edges.{edge}
use Rattle.packed.specs.Inside.Room.{Room}
use Rattle.state.specs.Marks.{mark_bytes, stale}
use Rattle.topk.specs.Entries.{entries_of, over}
use Rattle.topk.specs.Inside.Layout.{Ordered}
use Rattle.topk.specs.Inside.Next.{HeadsAre, Lookable, looking_in, stopped, taken_of}
use Rattle.topk.specs.Steps.{Progress, step}
use Rattle.topk.specs.declared.turns.Turn.{Turn}
use Rattle.topk.specs.declared.worth.Worth.{Worth}

-- ---- what is asked

-- each node has few enough edges to be scored
pub record Scorable (n : ℕ) (edges : List ℕ) : Type 0 where
  pub room : Room n edges
  pub few : (p : ℕ) → p < n → degree (edge edges) n p ≤ limit

-- nodes that the list can work on: they can be scored, and each has a mark
pub record Workable (n : ℕ) (edges marks : List ℕ) : Type 0 where
  pub scorable : Scorable n edges
  pub marks_fit : mark_bytes n ≤ length marks

-- what a list of k entries asks: such nodes, and room for the entries
pub record ListFits (n : ℕ) (edges marks entries : List ℕ) (k : ℕ) : Type 0 where
  pub workable : Workable n edges marks
  pub entries_fit : 2 * k ≤ length entries
  pub some : 0 < k

-- what a turn asks besides: a bit for each node, the heads of the blocks, at most k kept, in order, and not every node recomputed
pub record TurnFits (figures edges marks taken entries : List ℕ) (k : ℕ) (t : Turn) : Type 0 where
  pub list : ListFits (length figures) edges marks entries k
  pub lookable : Lookable figures taken
  pub heads_are : HeadsAre (looking_in figures taken) t.heads
  pub fit : t.kept ≤ k
  pub ordered : Ordered (entries_of t.kept entries)
  pub less : t.recomputed < length figures

-- ---- one turn

abbrev pub truth_of : List ℕ → List ℕ → ℕ → ℕ
truth_of edges figures = score (edge edges) (length figures)

-- a node's figure as it is listed, and how many nodes have been recomputed then
abbrev pub worth_of : List ℕ → List ℕ → List ℕ → ℕ → ℕ → Worth
worth_of edges figures marks p recomputed = record {
  figure = cond (stale marks p) (truth_of edges figures p) (get_or figures p 0);
  recomputed = recomputed + bit (stale marks p);
}

-- the list as it lies in the buffers
abbrev pub progress_of : List ℕ → List ℕ → List ℕ → List ℕ → Turn → Progress
progress_of figures marks taken entries t =
    record { figures = figures; marks = marks; taken = taken_of (length figures) taken; kept = entries_of t.kept entries; recomputed = t.recomputed }

-- the buffers and the heads hold the list s; the entries lie over what was there
pub record Holds (s : Progress) (figures marks taken before entries : List ℕ) (t : Turn) : Type 0 where
  pub figures_are : figures ≡ s.figures
  pub marks_are : marks ≡ s.marks
  pub taken_are : taken_of (length figures) taken ≡ s.taken
  pub entries_are : entries ≡ over s.kept before
  pub heads_are : HeadsAre (looking_in figures taken) t.heads
  pub kept_is : t.kept ≡ length s.kept
  pub recomputed_is : t.recomputed ≡ s.recomputed

-- the list s has stopped, and nothing was written
pub record Done (k : ℕ) (s : Progress) (figures marks taken before entries : List ℕ) : Type 0 where
  pub stops : stopped k s ≡ true
  pub figures_are : figures ≡ s.figures
  pub marks_are : marks ≡ s.marks
  pub taken_are : taken_of (length figures) taken ≡ s.taken
  pub entries_are : entries ≡ before

-- the list s has not stopped, and the buffers hold it one step on
pub record Gone (truth : ℕ → ℕ) (k : ℕ) (s : Progress) (t : Turn) (figures marks taken before entries : List ℕ) : Type 0 where
  pub goes : stopped k s ≡ false
  pub holds : Holds (step truth k s) figures marks taken before entries t

-- a turn of the list s, which finds that it is done or leaves it one step on
abbrev pub Turned : (ℕ → ℕ) → ℕ → Progress → Option Turn → List ℕ → List ℕ → List ℕ → List ℕ → List ℕ → Type 0
Turned truth k s None figures marks taken before entries = Done k s figures marks taken before entries
Turned truth k s (Some t) figures marks taken before entries = Gone truth k s t figures marks taken before entries

-- ---- the whole list

-- what the list s leaves in the buffers that it writes
pub record Leaves (s : Progress) (figures marks before entries : List ℕ) (recomputed : ℕ) : Type 0 where
  pub figures_are : figures ≡ s.figures
  pub marks_are : marks ≡ s.marks
  pub entries_are : entries ≡ over s.kept before
  pub recomputed_is : recomputed ≡ s.recomputed
