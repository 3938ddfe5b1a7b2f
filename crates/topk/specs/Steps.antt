-- The steps of the list, for any state, with false figures too. Assumes nothing.
use Rattle.std.specs.Prelude.{false, cond, List, [], ℕ, zero, suc, ◌+◌, eqb, get_or, set, replicate, length}
use Rattle.arith.specs.Sums.{bit}
use Rattle.state.specs.Marks.{stale, with_mark}
use Rattle.topk.specs.Entries.{Entry, entry, ranks_before, keep, stops}

-- the stored figures, the marks, which nodes are taken (0 is not), the kept entries, and how many nodes were recomputed (01: worked out)
pub record Progress : Type 0 where
  pub figures : List ℕ
  pub marks : List ℕ
  pub taken : List ℕ
  pub kept : List Entry
  pub recomputed : ℕ

-- a node with its stored figure
abbrev pub stored : Progress → ℕ → Entry
stored s p = entry p (get_or s.figures p 0)

-- which node is next
pub data Next : Type 0 where
  nothing : Next
  at : ℕ → Next

-- of the best so far and node i, the one that ranks first by stored figure; a node that is taken does not count
unfoldable pub better : Progress → Next → ℕ → Next
better s nothing i = cond (eqb (get_or s.taken i 0) 0) (at i) nothing
better s (at b) i = cond (eqb (get_or s.taken i 0) 0) (cond (ranks_before (stored s i) (stored s b)) (at i) (at b)) (at b)

-- the first by rank among the nodes below i that are not taken
unfoldable pub best_below : Progress → ℕ → Next
best_below s zero = nothing
best_below s (suc i) = better s (best_below s i) i

-- A stale node is worked out; an exact node's figure is its own. `truth` is the score.
unfoldable pub worth : (ℕ → ℕ) → Progress → ℕ → ℕ
worth truth s p = cond (stale s.marks p) (truth p) (get_or s.figures p 0)

-- node p is taken: a stale node's figure becomes its score and it is settled; the best k are kept
unfoldable pub took : (ℕ → ℕ) → ℕ → Progress → ℕ → Progress
took truth k s p = record {
  figures = set s.figures p (worth truth s p);
  marks = with_mark s.marks p false;
  taken = set s.taken p 1;
  kept = keep k (entry p (worth truth s p)) s.kept;
  recomputed = s.recomputed + bit (stale s.marks p);
}

-- before each, stop if k are kept and the next node ranks after the last kept; the list stands still once it stops
unfoldable pub step_at : (ℕ → ℕ) → ℕ → Progress → Next → Progress
step_at truth k s nothing = s
step_at truth k s (at p) = cond (stops k (stored s p) s.kept) s (took truth k s p)

unfoldable pub step : (ℕ → ℕ) → ℕ → Progress → Progress
step truth k s = step_at truth k s (best_below s (length s.figures))

unfoldable pub steps : (ℕ → ℕ) → ℕ → ℕ → Progress → Progress
steps truth k zero s = s
steps truth k (suc t) s = step truth k (steps truth k t s)

abbrev pub at_start : List ℕ → List ℕ → Progress
at_start figures marks = record { figures = figures; marks = marks; taken = replicate (length figures) 0; kept = []; recomputed = 0 }

-- as many steps as there are nodes
unfoldable pub all_steps : (ℕ → ℕ) → ℕ → List ℕ → List ℕ → Progress
all_steps truth k figures marks = steps truth k (length figures) (at_start figures marks)
