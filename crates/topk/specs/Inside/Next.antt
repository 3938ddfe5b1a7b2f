-- Which node comes next, by the best of each block of nodes, and when the list stops. Assumes nothing.
use Rattle.std.specs.Prelude.{Bool, cond, true, IfSome, None, Option, Some, [], List, ◌≢◌, ◌≡◌, ℕ, zero, suc, ◌+◌, ◌-◌, ◌*◌, ◌/◌, ◌<◌, ◌≤◌, min, ltb, get_or, length}
use Rattle.arith.specs.Sums.{bit, tabulate}
use Rattle.packed.specs.Bits.{bit_at}
use Rattle.packed.specs.Pairs.{max_nodes}
use Rattle.topk.specs.Entries.{entry, ranks_before, stops}
use Rattle.topk.specs.Steps.{at, best_below, better, Next, nothing, Progress, stored}

unfoldable pub next : Progress → Next
next s = best_below s (length s.figures)

-- nothing is next, or what is next ranks after the last of k kept entries
unfoldable pub stopped_at : ℕ → Progress → Next → Bool
stopped_at k s nothing = true
stopped_at k s (at p) = stops k (stored s p) s.kept

unfoldable pub stopped : ℕ → Progress → Bool
stopped k s = stopped_at k s (next s)

-- ---- what a function looks at, and the number that it answers

-- the taken ones of n nodes are bits of the scratch
unfoldable pub taken_of : ℕ → List ℕ → List ℕ
taken_of n scratch = tabulate (λ p. bit (bit_at scratch p)) n

-- a list of which only the figures and the taken nodes are looked at
abbrev pub looking : List ℕ → List ℕ → Progress
looking figures taken = record { figures = figures; marks = []; taken = taken; kept = []; recomputed = 0 }

abbrev pub looking_in : List ℕ → List ℕ → Progress
looking_in figures scratch = looking figures (taken_of (length figures) scratch)

-- what a number names: a node below n, and nothing where it is n
unfoldable pub next_of : ℕ → ℕ → Next
next_of n p = cond (ltb p n) (at p) nothing

-- r names what is found among n nodes
pub record Names (n : ℕ) (found : Next) (r : ℕ) : Type 0 where
  pub within : r ≤ n
  pub named : next_of n r ≡ found

-- r is what is found among n nodes
abbrev pub node_of : Option ℕ → Next
node_of None = nothing
node_of (Some p) = at p

pub record Found (n : ℕ) (found : Next) (r : Option ℕ) : Type 0 where
  pub within : IfSome r (λ p. p < n)
  pub named : node_of r ≡ found

-- figures and bits of no more nodes than there may be
pub record Lookable (figures scratch : List ℕ) : Type 0 where
  pub few : length figures ≤ max_nodes
  pub bits : length figures ≤ 8 * length scratch

-- ---- blocks of nodes

abbrev pub block_size : ℕ
block_size = 16

abbrev pub max_blocks : ℕ
max_blocks = max_nodes / block_size

-- how many blocks n nodes have, and how many of them are in block b: fewer than others in the last
abbrev pub blocks_for : ℕ → ℕ
blocks_for n = (n + (block_size - 1)) / block_size

abbrev pub block_nodes : ℕ → ℕ → ℕ
block_nodes n b = min block_size (n - block_size * b)

-- the first by rank among the m nodes from `from` on that are not taken
unfoldable pub best_from : Progress → ℕ → ℕ → Next
best_from s from zero = nothing
best_from s from (suc m) = better s (best_from s from m) (from + m)

-- a block's head: its first by rank that is not taken
unfoldable pub head_of : Progress → ℕ → Next
head_of s b = best_from s (block_size * b) (block_nodes (length s.figures) b)

-- the head of block b is named in its place
abbrev pub HeadAt : Progress → List ℕ → ℕ → Type 0
HeadAt s heads b = Names (length s.figures) (head_of s b) (get_or heads b 0)

-- the heads of all blocks are; of all but one
abbrev pub HeadsAre : Progress → List ℕ → Type 0
HeadsAre s heads = (b : ℕ) → b < blocks_for (length s.figures) → HeadAt s heads b

abbrev pub HeadsBut : Progress → List ℕ → ℕ → Type 0
HeadsBut s heads but = (b : ℕ) → b < blocks_for (length s.figures) → b ≢ but → HeadAt s heads b

-- of two, the one that ranks first by its figure; the first of the two where neither does
unfoldable pub first_of : List ℕ → Next → Next → Next
first_of figures nothing y = y
first_of figures (at a) nothing = at a
first_of figures (at a) (at b) = cond (ranks_before (entry b (get_or figures b 0)) (entry a (get_or figures a 0))) (at b) (at a)

-- the first by rank of the first m heads
unfoldable pub best_head : List ℕ → List ℕ → ℕ → Next
best_head figures heads zero = nothing
best_head figures heads (suc m) = first_of figures (best_head figures heads m) (next_of (length figures) (get_or heads m 0))
