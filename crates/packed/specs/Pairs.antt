-- Unordered pairs of nodes, and their numbers. Assumes nothing.
use Rattle.std.specs.Prelude.{Bool, ◌&&◌, ◌||◌, ℕ, ◌+◌, ◌-◌, ◌*◌, ◌/◌, min, max, eqb}
use Rattle.arith.specs.Sums.{any_to}

-- the most nodes that a graph may have
abbrev pub max_nodes : ℕ
max_nodes = 256

-- how many pairs n nodes have
unfoldable pub pair_count : ℕ → ℕ
pair_count n = n * (n - 1) / 2

-- the number of the pair of a and b, named in either order: b (b - 1) / 2 + a where a < b
unfoldable pub pair_index : ℕ → ℕ → ℕ
pair_index a b = pair_count (max a b) + min a b

-- x and y are the pair of a and b, named in either order
unfoldable pub same_pair : ℕ → ℕ → ℕ → ℕ → Bool
same_pair x y a b = eqb x a && eqb y b || eqb x b && eqb y a

-- some two of n nodes, a < b, pass a test
unfoldable pub any_pair : (ℕ → ℕ → Bool) → ℕ → Bool
any_pair f n = any_to (λ b. any_to (λ a. f a b) b) n
