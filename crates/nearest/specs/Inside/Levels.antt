-- The levels of a breadth-first search. Assumes nothing.
use Rattle.std.specs.Prelude.{Bool, not, ◌&&◌, ℕ, ◌+◌, ltb}
use Rattle.arith.specs.Sums.{any_to}
use Rattle.ego.specs.Graph.{Graph}
use Rattle.nearest.specs.Paths.{reaches}

-- v is reached from u over at most h links
unfoldable pub within : Graph → ℕ → ℕ → ℕ → ℕ → Bool
within g n u h v = any_to (λ k. reaches g n k u v) (h + 1)

-- v is reached over h links and over no fewer
unfoldable pub new_at : Graph → ℕ → ℕ → ℕ → ℕ → Bool
new_at g n u h v = reaches g n h u v && not (any_to (λ k. reaches g n k u v) h)

-- two of the first n nodes that are linked
unfoldable pub among : Graph → ℕ → ℕ → ℕ → Bool
among g n x y = ltb x n && (ltb y n && g x y)
