-- Two graphs that differ in one edge. Assumes nothing.
use Rattle.std.specs.Prelude.{false, true, ◌≡◌, ℕ}
use Rattle.ego.specs.Graph.{Graph, Simple}

-- g' is g with the edge u, v more; so g is g' with that edge removed
pub record Gains (g g' : Graph) (u v : ℕ) : Type 0 where
  pub old : Simple g
  pub new : Simple g'
  pub absent : g u v ≡ false
  pub present : g' u v ≡ true
  pub others : (a b : ℕ) → (a ≡ u → b ≡ v → ⊥) → (a ≡ v → b ≡ u → ⊥) → g a b ≡ g' a b
