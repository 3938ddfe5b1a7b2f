-- A graph with one pair changed. Assumes nothing.
use Rattle.std.specs.Prelude.{◌&&◌, Bool, cond, ◌||◌, ℕ, eqb}
use Rattle.ego.specs.Graph.{Graph}

-- the pair a, b put in or taken out
unfoldable pub with_pair : Graph → ℕ → ℕ → Bool → Graph
with_pair g a b on x y = cond ((eqb x a && eqb y b) || (eqb x b && eqb y a)) on (g x y)
